use Rattle.std.proofs.Common.{◌≡◌, ◌+◌, true, ◌≤◌, length, Ok, sym, ap, ◌∙◌, subst, arith}
use Rattle.rules.proofs.Meanings.{rule_means}
use Rattle.job.specs.States.{work_of}
use Rattle.job.specs.Works.{runs, at_stage, run_answer, run_after, Ran, RunGoesOn}
use Rattle.job.proofs.Under.{inside, run_answer_is, run_after_is, run_memory_is, runs_allowed, further_is, further_keeps, further_story}
use Rattle.job.proofs.job.Begun.run.Goals as goal

pub invariant_of-self : goal.invariant_of-self
invariant_of-self g c =
    let m = g.M.Memory.bytes c.args.memory.now in
    let w = work_of c.self.inside in
    let size : w.size ≤ length m = omega (arith, c.size.ensures) in
    let r : runs w ≡ true = ap runs c.self.view_is ∙ sym c.if-not-runs.ensures.answer in
    let e = c.draw_inside-count.ensures.inside (inside w m c.self.invariant size) in
    further_keeps w m c.self.invariant size r c.args.allowance c.draw_inside-count.result e.answer

pub returns : goal.returns
returns g c =
    let m = g.M.Memory.bytes c.args.memory.now in
    let n = g.M.Memory.bytes c.draw_inside-count.new.memory in
    let p = c.args.palette.now in
    let k = c.args.allowance in
    let count = c.draw_inside-count.result in
    let w = work_of c.self.inside in
    let progress = record c.self.inside.progress { drawn = c.self.inside.progress.drawn + count } in
    let after = work_of (record c.self.inside { progress = progress }) in
    let size : w.size ≤ length m = omega (arith, c.size.ensures) in
    let e = c.draw_inside-count.ensures.inside (inside w m c.self.invariant size) in
    let r : runs w ≡ true = ap runs c.self.view_is ∙ sym c.if-not-runs.ensures.answer in
    let memory = e.after ∙ run_memory_is w m c.self.invariant size r k p ∙ sym (ap (λ s. s.memory) (run_after_is w m c.self.invariant size r k p)) in
    let story : RunGoesOn w p m after n = λ start sent s. further_story w m c.self.invariant size r k count e.answer p n start sent e.history s in
    let all = subst
    (λ v. (Ok count ≡ run_answer v m k) × (n ≡ (run_after v p m k).memory) × (after ≡ at_stage v (run_after v p m k)) × Ran v p (Ok count) m n × RunGoesOn v p m after n)
    c.self.view_is
    (e.answer ∙ run_answer_is w m c.self.invariant size r k, memory, further_is w m c.self.invariant size r k count e.answer p, e.drew, story) in
    record {
      answer = all.0;
      memory = all.1;
      job = all.2;
      allowed = runs_allowed c.args.self.now m p k (Ok count) after all.0 all.2;
      pixels = all.3;
      rule = rule_means c.args.self.now.plan.rule;
      history = all.4;
      keeps = further_keeps w m c.self.invariant size r k count e.answer;
    }
