use Rattle.std.proofs.Common.{◌≡◌, true, ◌≤◌, length, Ok, sym, ap, ◌∙◌, subst, rules, arith}
use Rattle.rules.proofs.Meanings.{rule_means}
use Rattle.job.specs.States.{work_of}
use Rattle.job.specs.Works.{awaits, at_stage, feed_answer, feed_after, FedOnly, FeedTakes, FeedGoesOn}
use Rattle.job.proofs.Under.{inside, feed_answer_is, feed_after_is, feeds_awaited}
use Rattle.job.proofs.job.Begun.feed.Goals as goal

pub returns : goal.returns
returns g c =
    let m = g.M.Memory.bytes c.args.memory.now in
    let n = g.M.Memory.bytes c.feed_inside.new.memory in
    let p = c.args.palette.now in
    let xs = c.args.sent.now in
    let w = work_of c.self.inside in
    let after = work_of (record c.self.inside { progress = c.feed_inside.new.progress }) in
    let size : w.size ≤ length m = omega (arith, c.size.ensures) in
    let e = c.feed_inside.ensures.inside (inside w m c.self.invariant size) in
    let a : awaits w ≡ true = ap awaits c.self.view_is ∙ sym c.if-not-awaits.ensures.answer in
    let stage = e.after ∙ feed_after_is w m c.self.invariant size a p xs in
    let r = Ok c.feed_inside.result in
    let all = subst
    (λ v. (r ≡ feed_answer v p m xs) × (n ≡ (feed_after v p m xs).memory) × (after ≡ at_stage v (feed_after v p m xs))
    × FedOnly v r m n × FeedTakes v xs r m after n × FeedGoesOn v p xs r m after n)
    c.self.view_is
    (e.answer ∙ feed_answer_is w m c.self.invariant size a p xs, ap (λ s. s.memory) stage, ap (at_stage w) stage, e.only, e.rest, e.history) in
    record {
      answer = all.0;
      memory = all.1;
      job = all.2;
      allowed = feeds_awaited c.args.self.now m p xs r after all.0 all.2;
      only = all.3;
      rule = rule_means c.args.self.now.plan.rule;
      rest = all.4;
      history = all.5;
      keeps = search rules;
    }

pub invariant_of-self : goal.invariant_of-self
invariant_of-self g c =
    let m = g.M.Memory.bytes c.args.memory.now in
    let w = work_of c.self.inside in
    let size : w.size ≤ length m = omega (arith, c.size.ensures) in
    let e = c.feed_inside.ensures.inside (inside w m c.self.invariant size) in
    record { inside = c.self.invariant.inside; under_way = (e.rest c.self.invariant.under_way).under_way }
