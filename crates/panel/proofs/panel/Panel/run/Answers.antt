use Rattle.std.proofs.Common.{true, false, Ok, sym, refl, subst}
use Rattle.job.specs.Works.{run_after}
use Rattle.panel.specs.State.{seen}
use Rattle.panel.specs.Histories.{RunGoesOn}
use Rattle.panel.specs.declared.activity.Activity.TheVariants.{Idle, Drawing}
use Rattle.panel.proofs.Goings.{run_on}
use Rattle.panel.proofs.panel.Panel.run.Goals as goal

pub returns-then-not-runs-clause-history : goal.returns-then-not-runs-clause-history
returns-then-not-runs-clause-history g c =
    let s = seen g.M.Memory.bytes c.args.self.now in
    let t = record s { memory = g.M.Memory.bytes c.run.new.memory; doing = Idle } in
    let w = c.in-Drawing.begun in
    let n = c.args.pixels in
    let count = c.in_ok-count.count in
    let e = c.in_ok-count.ensures in
    subst (λ d. RunGoesOn s d n (Ok count) t) (sym c.in-Drawing.is)
    (run_on s t w c.run.new.self (run_after w s.palette s.memory n) e.job false n count e.answer c.if-not-runs.ensures.answer refl e.allowed e.history)

pub returns-else-not-runs-clause-history : goal.returns-else-not-runs-clause-history
returns-else-not-runs-clause-history g c =
    let s = seen g.M.Memory.bytes c.args.self.now in
    let t = record s { memory = g.M.Memory.bytes c.run.new.memory; doing = Drawing c.run.new.self } in
    let w = c.in-Drawing.begun in
    let n = c.args.pixels in
    let count = c.in_ok-count.count in
    let e = c.in_ok-count.ensures in
    subst (λ d. RunGoesOn s d n (Ok count) t) (sym c.in-Drawing.is)
    (run_on s t w c.run.new.self (run_after w s.palette s.memory n) e.job true n count e.answer c.if-not-runs.ensures.answer refl e.allowed e.history)
