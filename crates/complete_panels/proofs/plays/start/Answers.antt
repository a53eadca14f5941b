use Rattle.std.proofs.Common.{is_ok, ap, ◌∙◌}
use Rattle.panel.specs.State.{seen, written}
use Rattle.complete_panels.proofs.Starting.{accepted}
use Rattle.complete_panels.proofs.plays.start.Goals as goal

pub returns-clause-answer : goal.returns-clause-answer
returns-clause-answer g c =
    let s = seen g.M.Memory.bytes c.args.panel.now in
    c.is_ok.ensures.value ∙ accepted c.write.result (written s 144 c.control.result) c.write.ensures.answer ∙ ap (λ v. is_ok (written s 144 v)) c.control.ensures
