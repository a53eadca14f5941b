use Rattle.std.proofs.Common.{false, map, ◌∙◌, arith}
use Rattle.std.proofs.lemmas.Grind.{common_steps}
use Rattle.complete.specs.Parts.{portion_of}
use Rattle.panel.specs.State.{seen}
use Rattle.complete_panels.proofs.Starting.{declined}
use Rattle.complete_panels.proofs.Performing.{performs}
use Rattle.complete_panels.proofs.plays.draw_on.Goals as goal

pub returns-then-not-start-clause-drawn : goal.returns-then-not-start-clause-drawn
returns-then-not-start-clause-drawn g c =
    let s = seen g.M.Memory.bytes c.args.panel.now in
    let facts = c.if-not-start.ensures in
    λ idle.
    performs s idle c.args.large c.args.parts.now (seen g.M.Memory.bytes c.start.new.panel) false
    (facts.after ∙ declined s c.args.large (map portion_of c.args.parts.now) facts.answer) (grind (arith, common_steps))

pub returns-clause-drawn : goal.returns-clause-drawn
returns-clause-drawn g c =
    λ idle.
    performs (seen g.M.Memory.bytes c.args.panel.now) idle c.args.large c.args.parts.now (seen g.M.Memory.bytes c.play_all.new.panel)
    c.is_ready.result (grind (arith, common_steps)) (grind (arith, common_steps))
