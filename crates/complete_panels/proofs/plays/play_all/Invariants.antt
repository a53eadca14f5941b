use Rattle.std.proofs.Common.{◌≡◌, map, take}
use Rattle.complete.specs.Parts.{portion_of}
use Rattle.panel.specs.State.{seen}
use Rattle.complete_panels.specs.Plays.{all_played}
use Rattle.complete_panels.proofs.plays.play_all.Given as goal

abbrev pub invariant-loop-part : goal.invariant-loop-part
invariant-loop-part g l =
    seen g.M.Memory.bytes l.panel ≡ all_played (seen g.M.Memory.bytes l.initial.panel) (map portion_of (take l.part-index l.parts))
