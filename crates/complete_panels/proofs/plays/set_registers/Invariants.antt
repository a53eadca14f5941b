use Rattle.std.proofs.Common.{◌≡◌, take}
use Rattle.panel.specs.State.{seen}
use Rattle.complete_panels.specs.Plays.{all_set}
use Rattle.complete_panels.proofs.plays.set_registers.Given as goal

abbrev pub invariant-loop-write : goal.invariant-loop-write
invariant-loop-write g l =
    seen g.M.Memory.bytes l.panel ≡ all_set (seen g.M.Memory.bytes l.initial.panel) (take l.write-index l.writes)
