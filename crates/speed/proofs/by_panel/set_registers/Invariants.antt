use Rattle.std.proofs.Common.{◌≡◌, drop}
use Rattle.panel.specs.State.{seen}
use Rattle.speed.specs.Panels.{after_writes}
use Rattle.speed.proofs.by_panel.set_registers.Given as goal

-- the writes that are left come to what all of them did
abbrev pub invariant-loop-write : goal.invariant-loop-write
invariant-loop-write g l =
    after_writes (seen g.M.Memory.bytes l.panel) (drop l.write-index l.writes) ≡ after_writes (seen g.M.Memory.bytes l.initial.panel) l.writes
