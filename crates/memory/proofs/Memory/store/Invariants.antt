use Rattle.std.proofs.Common.{◌≡◌, take}
use Rattle.memory.specs.Spans.{overlaid}
use Rattle.memory.proofs.Memory.store.Given as goal

abbrev pub invariant-loop-i : goal.invariant-loop-i
invariant-loop-i g l = g.Self.Memory.bytes l.self ≡ overlaid (g.Self.Memory.bytes l.initial.self) l.address (take l.i l.from)
