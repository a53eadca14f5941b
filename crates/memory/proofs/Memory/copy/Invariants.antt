use Rattle.std.proofs.Common.{◌≡◌}
use Rattle.memory.specs.Spans.{copied}
use Rattle.memory.proofs.Memory.copy.Given as goal

abbrev pub invariant-loop-i : goal.invariant-loop-i
invariant-loop-i g l = g.Self.Memory.bytes l.self ≡ copied (g.Self.Memory.bytes l.initial.self) l.from l.to l.i
