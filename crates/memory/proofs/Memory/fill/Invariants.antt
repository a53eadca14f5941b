use Rattle.std.proofs.Common.{◌≡◌}
use Rattle.memory.specs.Spans.{overlaid, times}
use Rattle.memory.proofs.Memory.fill.Given as goal

abbrev pub invariant-loop-k : goal.invariant-loop-k
invariant-loop-k g l = g.Self.Memory.bytes l.self ≡ overlaid (g.Self.Memory.bytes l.initial.self) l.address (times l.pixel l.k)
