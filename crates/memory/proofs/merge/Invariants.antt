use Rattle.std.proofs.Common.{◌≡◌}
use Rattle.memory.specs.Spans.{merged}
use Rattle.memory.proofs.merge.Given as goal

abbrev pub invariant-loop-i : goal.invariant-loop-i
invariant-loop-i g l = g.M.Memory.bytes l.memory ≡ merged (g.F.ByteRule.gives l.rule) (g.M.Memory.bytes l.initial.memory) l.first l.second l.to l.i
