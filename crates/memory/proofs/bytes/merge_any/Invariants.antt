use Rattle.std.proofs.Common.{◌≡◌}
use Rattle.memory.specs.Spans.{merged}
use Rattle.memory.proofs.bytes.merge_any.Given as goal

abbrev pub invariant-loop-i : goal.invariant-loop-i
invariant-loop-i g l = l.memory ≡ merged (g.F.ByteRule.gives l.rule) l.initial.memory l.first l.second l.to l.i
