use Rattle.std.proofs.Common.{◌≡◌, ◌/◌, drop}
use Rattle.memory.specs.Cells.{of_cells}
use Rattle.memory.specs.Spans.{merged}
use Rattle.memory.proofs.Cell.merge.Given as goal

abbrev pub invariant-loop-i : goal.invariant-loop-i
invariant-loop-i g l = record {
  put : of_cells g.Self.Cell.BYTES g.Self.Cell.byte l.block
      ≡ merged (g.F.ByteRule.gives l.rule) (of_cells g.Self.Cell.BYTES g.Self.Cell.byte l.initial.block) l.first l.second l.to l.i;
  rest : drop (16777216 / g.Self.Cell.BYTES) l.block ≡ drop (16777216 / g.Self.Cell.BYTES) l.initial.block;
}
