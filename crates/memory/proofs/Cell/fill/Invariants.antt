use Rattle.std.proofs.Common.{◌≡◌, ◌/◌, drop}
use Rattle.memory.specs.Cells.{of_cells}
use Rattle.memory.specs.Spans.{overlaid, times}
use Rattle.memory.proofs.Cell.fill.Given as goal

abbrev pub invariant-loop-k : goal.invariant-loop-k
invariant-loop-k g l = record {
  put : of_cells g.Self.Cell.BYTES g.Self.Cell.byte l.block ≡ overlaid (of_cells g.Self.Cell.BYTES g.Self.Cell.byte l.initial.block) l.address (times l.pixel l.k);
  rest : drop (16777216 / g.Self.Cell.BYTES) l.block ≡ drop (16777216 / g.Self.Cell.BYTES) l.initial.block;
}
