use Rattle.std.proofs.Common.{◌≡◌, ◌/◌, take, drop}
use Rattle.memory.specs.Cells.{of_cells}
use Rattle.memory.specs.Spans.{overlaid}
use Rattle.memory.proofs.Cell.store.Given as goal

abbrev pub invariant-loop-i : goal.invariant-loop-i
invariant-loop-i g l = record {
  put : of_cells g.Self.Cell.BYTES g.Self.Cell.byte l.block ≡ overlaid (of_cells g.Self.Cell.BYTES g.Self.Cell.byte l.initial.block) l.address (take l.i l.from);
  rest : drop (16777216 / g.Self.Cell.BYTES) l.block ≡ drop (16777216 / g.Self.Cell.BYTES) l.initial.block;
}
