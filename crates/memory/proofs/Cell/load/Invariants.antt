use Rattle.std.proofs.Common.{◌≡◌, ℕ, ◌+◌, ◌<◌, length, get_or}
use Rattle.memory.specs.Cells.{of_cells}
use Rattle.memory.proofs.Cell.load.Given as goal

abbrev pub invariant-loop-i : goal.invariant-loop-i
invariant-loop-i g l = record {
  long : length l.into ≡ length l.initial.into;
  read : (k : ℕ) → k < l.i → get_or l.into k 0 ≡ get_or (of_cells g.Self.Cell.BYTES g.Self.Cell.byte l.block) (l.address + k) 0;
}
