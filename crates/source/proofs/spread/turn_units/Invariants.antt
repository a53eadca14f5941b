use Rattle.std.proofs.Common.{◌≡◌, ℕ, ◌*◌, ◌<◌, ◌≤◌, slice_index}
use Rattle.source.specs.Strips.{turned}
use Rattle.source.proofs.spread.turn_units.Given as goal

abbrev pub invariant-loop-i : goal.invariant-loop-i
invariant-loop-i l = record {
  below : (j : ℕ) → j < 2 * l.i → slice_index l.bytes j ≡ slice_index l.initial.bytes (turned 16 j);
  above : (j : ℕ) → 2 * l.i ≤ j → slice_index l.bytes j ≡ slice_index l.initial.bytes j;
}
