use Rattle.std.proofs.Common.{◌≡◌, ℕ, ◌-◌, ◌/◌, ◌%◌, ◌^◌, ◌<◌, length, slice_index}
use Rattle.source.proofs.spread.eight_bits.Given as goal

abbrev pub invariant-loop-i : goal.invariant-loop-i
invariant-loop-i l = (length l.bits ≡ 8) × ((j : ℕ) → j < l.i → slice_index l.bits j ≡ l.byte / 2 ^ (7 - j) % 2)
