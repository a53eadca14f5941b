use Rattle.std.proofs.Common.{◌≡◌, ℕ, ◌-◌, ◌*◌, ◌/◌, ◌%◌, ◌^◌, ◌<◌, slice_index}
use Rattle.source.proofs.spread.spread_whole.Given as goal

abbrev pub invariant-loop-i : goal.invariant-loop-i
invariant-loop-i l = (j : ℕ) → j < 8 * l.i → slice_index l.into j ≡ slice_index l.bytes (j / 8) / 2 ^ (7 - j % 8) % 2
