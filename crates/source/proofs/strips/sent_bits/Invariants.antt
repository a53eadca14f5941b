use Rattle.std.proofs.Common.{◌≡◌, ℕ, ◌+◌, ◌/◌, ◌%◌, ◌^◌, ◌<◌, slice_index}
use Rattle.source.specs.Rows.{rows_of, bit_of}
use Rattle.source.proofs.strips.sent_bits.Given as goal

abbrev pub invariant-loop-i : goal.invariant-loop-i
invariant-loop-i l = (j : ℕ) → j < l.i → slice_index l.into j ≡ l.sent / 2 ^ bit_of (rows_of l.fn.rows) (l.k + j) % 2
