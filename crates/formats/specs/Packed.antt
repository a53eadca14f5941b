-- The canvas formats: red in the highest bits, blue in the lowest.
use Rattle.std.specs.Prelude.{ℕ, ◌+◌, ◌*◌, ◌/◌, ◌%◌}
use Rattle.std.proofs.Common.{arith, lit≤}
use Rattle.colour.specs.declared.Colour.{Colour}
use Rattle.colour.specs.Widths.{widened, narrowed}
use Rattle.colour.specs.Channels.{rgb}
use Rattle.colour.specs.Formats.{Format}

abbrev pub colour332 : ℕ → Colour
colour332 v = rgb (widened 3 (v / 32 % 8)) (widened 3 (v / 4 % 8)) (widened 2 (v % 4))

abbrev pub narrow332 : Colour → ℕ
narrow332 c = (narrowed 3 c.red * 8 + narrowed 3 c.green) * 4 + narrowed 2 c.blue

abbrev pub format332 : Format
format332 = record {
  width = 1;
  colour = λ _ v. colour332 v;
  some = lit≤ tt;
  few = lit≤ tt;
  wide = λ _ v. record { red = omega arith; green = omega arith; blue = omega arith };
}

abbrev pub colour565 : ℕ → Colour
colour565 v = rgb (widened 5 (v / 2048 % 32)) (widened 6 (v / 32 % 64)) (widened 5 (v % 32))

abbrev pub narrow565 : Colour → ℕ
narrow565 c = (narrowed 5 c.red * 64 + narrowed 6 c.green) * 32 + narrowed 5 c.blue

abbrev pub format565 : Format
format565 = record {
  width = 2;
  colour = λ _ v. colour565 v;
  some = lit≤ tt;
  few = lit≤ tt;
  wide = λ _ v. record { red = omega arith; green = omega arith; blue = omega arith };
}

abbrev pub colour888 : ℕ → Colour
colour888 v = rgb (widened 8 (v / 65536 % 256)) (widened 8 (v / 256 % 256)) (widened 8 (v % 256))

abbrev pub narrow888 : Colour → ℕ
narrow888 c = (narrowed 8 c.red * 256 + narrowed 8 c.green) * 256 + narrowed 8 c.blue

abbrev pub format888 : Format
format888 = record {
  width = 3;
  colour = λ _ v. colour888 v;
  some = lit≤ tt;
  few = lit≤ tt;
  wide = λ _ v. record { red = omega arith; green = omega arith; blue = omega arith };
}
