-- 5:6:5 with blue in the highest bits and red in the lowest.
use Rattle.std.specs.Prelude.{ℕ, ◌+◌, ◌*◌, ◌/◌, ◌%◌}
use Rattle.std.proofs.Common.{arith, lit≤}
use Rattle.colour.specs.declared.Colour.{Colour}
use Rattle.colour.specs.Widths.{widened, narrowed}
use Rattle.colour.specs.Channels.{rgb}
use Rattle.colour.specs.Formats.{Format}

abbrev pub colourBgr : ℕ → Colour
colourBgr v = rgb (widened 5 (v % 32)) (widened 6 (v / 32 % 64)) (widened 5 (v / 2048 % 32))

abbrev pub narrowBgr : Colour → ℕ
narrowBgr c = (narrowed 5 c.blue * 64 + narrowed 6 c.green) * 32 + narrowed 5 c.red

abbrev pub formatBgr : Format
formatBgr = record {
  width = 2;
  colour = λ _ v. colourBgr v;
  some = lit≤ tt;
  few = lit≤ tt;
  wide = λ _ v. record { red = omega arith; green = omega arith; blue = omega arith };
}
