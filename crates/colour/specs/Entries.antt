-- Palette entries: 12 bits, of which the highest four are red, then green, then blue.
use Rattle.std.specs.Prelude.{◌≡◌, ℕ, ◌+◌, ◌*◌, ◌/◌, ◌%◌, ◌<◌, get_or}
use Rattle.std.proofs.Common.{arith}
use Rattle.colour.specs.declared.Colour.{Colour}
use Rattle.colour.specs.declared.Palette.{Palette}
use Rattle.colour.specs.Widths.{widened}
use Rattle.colour.specs.Channels.{rgb, Channels}
use Rattle.colour.specs.Packing.{composed}

-- the entry that two bytes load, low byte first; the highest four bits are dropped
abbrev pub entry_of_bytes : ℕ → ℕ → ℕ
entry_of_bytes low high = low + 256 * (high % 16)

-- the low byte has the fields of green and blue, and the high one that of red in its lower half
pub record LoadsFields (low high entry : ℕ) : Type 0 where
  pub each : (x r g b : ℕ) → r < 16 → g < 16 → b < 16 → low ≡ g * 16 + b → high ≡ x * 16 + r
      → entry ≡ composed 4 4 r g b

abbrev pub entry_colour : ℕ → Colour
entry_colour e = rgb (widened 4 (e / 256 % 16)) (widened 4 (e / 16 % 16)) (widened 4 (e % 16))

pub entry_channels : (e : ℕ) → Channels (entry_colour e)
entry_channels e = record { red = omega arith; green = omega arith; blue = omega arith }

-- there are 64 entries, so the number of one is taken modulo 64
abbrev pub entry_at : Palette → ℕ → ℕ
entry_at p k = get_or p.entries (k % 64) 0

abbrev pub palette_colour : Palette → ℕ → Colour
palette_colour p k = entry_colour (entry_at p k)
