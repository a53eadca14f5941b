-- Colours, channel by channel.
use Rattle.std.specs.Prelude.{ℕ, ◌<◌, ◌-◌}
use Rattle.std.specs.Int.Bits.{bit_and, bit_xor}
use Rattle.colour.specs.declared.Colour.{Colour}

abbrev pub rgb : ℕ → ℕ → ℕ → Colour
rgb r g b = record { red = r; green = g; blue = b }

-- each channel has 8 bits
pub record Channels (c : Colour) : Type 0 where
  pub red : c.red < 256
  pub green : c.green < 256
  pub blue : c.blue < 256

-- every bit of every channel turned over
abbrev pub complement : Colour → Colour
complement c = rgb (255 - c.red) (255 - c.green) (255 - c.blue)

-- the bitwise and of two colours
abbrev pub both : Colour → Colour → Colour
both c d = rgb (bit_and c.red d.red) (bit_and c.green d.green) (bit_and c.blue d.blue)

-- the exclusive or of two colours
abbrev pub xored : Colour → Colour → Colour
xored c d = rgb (bit_xor c.red d.red) (bit_xor c.green d.green) (bit_xor c.blue d.blue)
