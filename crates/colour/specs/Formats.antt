-- What a pixel format means.
use Rattle.std.specs.Prelude.{◌≡◌, ℕ, ◌<◌, ◌≤◌, ◌-◌, ◌^◌, ◌*◌}
use Rattle.std.specs.Int.Bits.{bit_and}
use Rattle.colour.specs.declared.Colour.{Colour}
use Rattle.colour.specs.declared.Palette.{Palette}
use Rattle.colour.specs.Channels.{Channels, complement, both}

-- a readable format: the bytes of a pixel, and the colour of each value under each palette
pub record Format : Type 0 where
  pub width : ℕ
  pub colour : Palette → ℕ → Colour
  -- a pixel has at least one byte
  pub some : 1 ≤ width
  -- a pixel has at most four bytes
  pub few : width ≤ 4
  -- every colour has channels of 8 bits
  pub wide : (p : Palette) (v : ℕ) → Channels (colour p v)

-- what the narrowing of a canvas format keeps, under any palette
pub record Narrows (f : Format) (narrow : Colour → ℕ) : Type 0 where
  -- a colour narrows to a value that the bytes of a pixel can hold
  pub fits : (c : Colour) → Channels c → narrow c < 2 ^ (8 * f.width)
  -- a widened value narrows to itself
  pub back : (p : Palette) (v : ℕ) → v < 2 ^ (8 * f.width) → narrow (f.colour p v) ≡ v
  -- turning over all bits of a colour turns over all bits of its pixel
  pub complements : (c : Colour) → Channels c → narrow (complement c) ≡ 2 ^ (8 * f.width) - 1 - narrow c
  -- narrowing goes through a bitwise and, of two colours as of their values
  pub ands : (c d : Colour) → Channels c → Channels d → narrow (both c d) ≡ bit_and (narrow c) (narrow d)
