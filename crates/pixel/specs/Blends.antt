-- Blends: a mean of two colours, weighted by a level of 0 to 32.
use Rattle.std.specs.Prelude.{ℕ, ◌+◌, ◌-◌, ◌*◌, ◌/◌, ◌<◌, ◌≤◌, min, max, Some, None, Option}
use Rattle.colour.specs.declared.Colour.{Colour}
use Rattle.colour.specs.Channels.{rgb}

-- the first source of a channel as often as the level says, and the second to make it 32 times
abbrev pub weighted : ℕ → ℕ → ℕ → ℕ
weighted level x y = x * level + y * (32 - level)

-- a level above 32 counts as 32
unfoldable pub blend_channel : ℕ → ℕ → ℕ → ℕ
blend_channel level x y = weighted (min level 32) x y / 32

abbrev pub blended : ℕ → Colour → Colour → Colour
blended level c d =
    rgb (blend_channel level c.red d.red) (blend_channel level c.green d.green) (blend_channel level c.blue d.blue)

-- r is neither below both sources nor above both
pub record Between (x y r : ℕ) : Type 0 where
  pub low : min x y ≤ r
  pub high : r ≤ max x y

-- each channel of e lies between those of c and d
pub record BetweenColours (c d e : Colour) : Type 0 where
  pub red : Between c.red d.red e.red
  pub green : Between c.green d.green e.green
  pub blue : Between c.blue d.blue e.blue

-- there is a colour, and it lies between c and d
abbrev pub SomeBetween : Colour → Colour → Option Colour → Type 0
SomeBetween c d None = ⊥
SomeBetween c d (Some e) = BetweenColours c d e

-- 32 times z fits into x counted level times and y the other times of 32; 32 times z + 1 does not
pub record IsMean (level x y z : ℕ) : Type 0 where
  pub least : 32 * z ≤ x * min level 32 + y * (32 - min level 32)
  pub most : x * min level 32 + y * (32 - min level 32) < 32 * z + 32
