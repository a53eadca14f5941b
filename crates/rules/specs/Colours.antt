-- What a rule makes of the values of a pixel's sources, in colours.
use Rattle.std.specs.Prelude.{◌≡◌, ℕ, ◌%◌, ◌==◌, cond, Some, Option}
use Rattle.colour.specs.declared.Colour.{Colour}
use Rattle.colour.specs.declared.Palette.{Palette}
use Rattle.colour.specs.declared.fields.Fields.{Fields}
use Rattle.colour.specs.Widths.{bits_of}
use Rattle.colour.specs.Packing.{unpacked_colour}
use Rattle.pixel.specs.Rasters.{rastered}
use Rattle.pixel.specs.Blends.{blended}
use Rattle.pixel.specs.Choices.{keyed, filled}
use Rattle.rules.specs.Yields.{Yields}
use Rattle.rules.specs.declared.values.ColourRule.{ColourRule}
use Rattle.rules.specs.declared.values.ColourRule.TheVariants.{Fill, First, Raster, Key, Expand, Blend}

-- the colour that the fields of a value widen to
abbrev pub shown : Fields → ℕ → Colour
shown g v = unpacked_colour (bits_of g.high) (bits_of g.middle) (bits_of g.low) v

-- the colour, or none, for the values a and b of both sources
abbrev pub coloured : ColourRule → ℕ → ℕ → Option Colour
coloured (Fill c) a b = filled c
coloured (First g) a b = Some (shown g a)
coloured (Raster rule g) a b = Some (rastered rule (shown g a) (shown g b))
coloured (Key key g) a b = keyed a key (shown g a)
coloured (Expand one other) a b = cond (a % 2 == 1) (Some one) other
coloured (Blend level g) a b = Some (blended level (shown g a) (shown g b))

-- a rule yields just that, under every palette
abbrev pub Colours : Yields → ColourRule → Type 0
Colours y v = (p : Palette) (a b : ℕ) → y p a b ≡ coloured v a b
