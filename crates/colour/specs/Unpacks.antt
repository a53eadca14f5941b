-- Formats whose pixel values are three fields.
use Rattle.std.specs.Prelude.{◌≡◌, ℕ}
use Rattle.colour.specs.declared.Colour.{Colour}
use Rattle.colour.specs.declared.Palette.{Palette}
use Rattle.colour.specs.declared.fields.Fields.{Fields}
use Rattle.colour.specs.Widths.{bits_of}
use Rattle.colour.specs.Packing.{unpacked_colour, packed}
use Rattle.colour.specs.Formats.{Format}

-- under every palette the colour of a value is what its fields widen to, red in the highest ..
abbrev pub Unpacks : Format → Fields → Type 0
Unpacks f g =
    (p : Palette) (v : ℕ) → f.colour p v ≡ unpacked_colour (bits_of g.high) (bits_of g.middle) (bits_of g.low) v

-- .. and every colour narrows to the value of the fields that its channels narrow to
abbrev pub Packs : (Colour → ℕ) → Fields → Type 0
Packs narrow g = (c : Colour) → narrow c ≡ packed (bits_of g.high) (bits_of g.middle) (bits_of g.low) c.red c.green c.blue
