-- What three fields of chosen widths mean, from the highest.
use Rattle.std.specs.Prelude.{ℕ}
use Rattle.colour.specs.declared.Colour.{Colour}
use Rattle.colour.specs.declared.fields.Fields.{Fields}
use Rattle.colour.specs.Widths.{bits_of}
use Rattle.colour.specs.Packing.{WidensFields, ShowsFields, HoldsFields}

-- the channels that the fields of a value widen to
abbrev pub FieldsWiden : Fields → ℕ → ℕ × ℕ × ℕ → Type 0
FieldsWiden f = WidensFields (bits_of f.high) (bits_of f.middle) (bits_of f.low)

-- the colour that they show, red in the highest
abbrev pub FieldsShow : Fields → ℕ → Colour → Type 0
FieldsShow f = ShowsFields (bits_of f.high) (bits_of f.middle) (bits_of f.low)

-- the value that holds the fields of a colour
abbrev pub FieldsHold : Fields → Colour → ℕ → Type 0
FieldsHold f = HoldsFields (bits_of f.high) (bits_of f.middle) (bits_of f.low)
