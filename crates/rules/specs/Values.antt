-- What a rule does on the values of a pixel's sources, as numbers.
use Rattle.std.specs.Prelude.{◌≡◌, ℕ, zero, suc, ◌+◌, ◌*◌, ◌/◌, ◌%◌, ◌^◌, ◌<◌, ◌==◌, cond, Some, None, Option}
use Rattle.std.specs.Option.{option_map}
use Rattle.colour.specs.declared.Colour.{Colour}
use Rattle.colour.specs.declared.Palette.{Palette}
use Rattle.colour.specs.declared.fields.Fields.{Fields}
use Rattle.colour.specs.Widths.{bits_of}
use Rattle.colour.specs.Packing.{unpacked, packed}
use Rattle.colour.specs.Formats.{Format}
use Rattle.pixel.specs.Rasters.{raster_channel}
use Rattle.pixel.specs.Blends.{blend_channel}
use Rattle.rules.specs.Yields.{Yields}
use Rattle.rules.specs.declared.values.ValueRule.{ValueRule}
use Rattle.rules.specs.declared.values.ValueRule.TheVariants.{Fill, First, Raster, Key, Expand, Blend}

-- a function on each of the lowest b bytes of two numbers
unfoldable pub by_bytes : (ℕ → ℕ → ℕ) → ℕ → ℕ → ℕ → ℕ
by_bytes f zero x y = 0
by_bytes f (suc b) x y = f (x % 256) (y % 256) + 256 * by_bytes f b (x / 256) (y / 256)

-- a function on the channels that the fields of two values widen to, packed again
abbrev pub by_fields : (ℕ → ℕ → ℕ) → Fields → ℕ → ℕ → ℕ
by_fields f g x y =
    let n = bits_of g.high in
    let m = bits_of g.middle in
    let l = bits_of g.low in
    let c = unpacked n m l x in
    let d = unpacked n m l y in
    packed n m l (f c.0 d.0) (f c.1 d.1) (f c.2 d.2)

-- the value, or none, for the values x and y of both sources, where a pixel has b bytes
abbrev pub gives : ValueRule → ℕ → ℕ → ℕ → Option ℕ
gives (Fill v) b x y = Some v
gives First b x y = Some x
gives (Raster rule) b x y = Some (by_bytes (raster_channel rule) b x y)
gives (Key key) b x y = cond (x == key) None (Some x)
gives (Expand one other) b x y = cond (x % 2 == 1) (Some one) other
gives (Blend level fields) b x y = Some (by_fields (blend_channel level) fields x y)

-- the values that it takes are those of pixels of b bytes: of the first source, of both, or any
abbrev pub Fits : ValueRule → ℕ → ℕ → ℕ → Type 0
Fits (Fill v) b x y = Unit {0}
Fits First b x y = x < 2 ^ (8 * b)
Fits (Raster rule) b x y = (x < 2 ^ (8 * b)) × (y < 2 ^ (8 * b))
Fits (Key key) b x y = x < 2 ^ (8 * b)
Fits (Expand one other) b x y = Unit {0}
Fits (Blend level fields) b x y = (x < 2 ^ (8 * b)) × (y < 2 ^ (8 * b))

-- on a canvas of this format a rule does just that, under every palette
abbrev pub Agrees : Yields → Format → (Colour → ℕ) → ValueRule → Type 0
Agrees y f narrow v =
    (p : Palette) (a b : ℕ) → Fits v f.width a b → option_map narrow (y p a b) ≡ gives v f.width a b
