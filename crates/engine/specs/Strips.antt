-- Strips: pixels side by side, as bytes outside of memory.
use Rattle.std.specs.Prelude.{◌≡◌, ℕ, zero, suc, ◌+◌, ◌*◌, ◌≤◌, ◌⊎◌, List, Some, None, Option}
use Rattle.std.specs.Option.{option_map}
use Rattle.colour.specs.declared.Colour.{Colour}
use Rattle.colour.specs.declared.fields.Fields.{Fields}
use Rattle.colour.specs.declared.field.FieldWidth.TheVariants.{Two, Three, Five, Six, Eight}
use Rattle.window.specs.Values.{value_at, stored}
use Rattle.rules.specs.Values.{by_bytes}
use Rattle.rules.specs.declared.values.ValueRule.{ValueRule}
use Rattle.rules.specs.declared.values.ValueRule.TheVariants.{Fill, First, Raster, Key, Expand, Blend}

-- a value stored in b bytes from a on; none leaves them
abbrev pub put_value : ℕ → ℕ → Option ℕ → List ℕ → List ℕ
put_value a b None m = m
put_value a b (Some v) m = stored m a b v

-- n pixels of b bytes from the start of t on, pixel i made of value i of i1 bytes each in x and of value i of i2 bytes each in y
unfoldable pub stripped : (ℕ → ℕ → Option ℕ) → ℕ → ℕ → ℕ → List ℕ → List ℕ → ℕ → List ℕ → List ℕ
stripped f b1 b2 b x y zero t = t
stripped f b1 b2 b x y (suc n) t =
    put_value (n * b) b (f (value_at x (n * b1) b1) (value_at y (n * b2) b2)) (stripped f b1 b2 b x y n t)

-- the fields of 5:6:5
abbrev pub rgb565 : Fields
rgb565 = record { high = Five; middle = Six; low = Five }

-- of 8:8:8
abbrev pub rgb888 : Fields
rgb888 = record { high = Eight; middle = Eight; low = Eight }

-- and of 3:3:2
abbrev pub rgb332 : Fields
rgb332 = record { high = Three; middle = Three; low = Two }

-- fields of pixels of so many bytes that the engine has a loop of its own for
pub data Common : Fields → ℕ → Type 0 where
  of_332 : Common rgb332 1
  of_565 : Common rgb565 2
  of_888 : Common rgb888 3

-- a strip can be drawn by what a rule does on values: those that it takes have as many bytes as those that it gives, from one to
-- three, or are bits, each in a byte; the fields of a mean are common ones; memory fills by itself
abbrev pub Alike : ValueRule → ℕ → ℕ → ℕ → Type 0
Alike (Fill v) b1 b2 b = ⊥
Alike First b1 b2 b = (b1 ≡ b) × (1 ≤ b) × (b ≤ 3)
Alike (Raster rule) b1 b2 b = (b1 ≡ b) × (b2 ≡ b)
Alike (Key key) b1 b2 b = (b1 ≡ b) × (1 ≤ b) × (b ≤ 3)
Alike (Expand one other) b1 b2 b = (b1 ≡ 1) × (1 ≤ b) × (b ≤ 3)
Alike (Blend level fields) b1 b2 b = (b1 ≡ b) × (b2 ≡ b) × Common fields b

-- a function of bytes on each byte of two values
abbrev pub strip_of_bytes : (ℕ → ℕ → ℕ) → ℕ → ℕ → ℕ → Option ℕ
strip_of_bytes f b x y = Some (by_bytes f b x y)

-- none of the b bytes from c on is written before all of the b bytes from a on are read
abbrev pub ReadFirst : ℕ → ℕ → ℕ → Type 0
ReadFirst a c b = (c ≤ a) ⊎ (a + b ≤ c)

-- the value that is made of two: that of the colour that comes of them, narrowed, or none
abbrev pub made : (Colour → ℕ) → (ℕ → ℕ → Option Colour) → ℕ → ℕ → Option ℕ
made narrow y u v = option_map narrow (y u v)
