-- Raster rules: each bit of the result is a bit of the rule, which the bits of the two sources choose.
use Rattle.std.specs.Prelude.{◌≡◌, ℕ, zero, suc, ◌+◌, ◌-◌, ◌*◌, ◌/◌, ◌%◌, ◌^◌, ◌<◌, List, [], ◌∷◌, Some, slice_get}
use Rattle.std.specs.Int.{bit_at}
use Rattle.std.specs.Int.Bits.{bit_and, bit_or, bit_xor}
use Rattle.colour.specs.declared.Colour.{Colour}
use Rattle.colour.specs.Channels.{rgb}

-- bit 2 × a + b of the rule, for source bits a and b: so only the lowest four bits of a rule count
abbrev pub chosen : ℕ → ℕ → ℕ → ℕ
chosen rule a b = rule / 2 ^ (2 * a + b) % 2

-- on the lowest n bits of two numbers
unfoldable pub raster_bits : ℕ → ℕ → ℕ → ℕ → ℕ
raster_bits zero rule x y = 0
raster_bits (suc n) rule x y = raster_bits n rule (x / 2) (y / 2) * 2 + chosen rule (x % 2) (y % 2)

abbrev pub raster_channel : ℕ → ℕ → ℕ → ℕ
raster_channel rule x y = raster_bits 8 rule x y

abbrev pub rastered : ℕ → Colour → Colour → Colour
rastered rule c d =
    rgb (raster_channel rule c.red d.red) (raster_channel rule c.green d.green) (raster_channel rule c.blue d.blue)

-- bit i of z is the bit of the rule whose number in binary is bit i of x and then bit i of y
pub record ChoosesBits (rule x y z : ℕ) : Type 0 where
  pub each : (i : ℕ) → i < 8 → bit_at z i ≡ bit_at rule (2 * bit_at x i + bit_at y i)

-- what each rule makes of two channels, from rule 0 on
abbrev pub formulas : ℕ → ℕ → List ℕ
formulas x y =
    0
    ∷ bit_and (255 - x) (255 - y)
    ∷ bit_and (255 - x) y
    ∷ (255 - x)
    ∷ bit_and x (255 - y)
    ∷ (255 - y)
    ∷ bit_xor x y
    ∷ bit_or (255 - x) (255 - y)
    ∷ bit_and x y
    ∷ (255 - bit_xor x y)
    ∷ y
    ∷ bit_or (255 - x) y
    ∷ x
    ∷ bit_or x (255 - y)
    ∷ bit_or x y
    ∷ 255
    ∷ []

-- z is what the rule of the lowest four bits makes
pub record FollowsFormula (rule x y z : ℕ) : Type 0 where
  pub is : slice_get (formulas x y) (rule % 16) ≡ Some z
