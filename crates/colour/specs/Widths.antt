-- Fields of a pixel value that are narrower than a channel, and how they become channels and back.
use Rattle.std.specs.Prelude.{◌≡◌, ℕ, ◌+◌, ◌-◌, ◌*◌, ◌/◌, ◌%◌, ◌^◌, ◌<◌, cond, eqb}
use Rattle.std.specs.Int.{bit_at}
use Rattle.colour.specs.declared.field.FieldWidth.{FieldWidth}
use Rattle.colour.specs.declared.field.FieldWidth.TheVariants.{Two, Three, Four, Five, Six, Eight}

-- the bits of a field
abbrev pub bits_of : FieldWidth → ℕ
bits_of Two = 2
bits_of Three = 3
bits_of Four = 4
bits_of Five = 5
bits_of Six = 6
bits_of Eight = 8

-- the channel that a field v of n bits widens to; 8 bits are a channel already
abbrev pub widened : ℕ → ℕ → ℕ
widened n v =
    cond (eqb n 2) (85 * v)
    (cond (eqb n 3) (36 * v + v / 2)
    (cond (eqb n 4) (17 * v)
    (cond (eqb n 5) (8 * v + v / 4)
    (cond (eqb n 6) (4 * v + v / 16) v))))

-- the field of n bits that a channel narrows to: its lowest 8 - n bits are dropped
abbrev pub narrowed : ℕ → ℕ → ℕ
narrowed n v = v / 2 ^ (8 - n)

-- a channel has the n bits of a field over and over, from its top bit down
pub record RepeatsField (n field channel : ℕ) : Type 0 where
  pub each : (i : ℕ) → i < 8 → bit_at channel (7 - i) ≡ bit_at field (n - 1 - i % n)

-- a field has the highest n bits of a channel, and no others
pub record TakesTop (n channel field : ℕ) : Type 0 where
  pub each : (i : ℕ) → i < n → bit_at field (n - 1 - i) ≡ bit_at channel (7 - i)
  pub no_more : field < 2 ^ n
