-- Laws of raster rules.
use Rattle.std.proofs.Common.{◌≡◌, ℕ, ◌+◌, ◌%◌, ◌^◌, ◌<◌, refl, sym, ◌∙◌}
use Rattle.std.proofs.lemmas.Nat.{xor_lt}
use Rattle.std.proofs.lemmas.Nat.Bits.{bit_at_xor, bit_at-lt, same_from_bits_below}
use lib.Bits.{bit_xor}
use Rattle.colour.specs.declared.Colour.{Colour}
use Rattle.colour.specs.Channels.{Channels, xored}
use Rattle.colour.proofs.Bits.{two_bits}
use Rattle.pixel.specs.Rasters.{chosen, raster_bits, rastered}
use Rattle.pixel.proofs.Minterms.{raster_lt, raster_bit}

-- every rule makes channels of 8 bits
pub rastered_channels : (rule : ℕ) (c d : Colour) → Channels (rastered rule c d)
rastered_channels rule c d = record {
  red = raster_lt 8 rule c.red d.red;
  green = raster_lt 8 rule c.green d.green;
  blue = raster_lt 8 rule c.blue d.blue;
}

pub raster_six : (n x y : ℕ) → x < 2 ^ n → y < 2 ^ n → raster_bits n 6 x y ≡ bit_xor x y
raster_six n x y h k =
    same_from_bits_below n _ _ (raster_lt n 6 x y) (xor_lt n x y h k)
    (λ i l. raster_bit n 6 x y i l ∙ two_bits (λ r s. chosen 6 r s ≡ (r + s) % 2) refl refl refl refl _ _ (bit_at-lt x i) (bit_at-lt y i) ∙ sym (bit_at_xor x y i))

-- rule 6 is the exclusive or
pub rastered_six : (c d : Colour) → Channels c → Channels d → rastered 6 c d ≡ xored c d
rastered_six c d h k =
    rw (raster_six 8 c.red d.red h.red k.red, raster_six 8 c.green d.green h.green k.green, raster_six 8 c.blue d.blue h.blue k.blue)

-- rule 12 is the first source
pub raster_twelve : (n x y : ℕ) → x < 2 ^ n → raster_bits n 12 x y ≡ x
raster_twelve n x y h =
    same_from_bits_below n _ _ (raster_lt n 12 x y) h
    (λ i l. raster_bit n 12 x y i l ∙ two_bits (λ r s. chosen 12 r s ≡ r) refl refl refl refl _ _ (bit_at-lt x i) (bit_at-lt y i))
