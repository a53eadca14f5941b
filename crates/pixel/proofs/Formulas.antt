-- Each raster rule has a formula of its own: the two agree in each bit.
use Rattle.std.proofs.Common.{◌≡◌, ℕ, ◌+◌, ◌-◌, ◌%◌, ◌<◌, min, max, map, Some, slice_get, refl, sym, ap, ◌∙◌, zero-add, arith}
use Rattle.std.specs.List.{range_with_len}
use Rattle.std.specs.Option.{option_map}
use Rattle.std.specs.Int.{bit_at}
use Rattle.std.proofs.lemmas.Nat.{or_lt, xor_lt}
use Rattle.std.proofs.lemmas.Nat.Bits.{bit_at-zero, bit_at_and, bit_at_or, bit_at_xor, bit_at-lt, same_from_bits_below}
use Rattle.std.proofs.lemmas.Option.{slice_get-map, slice_get-get_or}
use Rattle.std.proofs.lemmas.List.FromFn.{get_or-range_with_len, length-range_with_len}
use lib.Bits.{bit_and, bit_or, bit_xor, and_lt}
use Rattle.colour.proofs.Bits.{turned_lt, turned_bit, two_bits}
use Rattle.pixel.specs.Rasters.{chosen, raster_bits, formulas, ChoosesBits, FollowsFormula}
use Rattle.pixel.proofs.Minterms.{raster_lt, raster_bit, joined, channel_joined}

pub raster_chooses : (rule x y z : ℕ) → z ≡ raster_bits 8 rule x y → ChoosesBits rule x y z
raster_chooses rule x y z e = record { each = λ i h. ap (λ w. bit_at w i) e ∙ raster_bit 8 rule x y i h }

module _ (x y : ℕ) (h : x < 256) (k : y < 256) where
  -- a number of 8 bits, each of which is made of the bits of x and y in one way
  record Bitwise (f : ℕ → ℕ → ℕ) (z : ℕ) : Type 0 where
    below : z < 256
    bit : (i : ℕ) → i < 8 → bit_at z i ≡ f (bit_at x i) (bit_at y i)

  none : Bitwise (λ _ _. 0) 0
  none = record { below = omega arith; bit = λ i l. bit_at-zero i }

  first : Bitwise (λ r s. r) x
  first = record { below = h; bit = λ i l. refl }

  second : Bitwise (λ r s. s) y
  second = record { below = k; bit = λ i l. refl }

  not : (f : ℕ → ℕ → ℕ) (z : ℕ) → Bitwise f z → Bitwise (λ r s. 1 - f r s) (255 - z)
  not f z p = record { below = turned_lt 8 z; bit = λ i l. turned_bit 8 z i p.below l ∙ ap (λ b. 1 - b) (p.bit i l) }

  and : (f g : ℕ → ℕ → ℕ) (z w : ℕ) → Bitwise f z → Bitwise g w → Bitwise (λ r s. min (f r s) (g r s)) (bit_and z w)
  and f g z w p q = record { below = and_lt 8 z w p.below q.below; bit = λ i l. rw (bit_at_and z w i, p.bit i l, q.bit i l) }

  or : (f g : ℕ → ℕ → ℕ) (z w : ℕ) → Bitwise f z → Bitwise g w → Bitwise (λ r s. max (f r s) (g r s)) (bit_or z w)
  or f g z w p q = record { below = or_lt 8 z w p.below q.below; bit = λ i l. rw (bit_at_or z w i, p.bit i l, q.bit i l) }

  xor : Bitwise (λ r s. (r + s) % 2) (bit_xor x y)
  xor = record { below = xor_lt 8 x y h k; bit = λ i l. bit_at_xor x y i }

  -- a rule whose four bits are what the way makes of two bits makes that number
  made : (rule : ℕ) (f : ℕ → ℕ → ℕ) (z : ℕ) → Bitwise f z
      → chosen rule 0 0 ≡ f 0 0 → chosen rule 0 1 ≡ f 0 1 → chosen rule 1 0 ≡ f 1 0 → chosen rule 1 1 ≡ f 1 1 → raster_bits 8 rule x y ≡ z
  made rule f z p a b c d =
      same_from_bits_below 8 _ _ (raster_lt 8 rule x y) p.below
      (λ i l. raster_bit 8 rule x y i l ∙ two_bits (λ r s. chosen rule r s ≡ f r s) a b c d _ _ (bit_at-lt x i) (bit_at-lt y i) ∙ sym (p.bit i l))

  not_x : Bitwise (λ r s. 1 - r) (255 - x)
  not_x = not _ _ first

  not_y : Bitwise (λ r s. 1 - s) (255 - y)
  not_y = not _ _ second

  table : formulas x y ≡ map (λ rule. raster_bits 8 rule x y) (range_with_len 0 16)
  table =
      rw (
        made 0 _ _ none refl refl refl refl,
        made 1 _ _ (and _ _ _ _ not_x not_y) refl refl refl refl,
        made 2 _ _ (and _ _ _ _ not_x second) refl refl refl refl,
        made 3 _ _ not_x refl refl refl refl,
        made 4 _ _ (and _ _ _ _ first not_y) refl refl refl refl,
        made 5 _ _ not_y refl refl refl refl,
        made 6 _ _ xor refl refl refl refl,
        made 7 _ _ (or _ _ _ _ not_x not_y) refl refl refl refl,
        made 8 _ _ (and _ _ _ _ first second) refl refl refl refl,
        made 9 _ _ (not _ _ xor) refl refl refl refl,
        made 10 _ _ second refl refl refl refl,
        made 11 _ _ (or _ _ _ _ not_x second) refl refl refl refl,
        made 12 _ _ first refl refl refl refl,
        made 13 _ _ (or _ _ _ _ first not_y) refl refl refl refl,
        made 14 _ _ (or _ _ _ _ first second) refl refl refl refl,
        made 15 _ _ (not _ _ none) refl refl refl refl,
      )

  listed : (rule : ℕ) → rule < 16 → slice_get (formulas x y) rule ≡ Some (raster_bits 8 rule x y)
  listed rule l =
      let there : slice_get (range_with_len 0 16) rule ≡ Some rule =
      slice_get-get_or (range_with_len 0 16) rule 0 (omega (arith, length-range_with_len 0 16)) ∙ ap Some (get_or-range_with_len 0 16 rule 0 l ∙ zero-add rule) in
      ap (λ t. slice_get t rule) table ∙ slice_get-map _ (range_with_len 0 16) rule ∙ ap (option_map (λ n. raster_bits 8 n x y)) there

-- only the lowest four bits of a rule count
lowest_four : (rule r s : ℕ) → r < 2 → s < 2 → chosen (rule % 16) r s ≡ chosen rule r s
lowest_four rule = two_bits _ (omega arith) (omega arith) (omega arith) (omega arith)

raster_lowest : (rule x y : ℕ) → raster_bits 8 (rule % 16) x y ≡ raster_bits 8 rule x y
raster_lowest rule x y =
    same_from_bits_below 8 _ _ (raster_lt 8 (rule % 16) x y) (raster_lt 8 rule x y)
    (λ i l. raster_bit 8 (rule % 16) x y i l ∙ lowest_four rule _ _ (bit_at-lt x i) (bit_at-lt y i) ∙ sym (raster_bit 8 rule x y i l))

pub raster_follows : (rule x y z : ℕ) → x < 256 → y < 256 → z ≡ raster_bits 8 rule x y → FollowsFormula rule x y z
raster_follows rule x y z h k e = record { is = listed x y h k (rule % 16) (omega arith) ∙ ap Some (raster_lowest rule x y ∙ sym e) }

-- what the code joins follows the formula
pub joined_follows : (rule x y : ℕ) → x < 256 → y < 256 → FollowsFormula rule x y (joined 8 rule x y)
joined_follows rule x y h k = raster_follows rule x y (joined 8 rule x y) h k (sym (channel_joined rule x y h k))
