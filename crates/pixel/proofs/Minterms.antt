-- A raster rule is the or of four ands, each of which a bit of the rule keeps or drops: they agree in each bit.
use Rattle.std.proofs.Common.{◌≡◌, ℕ, zero, suc, ◌-◌, ◌*◌, ◌/◌, ◌%◌, ◌^◌, ◌<◌, min, max, sym, ◌∙◌, one-mul, zero-mul, arith, pow_pos, pow-suc}
use Rattle.std.specs.Int.{bit_at}
use Rattle.std.proofs.lemmas.Nat.{or_lt}
use Rattle.std.proofs.lemmas.Nat.Bits.{bit_at_lowest, bit_at-suc, bit_at-zero, bit_at_and, bit_at_or, bit_at-lt, same_from_bits_below}
use lib.Bits.{bit_and, bit_or, and_lt}
use Rattle.colour.proofs.Bits.{turned, turned_lt, turned_bit, two_bits}
use Rattle.pixel.specs.Rasters.{chosen, raster_bits}

pub raster_lt : (n rule x y : ℕ) → raster_bits n rule x y < 2 ^ n
unfolding raster_bits
raster_lt zero rule x y = omega arith
raster_lt (suc n) rule x y = omega (arith, pow-suc 2 n, raster_lt n rule (x / 2) (y / 2))

-- each bit of the result is the one that the bits of the sources choose
pub raster_bit : (n rule x y i : ℕ) → i < n → bit_at (raster_bits n rule x y) i ≡ chosen rule (bit_at x i) (bit_at y i)
unfolding raster_bits
raster_bit zero rule x y i h = absurd (omega arith)
raster_bit (suc n) rule x y zero h = rw (bit_at_lowest (raster_bits (suc n) rule x y), bit_at_lowest x, bit_at_lowest y) (omega arith)
raster_bit (suc n) rule x y (suc i) h =
    let rest : raster_bits (suc n) rule x y / 2 ≡ raster_bits n rule (x / 2) (y / 2) = omega arith in
    rw (bit_at-suc (raster_bits (suc n) rule x y), rest, bit_at-suc x, bit_at-suc y) (raster_bit n rule (x / 2) (y / 2) i (omega arith))

-- a number that a bit keeps or drops
kept_lt : (n k x : ℕ) → k < 2 → x < 2 ^ n → k * x < 2 ^ n
kept_lt n zero x h p = omega (arith, zero-mul x, pow_pos n)
kept_lt n (suc zero) x h p = omega (arith, one-mul x)
kept_lt n (suc (suc k)) x h p = absurd (omega arith)

kept_bit : (k x i : ℕ) → k < 2 → bit_at (k * x) i ≡ min k (bit_at x i)
kept_bit zero x i h = rw (zero-mul x, bit_at-zero i) (omega arith)
kept_bit (suc zero) x i h = rw (one-mul x) (omega (arith, bit_at-lt x i))
kept_bit (suc (suc k)) x i h = absurd (omega arith)

abbrev pub joined : ℕ → ℕ → ℕ → ℕ → ℕ
joined n rule x y =
    bit_or (bit_or (bit_or (rule / 8 % 2 * bit_and x y) (rule / 4 % 2 * bit_and x (turned n y))) (rule / 2 % 2 * bit_and (turned n x) y)) (rule % 2 * bit_and (turned n x) (turned n y))

pub bits : (rule r s : ℕ) → r < 2 → s < 2
    → max (max (max (min (rule / 8 % 2) (min r s)) (min (rule / 4 % 2) (min r (1 - s)))) (min (rule / 2 % 2) (min (1 - r) s))) (min (rule % 2) (min (1 - r) (1 - s))) ≡ chosen rule r s
bits rule = two_bits _ (omega arith) (omega arith) (omega arith) (omega arith)

module _ (n rule x y : ℕ) (h : x < 2 ^ n) (k : y < 2 ^ n) where
  joined_lt : joined n rule x y < 2 ^ n
  joined_lt =
      let kept = λ (b u v : ℕ) (l : u < 2 ^ n) (m : v < 2 ^ n). kept_lt n (b % 2) (bit_and u v) (omega arith) (and_lt n u v l m) in
      let x' = turned_lt n x in
      let y' = turned_lt n y in
      or_lt n _ _ (or_lt n _ _ (or_lt n _ _ (kept (rule / 8) x y h k) (kept (rule / 4) x (turned n y) h y')) (kept (rule / 2) (turned n x) y x' k))
      (kept rule (turned n x) (turned n y) x' y')

  joined_bit : (i : ℕ) → i < n → bit_at (joined n rule x y) i ≡ chosen rule (bit_at x i) (bit_at y i)
  joined_bit i l =
      let kept : (b u v : ℕ) → bit_at (b % 2 * bit_and u v) i ≡ min (b % 2) (min (bit_at u i) (bit_at v i)) =
      λ b u v. rw (kept_bit (b % 2) (bit_and u v) i (omega arith), bit_at_and) in
      rw (
        bit_at_or,
        bit_at_or,
        bit_at_or,
        kept (rule / 8) x y,
        kept (rule / 4) x (turned n y),
        kept (rule / 2) (turned n x) y,
        kept rule (turned n x) (turned n y),
        turned_bit n x i h l,
        turned_bit n y i k l,
      )
      (bits rule _ _ (bit_at-lt x i) (bit_at-lt y i))

  pub joined_is : joined n rule x y ≡ raster_bits n rule x y
  joined_is = same_from_bits_below n _ _ joined_lt (raster_lt n rule x y) (λ i l. joined_bit i l ∙ sym (raster_bit n rule x y i l))

-- at the bits of a channel
pub channel_joined : (rule x y : ℕ) → x < 256 → y < 256 → raster_bits 8 rule x y ≡ joined 8 rule x y
channel_joined rule x y h k = sym (joined_is 8 rule x y h k)
