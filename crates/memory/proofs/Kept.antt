-- A raster rule by masks.
use Rattle.std.proofs.Common.{◌≡◌, ℕ, zero, suc, ◌*◌, ◌/◌, ◌%◌, ◌<◌, sym, ◌∙◌, mod-eq_of_lt, zero-mul, one-mul, arith}
use Rattle.std.proofs.lemmas.Nat.{and_mask}
use lib.Bits.{bit_and, bit_or, and_lt}
use Rattle.colour.proofs.Bits.{turned, turned_lt}
use Rattle.pixel.specs.Rasters.{raster_channel}
use Rattle.pixel.proofs.Minterms.{channel_joined}

-- a byte that a mask of ones keeps and one of zeros drops
kept : (k x : ℕ) → k < 2 → x < 256 → bit_and x (255 * k) ≡ k * x
kept zero x h l = and_mask x 0 ∙ omega (arith, zero-mul x)
kept (suc zero) x h l = and_mask x 8 ∙ mod-eq_of_lt l ∙ sym (one-mul x)
kept (suc (suc k)) x h l = absurd (omega arith)

abbrev pub by_masks : ℕ → ℕ → ℕ → ℕ → ℕ → ℕ → ℕ
by_masks a b c d x y =
    bit_or (bit_or (bit_or (bit_and (bit_and x y) a) (bit_and (bit_and x (turned 8 y)) b)) (bit_and (bit_and (turned 8 x) y) c)) (bit_and (bit_and (turned 8 x) (turned 8 y)) d)

pub masked : (rule a b c d x y : ℕ) → x < 256 → y < 256
    → a ≡ 255 * (rule / 8 % 2) → b ≡ 255 * (rule / 4 % 2) → c ≡ 255 * (rule / 2 % 2) → d ≡ 255 * (rule % 2)
    → by_masks a b c d x y ≡ raster_channel rule x y
masked rule a b c d x y h k is_a is_b is_c is_d =
    let x' = turned_lt 8 x in
    let y' = turned_lt 8 y in
    rw (
      is_a,
      is_b,
      is_c,
      is_d,
      kept (rule / 8 % 2) (bit_and x y) (omega arith) (and_lt 8 x y h k),
      kept (rule / 4 % 2) (bit_and x (turned 8 y)) (omega arith) (and_lt 8 x (turned 8 y) h y'),
      kept (rule / 2 % 2) (bit_and (turned 8 x) y) (omega arith) (and_lt 8 (turned 8 x) y x' k),
      kept (rule % 2) (bit_and (turned 8 x) (turned 8 y)) (omega arith) (and_lt 8 (turned 8 x) (turned 8 y) x' y'),
    )
    (sym (channel_joined rule x y h k))
