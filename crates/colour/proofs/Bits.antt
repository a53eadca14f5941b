-- The bits of a number that is turned over.
use Rattle.std.proofs.Common.{◌≡◌, ℕ, zero, suc, ◌<◌, ◌+◌, ◌-◌, ◌*◌, ◌^◌, refl, arith}
use Rattle.std.specs.Int.{bit_at}
use Rattle.std.proofs.lemmas.Nat.{pow_pos, pow_below, and-not}
use Rattle.std.proofs.lemmas.Nat.Bits.{and_pow, bit_at-lt}

-- each of the lowest n bits turned over
abbrev pub turned : ℕ → ℕ → ℕ
turned n x = 2 ^ n - 1 - x

pub turned_lt : (n x : ℕ) → turned n x < 2 ^ n
turned_lt n x = omega (arith, pow_pos n)

-- what holds of each two bits
pub two_bits : (P : ℕ → ℕ → Type 0) → P 0 0 → P 0 1 → P 1 0 → P 1 1 → (r s : ℕ) → r < 2 → s < 2 → P r s
two_bits P a b c d zero zero h k = a
two_bits P a b c d zero (suc zero) h k = b
two_bits P a b c d (suc zero) zero h k = c
two_bits P a b c d (suc zero) (suc zero) h k = d
two_bits P a b c d (suc (suc r)) s h k = absurd (omega arith)
two_bits P a b c d zero (suc (suc s)) h k = absurd (omega arith)
two_bits P a b c d (suc zero) (suc (suc s)) h k = absurd (omega arith)

pub turned_bit : (n x i : ℕ) → x < 2 ^ n → i < n → bit_at (turned n x) i ≡ 1 - bit_at x i
turned_bit n x i h l =
    two_bits (λ a b. a * 2 ^ i + b * 2 ^ i ≡ 2 ^ i → a ≡ 1 - b)
    (λ e. omega (arith, pow_pos i)) (λ e. refl) (λ e. refl) (λ e. omega (arith, pow_pos i))
    (bit_at (turned n x) i) (bit_at x i) (bit_at-lt (turned n x) i) (bit_at-lt x i)
    (omega (arith, and_pow (turned n x) i, and_pow x i, and-not n x (2 ^ i) h (pow_below i n l)))
