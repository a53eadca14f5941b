-- A raster rule on many bits is the rule on the lowest of them, and above that the rule on the others.
use Rattle.std.proofs.Common.{◌≡◌, ℕ, zero, suc, ◌+◌, ◌*◌, ◌/◌, ◌%◌, ◌^◌, refl, ap, ◌∙◌, arith, pow-suc, mul_assoc, zero-add}
use Rattle.std.proofs.lemmas.Nat.{shr-shr, mod-pow-add}
use Rattle.pixel.specs.Rasters.{raster_bits}

above_lowest : (n x : ℕ) → x % 2 ^ suc n ≡ x / 2 % 2 ^ n * 2 + x % 2
above_lowest n x = let e : suc n ≡ n + 1 = omega arith in rw e (mod-pow-add x n 1)

low_half : (n x : ℕ) → x % 2 ^ suc n / 2 ≡ x / 2 % 2 ^ n
low_half n x = omega (arith, above_lowest n x)

low_bit : (n x : ℕ) → x % 2 ^ suc n % 2 ≡ x % 2
low_bit n x = omega (arith, above_lowest n x)

-- only the lowest n bits count
pub raster_low : (n rule x y : ℕ) → raster_bits n rule (x % 2 ^ n) (y % 2 ^ n) ≡ raster_bits n rule x y
unfolding raster_bits
raster_low zero rule x y = refl
raster_low (suc n) rule x y =
    rw (low_half n x, low_half n y, low_bit n x, low_bit n y, raster_low n rule (x / 2) (y / 2)) refl

pub raster_split : (k n rule x y : ℕ) → raster_bits (k + n) rule x y ≡ raster_bits k rule x y + 2 ^ k * raster_bits n rule (x / 2 ^ k) (y / 2 ^ k)
unfolding raster_bits
raster_split zero n rule x y =
    let a : x / 2 ^ 0 ≡ x = omega arith in
    let b : y / 2 ^ 0 ≡ y = omega arith in
    rw (zero-add n, a, b) (omega arith)
raster_split (suc k) n rule x y =
    let e : suc k + n ≡ suc (k + n) = omega arith in
    let double : 2 ^ suc k ≡ 2 * 2 ^ k = omega (arith, pow-suc 2 k) in
    let j : 1 + k ≡ suc k = omega arith in
    let above = raster_bits n rule (x / 2 ^ suc k) (y / 2 ^ suc k) in
    let rest : raster_bits (k + n) rule (x / 2) (y / 2) ≡ raster_bits k rule (x / 2) (y / 2) + 2 ^ k * above =
    raster_split k n rule (x / 2) (y / 2) ∙ rw (shr-shr x 1 k, shr-shr y 1 k, j) refl in
    rw e (omega (arith, rest, ap (λ q. q * above) double, mul_assoc 2 (2 ^ k) above))
