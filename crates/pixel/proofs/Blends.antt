-- Laws of blends.
use Rattle.std.proofs.Common.{◌≡◌, ℕ, ◌+◌, ◌-◌, ◌*◌, ◌<◌, ◌≤◌, min, max, sym, ap, ◌∙◌, mul-le-mul_right, mul-add, arith}
use native.Mathlib.Nat.{min-le_left, min-le_right, le-max_left, le-max_right}
use Rattle.colour.specs.declared.Colour.{Colour}
use Rattle.colour.specs.Channels.{Channels}
use Rattle.pixel.specs.Blends.{weighted, blend_channel, blended, Between, IsMean}

-- a number as often as both weights say is that number 32 times
all_weights : (level x : ℕ) → level ≤ 32 → x * level + x * (32 - level) ≡ x * 32
all_weights level x h =
    let e : level + (32 - level) ≡ 32 = omega arith in
    sym (mul-add x level (32 - level)) ∙ ap (λ w. x * w) e

weighted_low : (level x y z : ℕ) → level ≤ 32 → z ≤ x → z ≤ y → z * 32 ≤ weighted level x y
weighted_low level x y z h p q =
    omega (arith, all_weights level z h, mul-le-mul_right level p, mul-le-mul_right (32 - level) q)

pub weighted_high : (level x y z : ℕ) → level ≤ 32 → x ≤ z → y ≤ z → weighted level x y ≤ z * 32
weighted_high level x y z h p q =
    omega (arith, all_weights level z h, mul-le-mul_right level p, mul-le-mul_right (32 - level) q)

-- a blended channel lies between its sources
pub blend_between : (level x y : ℕ) → Between x y (blend_channel level x y)
unfolding blend_channel
blend_between level x y =
    let l = min level 32 in
    let h : l ≤ 32 = min-le_right level 32 in
    let low = weighted_low l x y (min x y) h (min-le_left x y) (min-le_right x y) in
    let high = weighted_high l x y (max x y) h (le-max_left x y) (le-max_right x y) in
    record { low = omega arith; high = omega arith }

pub blend_lt : (level x y : ℕ) → x < 256 → y < 256 → blend_channel level x y < 256
blend_lt level x y h k = let high = (blend_between level x y).high in omega arith

-- a blend of two colours with channels of 8 bits has such channels too
pub blended_channels : (level : ℕ) (c d : Colour) → Channels c → Channels d → Channels (blended level c d)
blended_channels level c d h k = record {
  red = blend_lt level c.red d.red h.red k.red;
  green = blend_lt level c.green d.green h.green k.green;
  blue = blend_lt level c.blue d.blue h.blue k.blue;
}

-- a blended channel is the mean, rounded down
pub blend_weighed : (level x y : ℕ) → IsMean level x y (blend_channel level x y)
unfolding blend_channel
blend_weighed level x y = record { least = omega arith; most = omega arith }
