-- What the limits of a window give, and bounds on where its pixels lie.
use Rattle.std.proofs.Common.{◌≡◌, ℕ, ◌+◌, ◌*◌, ◌/◌, ◌%◌, ◌^◌, ◌<◌, ◌≤◌, true, div-le_self, arith}
use native.Mathlib.Nat.{mod-le}
use Rattle.std.proofs.lemmas.Nat.{mul-le}
use Rattle.std.proofs.lemmas.Bool.Decides.{nat_tests}
use Rattle.window.specs.Limits.{within}
use Rattle.window.specs.Places.{area_of, pixels}
use Rattle.window.specs.declared.area.Area.{Area}
use Rattle.window.specs.declared.window.Window.{Window}

pub record Limited (a : Area) : Type 0 where
  pub image_most : a.image ≤ 8191
  pub left_most : a.left ≤ 8191
  pub top_most : a.top ≤ 8191
  pub width_some : 1 ≤ a.width
  pub height_some : 1 ≤ a.height
  pub height_most : a.height ≤ 8191
  pub inside : a.left + a.width ≤ a.image

pub limits : (a : Area) → within 8191 a ≡ true → Limited a
limits a t = record {
  image_most = grind (arith, nat_tests);
  left_most = grind (arith, nat_tests);
  top_most = grind (arith, nat_tests);
  width_some = grind (arith, nat_tests);
  height_some = grind (arith, nat_tests);
  height_most = grind (arith, nat_tests);
  inside = grind (arith, nat_tests);
}

pub limits_of : (w : Window) → Limited (area_of w)
limits_of w = limits (area_of w) w.limited

-- pixel k lies low enough that its address fits 60 bits
pub pixel_low : (w : Window) (b k : ℕ) → b < 256 → k < 2 ^ 32
    → ((w.area.top + k / w.area.width) * w.area.image + w.area.left + k % w.area.width) * b ≤ 9000000000000000
pixel_low w b k hb hk =
    let a = area_of w in
    let l = limits_of w in
    let d = div-le_self k a.width in
    let m = mod-le k a.width in
    let p = mul-le (a.top + k / a.width) a.image 4294975487 8191 (omega (arith, l.top_most)) l.image_most in
    let q = mul-le ((a.top + k / a.width) * a.image + a.left + k % a.width) b 35184440000000 255 (omega (arith, l.left_most)) (omega arith) in
    omega arith

pub pixels_few : (w : Window) → pixels (area_of w) ≤ 67092481
pixels_few w =
    let l = limits_of w in
    let a = area_of w in
    let h = l.inside in
    let i = l.image_most in
    mul-le a.width a.height 8191 8191 (omega arith) l.height_most
