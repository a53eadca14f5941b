-- Pixels that lie side by side.
use Rattle.std.proofs.Common.{◌≡◌, ℕ, ◌+◌, ◌-◌, ◌*◌, ◌/◌, ◌%◌, ◌<◌, ◌≤◌, ap, ◌∙◌, mul_comm, arith}
use Rattle.std.proofs.Math.Nat.{add-mul}
use Rattle.std.proofs.lemmas.Nat.{div-mul-add, mod-mul-add, div-add-mod', div_below, mul-le}
use Rattle.window.specs.declared.area.Area.{Area}
use Rattle.window.specs.declared.window.Window.{Window}
use Rattle.window.specs.Places.{area_of, in_image, place, pixels}
use Rattle.window.specs.Geometry.{SideBySide}
use Rattle.window.proofs.Limits.{limits_of}

-- those of one row do
pub row_beside : (a : Area) (k : ℕ) → SideBySide a k (a.width - k % a.width)
unfolding place
row_beside a k i h b =
    let w = a.width in
    let all : k + i ≡ k / w * w + (k % w + i) = omega (arith, div-add-mod' k w) in
    let row : (k + i) / w ≡ k / w = ap (λ n. n / w) all ∙ div-mul-add (k / w) w (k % w + i) (omega arith) in
    let column : (k + i) % w ≡ k % w + i = ap (λ n. n % w) all ∙ mod-mul-add (k / w) w (k % w + i) (omega arith) in
    let sum : (in_image a k + i) * b ≡ in_image a k * b + i * b = add-mul (in_image a k) i b in
    rw (row, column) (omega arith)

-- where the image is as wide as the window, its pixels are counted as the image's
pub whole_rows : (w : Window) (k : ℕ) → w.area.image ≡ w.area.width → in_image (area_of w) k ≡ w.area.top * w.area.image + k
whole_rows w k e =
    let a = area_of w in
    let l = limits_of w in
    let sum : (a.top + k / a.width) * a.width ≡ a.top * a.width + k / a.width * a.width = add-mul a.top (k / a.width) a.width in
    let rows = ap (λ n. (a.top + k / a.width) * n) e in
    let above = ap (λ n. a.top * n) e in
    omega (arith, div-add-mod' k a.width)

-- and then all of them do
pub whole_beside : (w : Window) (k n : ℕ) → w.area.image ≡ w.area.width → SideBySide (area_of w) k n
unfolding place
whole_beside w k n e i h b =
    let a = area_of w in
    let more : in_image a (k + i) ≡ in_image a k + i = omega (arith, whole_rows w (k + i) e, whole_rows w k e) in
    let sum : (in_image a k + i) * b ≡ in_image a k * b + i * b = add-mul (in_image a k) i b in
    rw more (omega arith)

-- the row of a pixel ends no later than the window
row_ends : (w h k : ℕ) → 0 < w → k < h * w → w - k % w ≤ h * w - k
row_ends w h k some inside =
    let q = k / w in
    let below : q < h = div_below k w h some inside in
    let rows = mul-le (q + 1) w h w (omega arith) (omega arith) in
    let next : (q + 1) * w ≡ q * w + w = omega arith in
    omega (arith, div-add-mod' k w)

pub row_left : (w : Window) (k : ℕ) → 0 < pixels (area_of w) - k → (area_of w).width - k % (area_of w).width ≤ pixels (area_of w) - k
row_left w k left =
    let a = area_of w in
    let l = limits_of w in
    let turned : a.width * a.height ≡ a.height * a.width = mul_comm a.width a.height in
    omega (arith, row_ends a.width a.height k (omega arith) (omega arith))
