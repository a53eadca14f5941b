-- The pixels of a window lie inside it, and apart.
use Rattle.std.proofs.Common.{◌≡◌, ℕ, ◌+◌, ◌-◌, ◌*◌, ◌/◌, ◌%◌, ◌<◌, ◌≤◌, Bool, true, false, cond, eqb, ◌≢◌, sym, ap, ◌∙◌, mul_comm, arith}
use Rattle.std.proofs.lemmas.Nat.{mul-le, mul-add-lt, div_below, mod_below, div-mul-add, mod-mul-add, div-add-mod'}
use Rattle.window.specs.Apart.{Apart}
use Rattle.window.specs.declared.area.Area.{Area}
use Rattle.window.specs.Places.{pixels, place, cell, reach}

module _ (a : Area) (across : 1 ≤ a.width) where
  -- a pixel ends inside the window
  pub place_inside : (b k : ℕ) → 1 ≤ a.height → k < pixels a → place a b k + b ≤ reach a b
  unfolding place
  place_inside b k down h =
      let row = div_below k a.width a.height across (omega (arith, mul_comm a.width a.height)) in
      let column = mod_below k a.width across in
      let rows = mul-le (a.top + k / a.width) a.image (a.top + a.height - 1) a.image (omega arith) (omega arith) in
      let i = (a.top + k / a.width) * a.image + a.left + k % a.width in
      let all = mul-le (i + 1) b ((a.top + a.height - 1) * a.image + a.left + a.width) b (omega arith) (omega arith) in
      omega arith

  -- a repeated window gives its own pixels only
  pub cell_below : (columns k : ℕ) → 1 ≤ a.height → cell a columns k < pixels a
  cell_below columns k down =
      let inside = mul-add-lt (k / columns % a.height) a.width (k % columns % a.width) a.height (mod_below (k / columns) a.height down) (mod_below (k % columns) a.width across) in
      let P : Bool → Type 0 = λ t. cond t 0 (k / columns % a.height * a.width + k % columns % a.width) < pixels a in
      elim (eqb columns 0) as P [ true ↦ omega arith | false ↦ inside ]

-- one place of a row for each column, and one row for each place
index_same : (i t l r c r' c' : ℕ) → l + c < i → l + c' < i → (t + r) * i + l + c ≡ (t + r') * i + l + c' → (r ≡ r') × (c ≡ c')
index_same i t l r c r' c' h h' e =
    let p : (t + r) * i + (l + c) ≡ (t + r') * i + (l + c') = omega arith in
    let d = sym (div-mul-add (t + r) i (l + c) h) ∙ ap (λ n. n / i) p ∙ div-mul-add (t + r') i (l + c') h' in
    let q = sym (mod-mul-add (t + r) i (l + c) h) ∙ ap (λ n. n % i) p ∙ mod-mul-add (t + r') i (l + c') h' in
    (omega arith, omega arith)

-- the pixels of a window lie apart
pub places_apart : (a : Area) (b j k : ℕ) → 1 ≤ a.width → a.left + a.width ≤ a.image → j ≢ k → Apart (place a b j) b (place a b k) b
unfolding place
places_apart a b j k pos fits ne x hx y hy e =
    let w = a.width in
    let cj = mod_below j w pos in
    let ck = mod_below k w pos in
    let ij = (a.top + j / w) * a.image + a.left + j % w in
    let ik = (a.top + k / w) * a.image + a.left + k % w in
    let f : ij * b + x ≡ ik * b + y = omega arith in
    let same : ij ≡ ik = sym (div-mul-add ij b x hx) ∙ ap (λ n. n / b) f ∙ div-mul-add ik b y hy in
    let rc = index_same a.image a.top a.left (j / w) (j % w) (k / w) (k % w) (omega arith) (omega arith) same in
    ne (sym (div-add-mod' j w) ∙ ap (λ r. r * w + j % w) rc.0 ∙ ap (λ c. k / w * w + c) rc.1 ∙ div-add-mod' k w)
