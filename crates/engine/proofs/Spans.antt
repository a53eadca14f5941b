-- Pixels among bytes that are put over memory together, and among bytes that are merged.
use Rattle.std.proofs.Common.{◌≡◌, ℕ, zero, suc, ◌+◌, ◌*◌, ◌/◌, ◌%◌, ◌^◌, ◌<◌, ◌≤◌, inl, inr, List, [], ◌∷◌, length, get_or, set, take, refl, sym, ap, ◌∙◌, ⊎_elim, mul-suc, pow-add, arith}
use Rattle.std.proofs.Math.Nat.{div-div-eq-div-mul}
use Rattle.std.proofs.lemmas.List.{length-set, set_comm, set-set, set-get_or}
use Rattle.memory.specs.Bytes.{Sound}
use Rattle.memory.specs.View.{set_sound}
use Rattle.memory.specs.Spans.{OfBytes, span, overlaid, merged}
use Rattle.window.specs.Apart.{Apart}
use Rattle.window.specs.Values.{value_at, stored}
use Rattle.window.proofs.Frames.{value_stored}
use Rattle.window.proofs.Values.{four_bytes}
use Rattle.rules.specs.Values.{by_bytes}
use Rattle.engine.specs.Strips.{ReadFirst}

-- a byte before those that are put
set_before : (m : List ℕ) (a c : ℕ) (xs : List ℕ) (v : ℕ) → a < c → set (overlaid m c xs) a v ≡ overlaid (set m a v) c xs
unfolding overlaid
set_before m a c [] v h = refl
set_before m a c (x ∷ xs) v h =
    set_before (set m c x) a (c + 1) xs v (omega arith)
    ∙ ap (λ t. overlaid t (c + 1) xs) (set_comm m c a x v (λ e. omega arith))

-- a byte among them
set_overlaid : (m : List ℕ) (a : ℕ) (xs : List ℕ) (i v : ℕ) → i < length xs
    → set (overlaid m a xs) (a + i) v ≡ overlaid m a (set xs i v)
unfolding overlaid
set_overlaid m a [] i v h = absurd (omega arith)
set_overlaid m a (x ∷ xs) zero v h =
    let e : a + 0 ≡ a = omega arith in
    rw e (set_before (set m a x) a (a + 1) xs v (omega arith) ∙ ap (λ t. overlaid t (a + 1) xs) (set-set m a x v))
set_overlaid m a (x ∷ xs) (suc i) v h =
    let e : a + suc i ≡ a + 1 + i = omega arith in
    rw e (set_overlaid (set m a x) (a + 1) xs i v (omega arith))

-- a value stored among them
pub stored_overlaid : (m : List ℕ) (a : ℕ) (xs : List ℕ) (i b v : ℕ) → i + b ≤ length xs
    → stored (overlaid m a xs) (a + i) b v ≡ overlaid m a (stored xs i b v)
unfolding stored
stored_overlaid m a xs i zero v h = refl
stored_overlaid m a xs i (suc b) v h =
    let e : a + i + 1 ≡ a + (i + 1) = omega arith in
    let ys = set xs i (v % 256) in
    rw e
    (ap (λ t. stored t (a + (i + 1)) b (v / 256)) (set_overlaid m a xs i (v % 256) (omega arith))
    ∙ stored_overlaid m a ys (i + 1) b (v / 256) (omega (arith, length-set xs i (v % 256))))

-- bytes put back where they were read
pub overlaid_span : (m : List ℕ) (a n : ℕ) → overlaid m a (span m a n) ≡ m
unfolding overlaid span
overlaid_span m a zero = refl
overlaid_span m a (suc n) =
    ap (λ t. overlaid t (a + 1) (span m (a + 1) n)) (set-get_or m a 0) ∙ overlaid_span m (a + 1) n

-- the lowest bytes of a number, put as the value that they hold
pub overlaid_value : (m : List ℕ) (a b v : ℕ) → b ≤ 4 → overlaid m a (take b (four_bytes v)) ≡ stored m a b v
unfolding overlaid stored
overlaid_value m a zero v h = refl
overlaid_value m a (suc zero) v h = refl
overlaid_value m a (suc (suc zero)) v h = refl
overlaid_value m a (suc (suc (suc zero))) v h = rw (div-div-eq-div-mul v 256 256) refl
overlaid_value m a (suc (suc (suc (suc zero)))) v h = rw (div-div-eq-div-mul v 256 256, div-div-eq-div-mul v 65536 256) refl
overlaid_value m a (suc (suc (suc (suc (suc b))))) v h = absurd (omega arith)

-- so of the bytes that come i bytes later
pub read_first_on : (a c b i : ℕ) → ReadFirst a c b → ReadFirst (a + i) (c + i) b
read_first_on a c b i first = ⊎_elim (λ h. inl (omega arith)) (λ h. inr (omega arith)) first

pub read_first_as : (a x c y b w : ℕ) → a ≡ x → c ≡ y → b ≡ w → ReadFirst a c b → ReadFirst x y w
read_first_as a x c y b w d e f first = ⊎_elim (λ h. inl (omega arith)) (λ h. inr (omega arith)) first

module _ (f : ℕ → ℕ → ℕ) where
  -- bytes merged, and then those after them
  pub merged_append : (m : List ℕ) (a b c n k : ℕ)
      → merged f m a b c (n + k) ≡ merged f (merged f m a b c n) (a + n) (b + n) (c + n) k
  unfolding merged
  merged_append m a b c n zero = let e : n + 0 ≡ n = omega arith in rw e refl
  merged_append m a b c n (suc k) =
      let e : n + suc k ≡ suc (n + k) = omega arith in
      let p : a + n + k ≡ a + (n + k) = omega arith in
      let q : b + n + k ≡ b + (n + k) = omega arith in
      let r : c + n + k ≡ c + (n + k) = omega arith in
      rw (e, p, q, r)
      (ap (λ t. set t (c + (n + k)) (f (get_or t (a + (n + k)) 0) (get_or t (b + (n + k)) 0))) (merged_append m a b c n k))

  -- the first byte, and then the others
  merged_first : (m : List ℕ) (a b c n : ℕ)
      → merged f (set m c (f (get_or m a 0) (get_or m b 0))) (a + 1) (b + 1) (c + 1) n ≡ merged f m a b c (suc n)
  unfolding merged
  merged_first m a b c n =
      let p : a + 0 ≡ a = omega arith in
      let q : b + 0 ≡ b = omega arith in
      let r : c + 0 ≡ c = omega arith in
      let one : merged f m a b c 1 ≡ set m c (f (get_or m a 0) (get_or m b 0)) = rw (p, q, r) refl in
      let e : 1 + n ≡ suc n = omega arith in
      ap (λ t. merged f t (a + 1) (b + 1) (c + 1) n) (sym one)
      ∙ sym (merged_append m a b c 1 n)
      ∙ ap (merged f m a b c) e

  module _ (fits : OfBytes f) where
    pub merged_sound : (m : List ℕ) → Sound m → (a b c n : ℕ) → Sound (merged f m a b c n)
    unfolding merged
    merged_sound m s a b c zero = s
    merged_sound m s a b c (suc n) =
        let t = merged f m a b c n in
        let x = get_or t (a + n) 0 in
        let y = get_or t (b + n) 0 in
        let u = merged_sound m s a b c n in
        set_sound t u (c + n) (f x y) (fits x y (u.bytes (a + n)) (u.bytes (b + n)))

    -- the bytes of a value above its first, once a byte is written
    value_above : (m : List ℕ) (a c b w : ℕ) → w < 256 → ReadFirst a c (suc b) → value_at m (a + 1) b ≡ value_at (set m c w) (a + 1) b
    unfolding stored
    value_above m a c b w h first =
        let byte : w % 256 ≡ w = omega arith in
        let apart : Apart c 1 (a + 1) b = λ i hi j hj e. ⊎_elim (λ q. omega arith) (λ q. omega arith) first in
        sym (ap (λ x. value_at (set m c x) (a + 1) b) (sym byte) ∙ value_stored m c 1 w (a + 1) b apart)

    above_first : (a c b : ℕ) → ReadFirst a c (suc b) → ReadFirst (a + 1) (c + 1) b
    above_first a c b first = ⊎_elim (λ h. inl (omega arith)) (λ h. inr (omega arith)) first

    -- a pixel made of two values byte by byte is its bytes merged
    pub pixel_merged : (m : List ℕ) → Sound m → (a b c n : ℕ) → ReadFirst a c n → ReadFirst b c n
        → stored m c n (by_bytes f n (value_at m a n) (value_at m b n)) ≡ merged f m a b c n
    unfolding stored value_at merged by_bytes
    pixel_merged m s a b c zero first second = refl
    pixel_merged m s a b c (suc n) first second =
        let x = get_or m a 0 in
        let y = get_or m b 0 in
        let above_x = value_at m (a + 1) n in
        let above_y = value_at m (b + 1) n in
        let is_x = s.bytes a in
        let is_y = s.bytes b in
        let w = f x y in
        let is_w = fits x y is_x is_y in
        let above_w = by_bytes f n above_x above_y in
        let t = set m c w in
        let x_low : (x + 256 * above_x) % 256 ≡ x = omega arith in
        let y_low : (y + 256 * above_y) % 256 ≡ y = omega arith in
        let x_high : (x + 256 * above_x) / 256 ≡ above_x = omega arith in
        let y_high : (y + 256 * above_y) / 256 ≡ above_y = omega arith in
        let w_low : (w + 256 * above_w) % 256 ≡ w = omega arith in
        let w_high : (w + 256 * above_w) / 256 ≡ above_w = omega arith in
        let then : above_w ≡ by_bytes f n (value_at t (a + 1) n) (value_at t (b + 1) n) =
        ap (λ u. by_bytes f n u above_y) (value_above m a c n w is_w first)
        ∙ ap (by_bytes f n (value_at t (a + 1) n)) (value_above m b c n w is_w second) in
        rw (x_low, y_low, x_high, y_high, w_low, w_high)
        (ap (stored t (c + 1) n) then
        ∙ pixel_merged t (set_sound m s c w is_w) (a + 1) (b + 1) (c + 1) n (above_first a c n first) (above_first b c n second)
        ∙ merged_first m a b c n)

-- the first of two values, byte by byte
pub by_first : (b x y : ℕ) → x < 2 ^ (8 * b) → by_bytes (λ u _. u) b x y ≡ x
unfolding by_bytes
by_first zero x y h = omega arith
by_first (suc b) x y h =
    let high : x / 256 < 2 ^ (8 * b) = omega (arith, h, pow-add 2 (8 * b) 8, ap (λ n. 2 ^ n) (mul-suc 8 b)) in
    omega (arith, by_first b (x / 256) (y / 256) high)
