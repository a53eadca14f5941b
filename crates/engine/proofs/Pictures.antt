-- What a history leaves of each pixel, and of every other byte.
use Rattle.std.proofs.Common.{◌≡◌, ℕ, zero, suc, ◌+◌, ◌*◌, ◌/◌, ◌%◌, ◌^◌, ◌<◌, ◌≤◌, ◌≢◌, List, get_or, Some, None, Option, refl, sym, ap, ◌∙◌, subst, ⊎_elim, mul-suc, pow-add, pow_pos, lit<, arith}
use lib.Arith.{mod-mul}
use Rattle.std.proofs.lemmas.Bool.{cases_lt}
use Rattle.std.proofs.Math.Nat.{div-div-eq-div-mul}
use Rattle.colour.specs.declared.Colour.{Colour}
use Rattle.colour.specs.declared.Palette.{Palette}
use Rattle.window.specs.Apart.{Off, Apart}
use Rattle.window.specs.Geometry.{begins}
use Rattle.window.specs.Places.{place}
use Rattle.window.specs.Values.{value_at}
use Rattle.window.proofs.Places.{places_apart}
use Rattle.engine.specs.Painted.{Op}
use Rattle.engine.specs.Laws.{value_after}
use Rattle.engine.specs.History.{Becomes, colour_in, History, EachHeld, OthersKept}

-- a value rests on its bytes alone
value_same : (m n : List ℕ) (a b : ℕ) → ((i : ℕ) → i < b → get_or n (a + i) 0 ≡ get_or m (a + i) 0) → value_at n a b ≡ value_at m a b
unfolding value_at
value_same m n a zero e = refl
value_same m n a (suc b) e =
    let z : a + 0 ≡ a = omega arith in
    let here : get_or n a 0 ≡ get_or m a 0 = rw z at (e 0 (omega arith)) in
    let later = value_same m n (a + 1) b (λ i h. let s : a + suc i ≡ a + 1 + i = omega arith in rw s at (e (suc i) (omega arith))) in
    omega arith

-- and is the number whose bytes they are, as far as they hold it
value_of_bytes : (n : List ℕ) (a b v : ℕ) → ((i : ℕ) → i < b → get_or n (a + i) 0 ≡ v / 256 ^ i % 256) → value_at n a b ≡ v % 2 ^ (8 * b)
unfolding value_at
value_of_bytes n a zero v e = omega arith
value_of_bytes n a (suc b) v e =
    let z : a + 0 ≡ a = omega arith in
    let first = e 0 (omega arith) in
    let here : get_or n a 0 ≡ v % 256 = (rw z at first) ∙ omega arith in
    let later = value_of_bytes n (a + 1) b (v / 256)
    (λ i h.
    let s : a + suc i ≡ a + 1 + i = omega arith in
    let t : 1 + i ≡ suc i = omega arith in
    (rw s at (e (suc i) (omega arith))) ∙ ap (λ x. v / 256 ^ x % 256) (sym t) ∙ ap (λ x. v / x % 256) (pow-add 256 1 i) ∙ ap (λ x. x % 256) (sym (div-div-eq-div-mul v 256 (256 ^ i)))) in
    rw (mul-suc 8 b, pow-add 2 (8 * b) 8) (omega (arith, mod-mul v {m = 2 ^ (8 * b)} {c = 256} (pow_pos (8 * b)) (lit< tt)))

module _ (o : Op) (across : 1 ≤ o.target.width) (fits : o.target.left + o.target.width ≤ o.target.image) where
  abbrev at : ℕ → ℕ
  at k = begins o.target o.format.width (k % o.target.width) (k / o.target.width)

  apart : (j k : ℕ) → j ≢ k → Apart (at j) o.format.width (at k) o.format.width
  unfolding place
  apart j k ne = places_apart o.target o.format.width j k across fits ne

  -- a byte off the pixel stays
  stays : (k : ℕ) (y : Option Colour) (m n : List ℕ) → Becomes o (k % o.target.width) (k / o.target.width) y m n → (x : ℕ) → Off (at k) o.format.width x
      → get_or n x 0 ≡ get_or m x 0
  stays k None m n b x off = ap (λ l. get_or l x 0) b
  stays k (Some c) m n b x off = b.rest x off

  -- the pixel holds what became of it
  became : (k : ℕ) (y : Option Colour) (m n : List ℕ) → Becomes o (k % o.target.width) (k / o.target.width) y m n
      → value_at n (at k) o.format.width ≡ value_after o y (value_at m (at k) o.format.width)
  became k None m n b = ap (λ l. value_at l (at k) o.format.width) b
  became k (Some c) m n b = value_of_bytes n (at k) o.format.width (o.narrow c) b.bytes

  module _ (p : Palette) (start sent : List ℕ) (drawn : ℕ) (now : List ℕ) (h : History o p start sent drawn now) where
    abbrev colour : ℕ → Option Colour
    colour k = colour_in o p sent (h.before k) (k % o.target.width) (k / o.target.width)

    -- after n pixels
    others_at : (n : ℕ) → n ≤ drawn → (x : ℕ) → ((k : ℕ) → k < n → Off (at k) o.format.width x) → get_or (h.before n) x 0 ≡ get_or start x 0
    others_at zero few x off = ap (λ l. get_or l x 0) h.begins
    others_at (suc n) few x off =
        let e : n + 1 ≡ suc n = omega arith in
        let d = (h.each n (omega arith)).becomes in
        (rw e at (stays n (colour n) (h.before n) (h.before (n + 1)) d x (off n (omega arith)))) ∙ others_at n (omega arith) x (λ k i. off k (omega arith))

    -- a pixel that is not reached yet holds what it held
    unreached : (n k : ℕ) → n ≤ drawn → n ≤ k → value_at (h.before n) (at k) o.format.width ≡ value_at start (at k) o.format.width
    unreached n k few later =
        value_same start (h.before n) (at k) o.format.width (λ i l. others_at n few (at k + i) (λ j g. apart k j (λ e. omega arith) i l))

    held_at : (n : ℕ) → n ≤ drawn → (k : ℕ) → k < n → value_at (h.before n) (at k) o.format.width ≡ value_after o (colour k) (value_at start (at k) o.format.width)
    held_at zero few k g = absurd (omega arith)
    held_at (suc n) few k g =
        let e : n + 1 ≡ suc n = omega arith in
        let d = (h.each n (omega arith)).becomes in
        let m = h.before n in
        let next = h.before (n + 1) in
        let to : value_at next (at k) o.format.width ≡ value_after o (colour k) (value_at start (at k) o.format.width) =
        ⊎_elim
        (λ (l : k < n).
        value_same m next (at k) o.format.width (λ i j. stays n (colour n) m next d (at k + i) (apart k n (λ f. omega arith) i j))
        ∙ held_at n (omega arith) k l)
        (λ (l : n ≤ k).
        let f : n ≡ k = omega arith in
        subst (λ i. value_at next (at i) o.format.width ≡ value_after o (colour i) (value_at start (at i) o.format.width)) f
        (became n (colour n) m next d ∙ ap (value_after o (colour n)) (unreached n n (omega arith) (omega arith))))
        (cases_lt k n) in
        rw e at to

    pub holds : EachHeld o p start sent drawn now h
    holds k g = rw h.ends at (held_at drawn (omega arith) k g)

    pub others : OthersKept o start drawn now
    others x off = rw h.ends at (others_at drawn (omega arith) x off)
