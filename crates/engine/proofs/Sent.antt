-- Pixels whose values the host sent, stored as they came.
use Rattle.std.proofs.Common.{◌≡◌, ℕ, zero, suc, ◌+◌, ◌-◌, ◌*◌, ◌/◌, ◌%◌, ◌<◌, ◌≤◌, List, length, get_or, set, take, drop, refl, sym, ap, ◌∙◌, subst, arith}
use Rattle.std.proofs.lemmas.List.{drop_more, length-take}
use Rattle.std.proofs.Math.Seq.{take-add}
use Rattle.colour.specs.declared.Palette.{Palette}
use Rattle.memory.specs.Spans.{span, overlaid}
use Rattle.memory.proofs.Spans.{overlaid_append}
use Rattle.window.specs.Geometry.{SideBySide}
use Rattle.window.specs.Apart.{Apart}
use Rattle.window.specs.Places.{place}
use Rattle.window.specs.Values.{value_at, stored}
use Rattle.source.specs.Origins.{Origin, unused, host, host_bits, image, pattern, bits, taken_from, taken, sampled, awaited}
use Rattle.source.specs.Strips.{Ahead}
use Rattle.source.proofs.Meanings.{Proper}
use Rattle.rules.specs.declared.values.ValueRule.TheVariants.{First}
use Rattle.rules.specs.Values.{Agrees}
use Rattle.engine.specs.Painted.{Op, put_colour, plotted, painted, sent_drawn}
use Rattle.engine.specs.Strips.{stripped, made}
use Rattle.engine.proofs.Beside.{puts_given, put_mapped, strip_painted}
use Rattle.engine.proofs.Buffers.{value_few}

module _ (xs : List ℕ) (bytes : (k : ℕ) → get_or xs k 0 < 256) where
  -- the bytes of a value, put over memory, store the value
  piece_overlaid : (m : List ℕ) (a i b : ℕ) → i + b ≤ length xs → overlaid m a (take b (drop i xs)) ≡ stored m a b (value_at xs i b)
  unfolding overlaid stored value_at
  piece_overlaid m a i zero h = refl
  piece_overlaid m a i (suc b) h =
      let x = get_or xs i 0 in
      let r = value_at xs (i + 1) b in
      let low : (x + 256 * r) % 256 ≡ x = omega (arith, bytes i) in
      let high : (x + 256 * r) / 256 ≡ r = omega (arith, bytes i) in
      rw (drop_more xs i 0 (omega arith), low, high) (piece_overlaid (set m a x) (a + 1) (i + 1) b (omega arith))

  -- pixels that are the values that were sent are their bytes, put over memory together
  module _ (o : Op) (p : Palette) (agrees : Agrees o.yields o.format o.narrow First) (sends : o.first ≡ host o.format.width) (k : ℕ) (m : List ℕ) where
    abbrev b : ℕ
    b = o.format.width

    pub sent_painted : (n : ℕ) → n * b ≤ length xs → SideBySide o.target k n
        → overlaid m (place o.target b k) (take (n * b) xs) ≡ painted (sent_drawn o p b k xs) k n m
    unfolding painted plotted overlaid
    sent_painted zero long row = let none : 0 * b ≡ 0 = omega arith in rw none refl
    sent_painted (suc n) long row =
        let at = place o.target b k in
        let i = n * b in
        let j = k + n in
        let t = painted (sent_drawn o p b k xs) k n m in
        let all : suc n * b ≡ i + b = omega arith in
        let back : j - k ≡ n = omega arith in
        let v = value_at xs ((j - k) * b) b in
        let front : length (take i xs) ≡ i = omega (arith, length-take i xs) in
        let value : value_at xs i b ≡ v = ap (λ q. value_at xs (q * b) b) (sym back) in
        let second = sampled o.second t v j in
        let first : v ≡ sampled o.first t v j = ap (λ s. sampled s t v j) (sym sends) in
        ap (λ q. overlaid m at (take q xs)) all
        ∙ ap (overlaid m at) (take-add i b xs)
        ∙ overlaid_append m at (take i xs) (take b (drop i xs))
        ∙ ap (λ q. overlaid (overlaid m at (take i xs)) (at + q) (take b (drop i xs))) front
        ∙ ap (λ q. overlaid q (at + i) (take b (drop i xs))) (sent_painted n (omega arith) (λ q h. row q (omega arith)))
        ∙ piece_overlaid t (at + i) i b (omega arith)
        ∙ ap (stored t (at + i) b) value
        ∙ ap (λ a. stored t a b v) (sym (row n (omega arith) b))
        ∙ sym (puts_given o p First agrees v second (value_few xs bytes ((j - k) * b) b) (place o.target b j) t)
        ∙ ap (λ c. put_colour b o.narrow (place o.target b j) (o.yields p c second) t) first

-- where nothing is awaited, what the host sent is not asked for
sampled_unsent : (f : Origin) → Proper f → awaited f ≡ 0 → (u v k : ℕ) (m : List ℕ) → sampled f m u k ≡ sampled f m v k
sampled_unsent unused p e u v k m = refl
sampled_unsent (host b) p e u v k m = absurd (omega arith)
sampled_unsent (host_bits r) p e u v k m = absurd (omega (arith, p.2))
sampled_unsent (image _ _) p e u v k m = refl
sampled_unsent (pattern _ _ _) p e u v k m = refl
sampled_unsent (bits _ _) p e u v k m = refl

-- pixels that are made of the values that were sent and of those of the second source may be worked on in a buffer
pub sent_worked : (o : Op) (p : Palette) (b b2 : ℕ) (xs ys : List ℕ) (k n : ℕ) (m : List ℕ)
    → o.first ≡ host b → Proper o.second → awaited o.second ≡ 0 → SideBySide o.target k n
    → ((i : ℕ) → i < n → value_at ys (i * b2) b2 ≡ sampled o.second m 0 (k + i))
    → Ahead o.second k n (place o.target o.format.width k) o.format.width
    → overlaid m (place o.target o.format.width k)
    (stripped (made o.narrow (o.yields p)) b b2 o.format.width xs ys n (span m (place o.target o.format.width k) (n * o.format.width)))
    ≡ painted (sent_drawn o p b k xs) k n m
sent_worked o p b b2 xs ys k n m sends proper none row seconds ahead =
    let sent : ℕ → ℕ = λ j. value_at xs ((j - k) * b) b in
    let at = place o.target o.format.width k in
    strip_painted o p sent k m (made o.narrow (o.yields p)) b b2 xs ys n row
    (λ i h. let here : i ≡ k + i - k = omega arith in
    ap (λ q. value_at xs (q * b) b) here ∙ ap (λ s. sampled s m (sent (k + i)) (k + i)) (sym sends))
    (λ i h. seconds i h ∙ sampled_unsent o.second proper none 0 (sent (k + i)) (k + i) m)
    (λ i h. subst (λ s. Apart (taken_from s (k + i)) (taken s) at (i * o.format.width)) (sym sends) (λ q r. absurd (omega arith)))
    ahead
    (λ i h a t. put_mapped o.format.width o.narrow a (o.yields p _ _) t)
