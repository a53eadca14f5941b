-- Bytes put so many times.
use Rattle.std.proofs.Common.{◌≡◌, ℕ, zero, suc, ◌+◌, ◌-◌, ◌*◌, ◌/◌, ◌%◌, ◌<◌, ◌≤◌, min, List, ◌++◌, length, get_or, refl, sym, ap, ◌∙◌, append_assoc, arith}
use Rattle.std.proofs.lemmas.List.{ext_get_or, append-nil, nil_from_length}
use Rattle.memory.specs.Spans.{overlaid, times}
use Rattle.memory.proofs.Spans.{length_times, length_overlaid, overlaid_append, overlaid_in, overlaid_front, times_more}

-- nothing, so many times
pub fill_none : (m : List ℕ) (a : ℕ) (xs : List ℕ) (n : ℕ) → length xs ≡ 0 → m ≡ overlaid m a (times xs n)
unfolding overlaid
fill_none m a xs n none =
    let long : length (times xs n) ≡ 0 = length_times xs n ∙ ap (λ w. n * w) none ∙ omega arith in
    rw (nil_from_length (times xs n) long) refl

-- all of a list replaced
pub overlaid_all : (m xs : List ℕ) → length m ≡ length xs → overlaid m 0 xs ≡ xs
overlaid_all m xs long =
    ext_get_or 0 (overlaid m 0 xs) xs (length_overlaid m 0 xs ∙ long)
    (λ k h. let e : k ≡ 0 + k = omega arith in
    ap (λ i. get_or (overlaid m 0 xs) i 0) e ∙ overlaid_in m 0 xs k (omega (arith, length_overlaid m 0 xs)) (omega (arith, length_overlaid m 0 xs)))

pub times_add : (xs : List ℕ) (n k : ℕ) → times xs (n + k) ≡ times xs n ++ times xs k
unfolding times
times_add xs n zero = let e : n + 0 ≡ n = omega arith in rw e (sym (append-nil (times xs n)))
times_add xs n (suc k) =
    let e : n + suc k ≡ suc (n + k) = omega arith in
    rw e (ap (λ l. l ++ xs) (times_add xs n k) ∙ append_assoc (times xs n) (times xs k) xs)

pub times_times : (xs : List ℕ) (n k : ℕ) → times (times xs n) k ≡ times xs (n * k)
unfolding times
times_times xs n zero = let e : n * 0 ≡ 0 = omega arith in rw e refl
times_times xs n (suc k) =
    let e : n * suc k ≡ n * k + n = omega arith in
    rw e (ap (λ l. l ++ times xs n) (times_times xs n k) ∙ sym (times_add xs (n * k) n))

module _ (m : List ℕ) (a : ℕ) (xs : List ℕ) where
  -- so many times, and then more
  pub fill_more : (n k : ℕ) → overlaid (overlaid m a (times xs n)) (a + n * length xs) (times xs k) ≡ overlaid m a (times xs (n + k))
  fill_more n k =
      ap (λ l. overlaid (overlaid m a (times xs n)) (a + l) (times xs k)) (sym (length_times xs n))
      ∙ sym (overlaid_append m a (times xs n) (times xs k))
      ∙ sym (ap (overlaid m a) (times_add xs n k))

  -- groups, and the rest alone
  pub fill_groups : (g n : ℕ) → overlaid (overlaid m a (times (times xs g) (n / g))) (a + n / g * (g * length xs)) (times xs (n % g)) ≡ overlaid m a (times xs n)
  fill_groups g n =
      let whole : g * (n / g) + n % g ≡ n = omega arith in
      let place : n / g * (g * length xs) ≡ g * (n / g) * length xs = omega arith in
      ap (λ l. overlaid (overlaid m a l) (a + n / g * (g * length xs)) (times xs (n % g))) (times_times xs g (n / g))
      ∙ ap (λ p. overlaid (overlaid m a (times xs (g * (n / g)))) (a + p) (times xs (n % g))) place
      ∙ fill_more (g * (n / g)) (n % g)
      ∙ ap (λ k. overlaid m a (times xs k)) whole

  -- past the end nothing is put
  pub fill_front : (n k : ℕ) → length m ≤ a + n * length xs → overlaid m a (times xs (n + k)) ≡ overlaid m a (times xs n)
  fill_front n k h =
      ap (overlaid m a) (times_add xs n k)
      ∙ overlaid_front m a (times xs n) (times xs k) (omega (arith, length_times xs n))

  -- as many as are whole, and the one that lies partly past the end
  pub fill_part : (w n : ℕ) → w ≡ min n ((length m - a) / length xs) → 0 < length xs → w < n
      → overlaid (overlaid m a (times xs w)) (a + w * length xs) xs ≡ overlaid m a (times xs n)
  fill_part w n whole some more =
      let room : (length m - a) / length xs ≡ w = omega arith in
      let whole_bytes : length xs * ((length m - a) / length xs) ≡ length xs * w = ap (λ k. length xs * k) room in
      let on : w + 1 + (n - (w + 1)) ≡ n = omega arith in
      let over : length m ≤ a + (w + 1) * length xs = omega arith in
      times_more m a xs w ∙ sym (fill_front (w + 1) (n - (w + 1)) over) ∙ ap (λ k. overlaid m a (times xs k)) on
