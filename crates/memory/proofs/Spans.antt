-- Spans of bytes read, put and merged one after another.
use Rattle.std.proofs.Common.{◌≡◌, ℕ, zero, suc, ◌+◌, ◌-◌, ◌*◌, ◌<◌, ◌≤◌, ◌⊎◌, inl, inr, ⊎_elim, List, [], ◌∷◌, ◌++◌, length, get_or, set, take, drop, replicate, min, refl, sym, ap, ◌∙◌, length-append, length-take, length-drop, add-one, arith}
use Rattle.std.proofs.lemmas.List.{length-set, take_more, set_past, ext_get_or, get_or-set_same, get_or-set_other, get_or_append_left, get_or-append_right, get_or-take, get_or-drop, get_or-replicate, get_or_past, length-replicate}
use Rattle.std.proofs.lemmas.Bool.{cases_lt}
use Rattle.memory.specs.Spans.{span, overlaid, times, merged, ReadFirst}

module _ (m : List ℕ) where
  pub length_span : (a n : ℕ) → length (span m a n) ≡ n
  unfolding span
  length_span a zero = refl
  length_span a (suc n) = ap suc (length_span (a + 1) n)

  -- the byte at a place of a span
  pub span_at : (a n k : ℕ) → k < n → get_or (span m a n) k 0 ≡ get_or m (a + k) 0
  unfolding span
  span_at a zero k h = absurd (omega arith)
  span_at a (suc n) zero h = let e : a + 0 ≡ a = omega arith in rw e refl
  span_at a (suc n) (suc k) h = let e : a + suc k ≡ a + 1 + k = omega arith in rw e (span_at (a + 1) n k (omega arith))

  -- bytes that are those from a on
  pub is_span : (a n : ℕ) (xs : List ℕ) → length xs ≡ n → ((k : ℕ) → k < n → get_or xs k 0 ≡ get_or m (a + k) 0) → xs ≡ span m a n
  is_span a n xs long each =
      ext_get_or 0 xs (span m a n) (long ∙ sym (length_span a n))
      (λ k h. let i : k < n = omega arith in each k i ∙ sym (span_at a n k i))

-- the bytes that memory holds, and 0 for each past the end
pub held_span : (m held past : List ℕ) (a s n size : ℕ) → s ≡ min a (length m) → n ≡ min size (length m - s) → held ≡ take (s + n - s) (drop s m)
    → past ≡ replicate (size - n) 0 → held ++ past ≡ span m a size
held_span m held past a s n size start inside front back =
    let front_length : length held ≡ n = omega (arith, ap length front, length-take (s + n - s) (drop s m), length-drop s m) in
    let back_length : length past ≡ size - n = omega (arith, ap length back, length-replicate {A = ℕ} (size - n) 0) in
    is_span m a size (held ++ past) (omega (arith, length-append held past))
    (λ k h. ⊎_elim
    (λ within.
    let here : s ≡ a = omega arith in
    get_or_append_left held past 0 k (omega arith)
    ∙ ap (λ l. get_or l k 0) front
    ∙ get_or-take (s + n - s) (drop s m) k 0 (omega arith)
    ∙ get_or-drop s m k 0
    ∙ ap (λ i. get_or m (i + k) 0) here)
    (λ beyond.
    get_or-append_right held past n k 0 front_length beyond
    ∙ ap (λ l. get_or l (k - n) 0) back
    ∙ get_or-replicate {A = ℕ} (size - n) (k - n) 0 0 (omega arith)
    ∙ sym (get_or_past m (a + k) 0 (omega arith)))
    (cases_lt k n))

pub length_overlaid : (m : List ℕ) (a : ℕ) (xs : List ℕ) → length (overlaid m a xs) ≡ length m
unfolding overlaid
length_overlaid m a [] = refl
length_overlaid m a (x ∷ xs) = length_overlaid (set m a x) (a + 1) xs ∙ length-set m a x

pub overlaid_append : (m : List ℕ) (a : ℕ) (xs ys : List ℕ) → overlaid m a (xs ++ ys) ≡ overlaid (overlaid m a xs) (a + length xs) ys
unfolding overlaid
overlaid_append m a [] ys = let e : a + 0 ≡ a = omega arith in rw e refl
overlaid_append m a (x ∷ xs) ys =
    let e : a + suc (length xs) ≡ a + 1 + length xs = omega arith in
    rw e (overlaid_append (set m a x) (a + 1) xs ys)

-- past the end nothing is put
pub overlaid_past : (m : List ℕ) (a : ℕ) (xs : List ℕ) → length m ≤ a → overlaid m a xs ≡ m
unfolding overlaid
overlaid_past m a [] h = refl
overlaid_past m a (x ∷ xs) h = rw (set_past m a x h) (overlaid_past m (a + 1) xs (omega arith))

-- one byte more
pub overlaid_more : (m : List ℕ) (a : ℕ) (xs : List ℕ) (i : ℕ) → i < length xs → set (overlaid m a (take i xs)) (a + i) (get_or xs i 0) ≡ overlaid m a (take (i + 1) xs)
unfolding overlaid
overlaid_more m a xs i h =
    let long : length (take i xs) ≡ i = omega (arith, length-take i xs) in
    sym (ap (overlaid m a) (take_more xs i 0 h) ∙ overlaid_append m a (take i xs) (get_or xs i 0 ∷ []) ∙ ap (λ n. set (overlaid m a (take i xs)) (a + n) (get_or xs i 0)) long)

pub length_times : (xs : List ℕ) (n : ℕ) → length (times xs n) ≡ n * length xs
unfolding times
length_times xs zero = omega arith
length_times xs (suc n) = omega (arith, length-append (times xs n) xs, length_times xs n)

-- once more
pub times_more : (m : List ℕ) (a : ℕ) (xs : List ℕ) (n : ℕ) → overlaid (overlaid m a (times xs n)) (a + n * length xs) xs ≡ overlaid m a (times xs (n + 1))
unfolding times
times_more m a xs n =
    rw (add-one n)
    (sym (overlaid_append m a (times xs n) xs ∙ ap (λ l. overlaid (overlaid m a (times xs n)) (a + l) xs) (length_times xs n)))

pub length_merged : (f : ℕ → ℕ → ℕ) (m : List ℕ) (a b c n : ℕ) → length (merged f m a b c n) ≡ length m
unfolding merged
length_merged f m a b c zero = refl
length_merged f m a b c (suc n) =
    let l = merged f m a b c n in
    length-set l (c + n) (f (get_or l (a + n) 0) (get_or l (b + n) 0)) ∙ length_merged f m a b c n

-- one byte more
pub merged_more : (f : ℕ → ℕ → ℕ) (m : List ℕ) (a b c n : ℕ)
    → set (merged f m a b c n) (c + n) (f (get_or (merged f m a b c n) (a + n) 0) (get_or (merged f m a b c n) (b + n) 0)) ≡ merged f m a b c (n + 1)
unfolding merged
merged_more f m a b c n = rw (add-one n) refl

-- what a list of bytes put from a on leaves at each place
pub overlaid_out : (m : List ℕ) (a : ℕ) (xs : List ℕ) (k : ℕ) → (k < a) ⊎ (a + length xs ≤ k) → get_or (overlaid m a xs) k 0 ≡ get_or m k 0
unfolding overlaid
overlaid_out m a [] k h = refl
overlaid_out m a (x ∷ xs) k h =
    let here = ⊎_elim (λ below. get_or-set_other m a k x 0 (omega arith)) (λ past. get_or-set_other m a k x 0 (omega arith)) h in
    let rest : (k < a + 1) ⊎ (a + 1 + length xs ≤ k) = ⊎_elim (λ below. inl (omega arith)) (λ past. inr (omega arith)) h in
    overlaid_out (set m a x) (a + 1) xs k rest ∙ here

pub overlaid_in : (m : List ℕ) (a : ℕ) (xs : List ℕ) (k : ℕ) → k < length xs → a + k < length m → get_or (overlaid m a xs) (a + k) 0 ≡ get_or xs k 0
unfolding overlaid
overlaid_in m a [] k h within = absurd (omega arith)
overlaid_in m a (x ∷ xs) zero h within =
    let e : a + 0 ≡ a = omega arith in
    rw e (overlaid_out (set m a x) (a + 1) xs a (inl (omega arith)) ∙ get_or-set_same m a x 0 (omega arith))
overlaid_in m a (x ∷ xs) (suc k) h within =
    let e : a + suc k ≡ a + 1 + k = omega arith in
    rw e (overlaid_in (set m a x) (a + 1) xs k (omega arith) (omega (arith, length-set m a x)))

-- what is so at each place is those bytes put
pub is_overlaid : (m m' : List ℕ) (a : ℕ) (xs : List ℕ) → length m' ≡ length m
    → ((k : ℕ) → k < length xs → a + k < length m → get_or m' (a + k) 0 ≡ get_or xs k 0)
    → ((k : ℕ) → (k < a) ⊎ (a + length xs ≤ k) → get_or m' k 0 ≡ get_or m k 0)
    → m' ≡ overlaid m a xs
is_overlaid m m' a xs long inside outside =
    ext_get_or 0 m' (overlaid m a xs) (long ∙ sym (length_overlaid m a xs))
    (λ k h. ⊎_elim
    (λ below. outside k (inl below) ∙ sym (overlaid_out m a xs k (inl below)))
    (λ from. ⊎_elim
    (λ within.
    let at : a + (k - a) ≡ k = omega arith in
    rw at at (inside (k - a) (omega arith) (omega arith) ∙ sym (overlaid_in m a xs (k - a) (omega arith) (omega arith))))
    (λ past. outside k (inr past) ∙ sym (overlaid_out m a xs k (inr past)))
    (cases_lt k (a + length xs)))
    (cases_lt k a))

-- bytes of which those past the end are left out
pub overlaid_front : (m : List ℕ) (a : ℕ) (xs ys : List ℕ) → length m ≤ a + length xs → overlaid m a (xs ++ ys) ≡ overlaid m a xs
overlaid_front m a xs ys h = overlaid_append m a xs ys ∙ overlaid_past (overlaid m a xs) (a + length xs) ys (omega (arith, length_overlaid m a xs))

module _ (f : ℕ → ℕ → ℕ) (m : List ℕ) (a b c : ℕ) where
  pub merged_out : (n k : ℕ) → (k < c) ⊎ (c + n ≤ k) → get_or (merged f m a b c n) k 0 ≡ get_or m k 0
  unfolding merged
  merged_out zero k h = refl
  merged_out (suc n) k h =
      let l = merged f m a b c n in
      let v = f (get_or l (a + n) 0) (get_or l (b + n) 0) in
      let here = ⊎_elim (λ below. get_or-set_other l (c + n) k v 0 (omega arith)) (λ past. get_or-set_other l (c + n) k v 0 (omega arith)) h in
      let rest : (k < c) ⊎ (c + n ≤ k) = ⊎_elim (λ below. inl below) (λ past. inr (omega arith)) h in
      here ∙ merged_out n k rest

  pub merged_in : (n k : ℕ) → ReadFirst a c n → ReadFirst b c n → k < n → c + k < length m → get_or (merged f m a b c n) (c + k) 0 ≡ f (get_or m (a + k) 0) (get_or m (b + k) 0)
  unfolding merged
  merged_in zero k p q h within = absurd (omega arith)
  merged_in (suc n) k p q h within =
      let l = merged f m a b c n in
      let v = f (get_or l (a + n) 0) (get_or l (b + n) 0) in
      let long = length_merged f m a b c n in
      let first : get_or l (a + n) 0 ≡ get_or m (a + n) 0 = merged_out n (a + n) (⊎_elim (λ above. inr (omega arith)) (λ below. inl (omega arith)) p) in
      let second : get_or l (b + n) 0 ≡ get_or m (b + n) 0 = merged_out n (b + n) (⊎_elim (λ above. inr (omega arith)) (λ below. inl (omega arith)) q) in
      ⊎_elim
      (λ less.
      get_or-set_other l (c + n) (c + k) v 0 (omega arith)
      ∙ merged_in n k (⊎_elim (λ above. inl above) (λ below. inr (omega arith)) p) (⊎_elim (λ above. inl above) (λ below. inr (omega arith)) q) less within)
      (λ last.
      let e : k ≡ n = omega arith in
      rw e (get_or-set_same l (c + n) v 0 (omega arith) ∙ ap (λ x. f x (get_or l (b + n) 0)) first ∙ ap (f (get_or m (a + n) 0)) second))
      (cases_lt k n)

  -- what is so at each place is those bytes merged
  pub is_merged : (m' : List ℕ) (n : ℕ) → ReadFirst a c n → ReadFirst b c n → length m' ≡ length m
      → ((k : ℕ) → k < n → c + k < length m → get_or m' (c + k) 0 ≡ f (get_or m (a + k) 0) (get_or m (b + k) 0))
      → ((k : ℕ) → (k < c) ⊎ (c + n ≤ k) → get_or m' k 0 ≡ get_or m k 0)
      → m' ≡ merged f m a b c n
  is_merged m' n p q long inside outside =
      ext_get_or 0 m' (merged f m a b c n) (long ∙ sym (length_merged f m a b c n))
      (λ k h. ⊎_elim
      (λ below. outside k (inl below) ∙ sym (merged_out n k (inl below)))
      (λ from. ⊎_elim
      (λ within.
      let at : c + (k - c) ≡ k = omega arith in
      rw at at (inside (k - c) (omega arith) (omega arith) ∙ sym (merged_in n (k - c) p q (omega arith) (omega arith))))
      (λ past. outside k (inr past) ∙ sym (merged_out n k (inr past)))
      (cases_lt k (c + n)))
      (cases_lt k c))

  -- bytes of which those past the end are left out
  pub merged_front : (n k : ℕ) → length m ≤ c + n → merged f m a b c (n + k) ≡ merged f m a b c n
  unfolding merged
  merged_front n zero h = let e : n + 0 ≡ n = omega arith in rw e refl
  merged_front n (suc k) h =
      let e : n + suc k ≡ suc (n + k) = omega arith in
      let l = merged f m a b c (n + k) in
      rw e (set_past l (c + (n + k)) _ (omega (arith, length_merged f m a b c (n + k))) ∙ merged_front n k h)

  -- bytes, and then those after them
  pub merged_append : (n k : ℕ) → merged f (merged f m a b c n) (a + n) (b + n) (c + n) k ≡ merged f m a b c (n + k)
  unfolding merged
  merged_append n zero = let e : n + 0 ≡ n = omega arith in rw e refl
  merged_append n (suc k) =
      let e : n + suc k ≡ suc (n + k) = omega arith in
      let p : a + n + k ≡ a + (n + k) = omega arith in
      let q : b + n + k ≡ b + (n + k) = omega arith in
      let r : c + n + k ≡ c + (n + k) = omega arith in
      rw (e, p, q, r) (ap (λ l. set l (c + (n + k)) (f (get_or l (a + (n + k)) 0) (get_or l (b + (n + k)) 0))) (merged_append n k))

  -- as many as there is room for
  pub merged_clip : (count n : ℕ) → n ≡ min count (length m - c) → merged f m a b c n ≡ merged f m a b c count
  merged_clip count n is =
      ⊎_elim
      (λ less.
      let on : n + (count - n) ≡ count = omega arith in
      sym (merged_front n (count - n) (omega arith)) ∙ ap (merged f m a b c) on)
      (λ all. let on : n ≡ count = omega arith in ap (merged f m a b c) on)
      (cases_lt n count)

  -- past the end nothing is put
  pub merged_past : (n : ℕ) → length m ≤ c → m ≡ merged f m a b c n
  unfolding merged
  merged_past n h = merged_clip n 0 (omega arith)
