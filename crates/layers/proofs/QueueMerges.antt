-- What bytes merged one after another make of a write queue.
use Rattle.std.proofs.Common.{◌≡◌, ℕ, zero, suc, ◌+◌, ◌-◌, ◌<◌, ◌≤◌, ◌⊎◌, ⊎_elim, List, [], ◌∷◌, ◌++◌, length, get_or, set, min, sym, refl, ap, ◌∙◌, subst, length-append, append-nil, append_assoc, add-one, arith}
use Rattle.std.proofs.lemmas.Bool.{cases_eq, cases_lt}
use Rattle.std.proofs.lemmas.List.{get_or-set_same, get_or-set_other, set_past}
use Rattle.memory.specs.Spans.{OfBytes, overlaid, merged}
use Rattle.memory.proofs.Spans.{overlaid_append}
use Rattle.memory.proofs.Pieces.{merged_append}
use Rattle.layers.specs.Places.{Apart}
use Rattle.layers.specs.Queue.{Queue, queue, over, through, queued, queued_all, queued_merged}
use Rattle.layers.proofs.Lays.{laid_none}
use Rattle.layers.proofs.Queues.{queued_past, length_queued}
use Rattle.layers.proofs.QueueSpans.{queued_append, queued_through, over_queued_all, some_through, bytes_append}

-- the bytes that a merge puts
unfoldable made : (ℕ → ℕ → ℕ) → List ℕ → ℕ → ℕ → ℕ → ℕ → List ℕ
made f m a b c zero = []
made f m a b c (suc n) =
    let l = merged f m a b c n in
    made f m a b c n ++ f (get_or l (a + n) 0) (get_or l (b + n) 0) ∷ []

module _ (f : ℕ → ℕ → ℕ) where
  length_made : (m : List ℕ) (a b c n : ℕ) → length (made f m a b c n) ≡ n
  unfolding made
  length_made m a b c zero = refl
  length_made m a b c (suc n) =
      let l = merged f m a b c n in
      omega (arith, length-append (made f m a b c n) (f (get_or l (a + n) 0) (get_or l (b + n) 0) ∷ []), length_made m a b c n)

  overlaid_made : (m : List ℕ) (a b c n : ℕ) → overlaid m c (made f m a b c n) ≡ merged f m a b c n
  unfolding made overlaid merged
  overlaid_made m a b c zero = refl
  overlaid_made m a b c (suc n) =
      let l = merged f m a b c n in
      let v = f (get_or l (a + n) 0) (get_or l (b + n) 0) in
      overlaid_append m c (made f m a b c n) (v ∷ [])
      ∙ ap (λ i. set (overlaid m c (made f m a b c n)) (c + i) v) (length_made m a b c n)
      ∙ ap (λ l'. set l' (c + n) v) (overlaid_made m a b c n)

  made_append : (m : List ℕ) (a b c j k : ℕ) → made f m a b c j ++ made f (merged f m a b c j) (a + j) (b + j) (c + j) k ≡ made f m a b c (j + k)
  unfolding made
  made_append m a b c j zero = let e : j + 0 ≡ j = omega arith in rw e (append-nil (made f m a b c j))
  made_append m a b c j (suc k) =
      let e : j + suc k ≡ suc (j + k) = omega arith in
      let p : (s : ℕ) → s + j + k ≡ s + (j + k) = λ s. omega arith in
      let l = merged f m a b c j in
      let rest = made f l (a + j) (b + j) (c + j) k in
      let v : List ℕ → ℕ = λ l'. f (get_or l' (a + (j + k)) 0) (get_or l' (b + (j + k)) 0) in
      rw (e, p a, p b)
      (sym (append_assoc (made f m a b c j) rest (v (merged f l (a + j) (b + j) (c + j) k) ∷ []))
      ∙ ap (λ xs. xs ++ v (merged f l (a + j) (b + j) (c + j) k) ∷ []) (made_append m a b c j k)
      ∙ ap (λ l'. made f m a b c (j + k) ++ v l' ∷ []) (merged_append f m a b c j k))

  length_queued_merged : (q : Queue) (a b c n : ℕ) → length (queued_merged f q a b c n).below ≡ length q.below
  unfolding queued_merged
  length_queued_merged q a b c zero = refl
  length_queued_merged q a b c (suc n) =
      let p = queued_merged f q a b c n in
      length_queued p (c + n) (f (get_or (over p) (a + n) 0) (get_or (over p) (b + n) 0)) ∙ length_queued_merged q a b c n

  -- past the end nothing is put
  pub queued_merged_past : (q : Queue) (a b c n k : ℕ) → length q.below ≤ c + n → queued_merged f q a b c (n + k) ≡ queued_merged f q a b c n
  unfolding queued_merged
  queued_merged_past q a b c n zero h = let e : n + 0 ≡ n = omega arith in rw e refl
  queued_merged_past q a b c n (suc k) h =
      let e : n + suc k ≡ suc (n + k) = omega arith in
      let p = queued_merged f q a b c (n + k) in
      rw e
      (sym (queued_past p (c + (n + k)) (f (get_or (over p) (a + (n + k)) 0) (get_or (over p) (b + (n + k)) 0)) (omega (arith, length_queued_merged q a b c (n + k))))
      ∙ queued_merged_past q a b c n k h)

  -- one byte more
  pub queued_merged_more : (q : Queue) (a b c n : ℕ)
      → queued (queued_merged f q a b c n) (c + n) (f (get_or (over (queued_merged f q a b c n)) (a + n) 0) (get_or (over (queued_merged f q a b c n)) (b + n) 0))
      ≡ queued_merged f q a b c (n + 1)
  unfolding queued_merged
  queued_merged_more q a b c n = rw (add-one n) refl

module _ (f : ℕ → ℕ → ℕ) (fits : OfBytes f) where
  merged_bytes : (m : List ℕ) (a b c n : ℕ) → ((k : ℕ) → get_or m k 0 < 256) → (k : ℕ) → get_or (merged f m a b c n) k 0 < 256
  unfolding merged
  merged_bytes m a b c zero bytes k = bytes k
  merged_bytes m a b c (suc n) bytes k =
      let l = merged f m a b c n in
      let v = f (get_or l (a + n) 0) (get_or l (b + n) 0) in
      let before = merged_bytes m a b c n bytes in
      let byte : v < 256 = fits _ _ (before (a + n)) (before (b + n)) in
      ⊎_elim
      (λ here. ⊎_elim
      (λ within. rw here (rw (get_or-set_same l (c + n) v 0 within) byte))
      (λ past. rw (set_past l (c + n) v past) (before k))
      (cases_lt (c + n) (length l)))
      (λ other. rw (get_or-set_other l (c + n) k v 0 other) (before k))
      (cases_eq k (c + n))

  one_byte : (v : ℕ) → v < 256 → (k : ℕ) → get_or (v ∷ []) k 0 < 256
  one_byte v h zero = h
  one_byte v h (suc k) = omega arith

  made_bytes : (m : List ℕ) (a b c n : ℕ) → ((k : ℕ) → get_or m k 0 < 256) → (k : ℕ) → get_or (made f m a b c n) k 0 < 256
  unfolding made
  made_bytes m a b c zero bytes k = omega arith
  made_bytes m a b c (suc n) bytes k =
      let l = merged f m a b c n in
      let v = f (get_or l (a + n) 0) (get_or l (b + n) 0) in
      let before = merged_bytes m a b c n bytes in
      bytes_append (made f m a b c n) (v ∷ []) (made_bytes m a b c n bytes) (one_byte v (fits _ _ (before (a + n)) (before (b + n)))) k

  -- a merge puts so many bytes
  merged_made : (q : Queue) (a b c n : ℕ) → ((k : ℕ) → get_or (over q) k 0 < 256) → queued_merged f q a b c n ≡ queued_all q c (made f (over q) a b c n)
  unfolding queued_merged queued_all made
  merged_made q a b c zero bytes = refl
  merged_made q a b c (suc n) bytes =
      let xs = made f (over q) a b c n in
      let l = merged f (over q) a b c n in
      let v = f (get_or l (a + n) 0) (get_or l (b + n) 0) in
      let before = merged_made q a b c n bytes in
      let shown : over (queued_merged f q a b c n) ≡ l = ap over before ∙ over_queued_all q c xs (made_bytes (over q) a b c n bytes) ∙ overlaid_made f (over q) a b c n in
      ap (λ s. queued (queued_merged f q a b c n) (c + n) (f (get_or s (a + n) 0) (get_or s (b + n) 0))) shown
      ∙ ap (λ p. queued p (c + n) v) before
      ∙ ap (λ i. queued (queued_all q c xs) (c + i) v) (sym (length_made f (over q) a b c n))
      ∙ sym (queued_append q c xs (v ∷ []))

  -- what the queue shows after a merge
  pub over_queued_merged : (q : Queue) (a b c n : ℕ) → ((k : ℕ) → get_or (over q) k 0 < 256) → over (queued_merged f q a b c n) ≡ merged f (over q) a b c n
  over_queued_merged q a b c n bytes =
      ap over (merged_made q a b c n bytes) ∙ over_queued_all q c (made f (over q) a b c n) (made_bytes (over q) a b c n bytes) ∙ overlaid_made f (over q) a b c n

  -- all but at least the last 16 bytes of a merge went below, after all that waited
  merged_through : (q : Queue) (a b c n t : ℕ) → length q.entries ≤ 16 → c + n ≤ length q.below → Apart q.entries c n ⊎ (48 ≤ n) → t + 16 ≤ n → ((k : ℕ) → get_or (over q) k 0 < 256)
      → queued_merged f (queue (merged f (over q) a b c t) []) (a + t) (b + t) (c + t) (n - t) ≡ queued_merged f q a b c n
  merged_through q a b c n t few within either many bytes =
      let m = merged f (over q) a b c t in
      let xs = made f (over q) a b c t in
      let ys = made f m (a + t) (b + t) (c + t) (n - t) in
      let front : length xs ≡ t = length_made f (over q) a b c t in
      let back : length ys ≡ n - t = length_made f m (a + t) (b + t) (c + t) (n - t) in
      let all : n ≡ length (xs ++ ys) = omega (arith, length-append xs ys) in
      let e : t + (n - t) ≡ n = omega arith in
      merged_made (queue m []) (a + t) (b + t) (c + t) (n - t) (λ k. rw (laid_none m) (merged_bytes (over q) a b c t bytes k))
      ∙ ap (λ l. queued_all (queue m []) (c + t) (made f l (a + t) (b + t) (c + t) (n - t))) (laid_none m)
      ∙ ap (λ l. queued_all (queue l []) (c + t) ys) (sym (overlaid_made f (over q) a b c t))
      ∙ ap (λ i. queued_all (queue (overlaid (over q) c xs) []) (c + i) ys) (sym front)
      ∙ queued_through q c xs ys few (omega arith) (subst (λ i. Apart q.entries c i ⊎ (48 ≤ i)) all either) (omega arith) (made_bytes (over q) a b c t bytes)
      (made_bytes m (a + t) (b + t) (c + t) (n - t) (merged_bytes (over q) a b c t bytes))
      ∙ ap (queued_all q c) (made_append f (over q) a b c t (n - t) ∙ ap (made f (over q) a b c) e)
      ∙ sym (merged_made q a b c n bytes)

  module _ (q : Queue) (a b c count n t : ℕ) (cut : n ≡ min count (length q.below - c)) where
    merged_cut : queued_merged f q a b c n ≡ queued_merged f q a b c count
    merged_cut =
        let e : n + (count - n) ≡ count = omega arith in
        ⊎_elim
        (λ within. ap (queued_merged f q a b c) (omega arith))
        (λ past. sym (ap (queued_merged f q a b c) (sym e) ∙ queued_merged_past f q a b c n (count - n) past))
        (cases_lt (c + n) (length q.below))

    -- some of the bytes of a merge went below, after all that waited
    pub queued_merged_some : t ≡ through q.entries c n → 0 < t → length q.entries ≤ 16 → ((k : ℕ) → get_or (over q) k 0 < 256)
        → queued_merged f (queue (merged f (over q) a b c t) []) (a + t) (b + t) (c + t) (n - t) ≡ queued_merged f q a b c count
    queued_merged_some is some few bytes =
        let sent = some_through q.entries c n t is some in
        merged_through q a b c n t few (omega (arith, sent.1)) sent.0 (omega (arith, sent.1)) bytes ∙ merged_cut

    -- none of them did
    pub queued_merged_none : t ≡ 0 → queued_merged f q (a + t) (b + t) (c + t) (n - t) ≡ queued_merged f q a b c count
    queued_merged_none none =
        let e : (s : ℕ) → s + 0 ≡ s = λ s. omega arith in
        let all : n - 0 ≡ n = omega arith in
        rw (none, e a, e b, e c, all) merged_cut
