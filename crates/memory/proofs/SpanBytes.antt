-- What each byte is after a call on a span.
use Rattle.std.proofs.Common.{◌≡◌, ℕ, zero, suc, ◌+◌, ◌-◌, ◌*◌, ◌%◌, ◌<◌, inl, inr, ⊎_elim, List, length, get_or, refl, sym, ap, ◌∙◌, arith}
use Rattle.std.proofs.lemmas.Bool.{cases_lt, lt-ltb, le-ltb, le-leb, lt-leb}
use Rattle.std.proofs.lemmas.Nat.{mod-mul-add}
use Rattle.std.proofs.lemmas.List.{get_or-set_same, get_or-set_other, get_or_append_left, get_or-append_right}
use Rattle.memory.specs.Spans.{span, overlaid, times, merged, SpanBytes, StoredBytes, FilledBytes, MergedBytes, seen}
use Rattle.memory.proofs.Spans.{length_span, span_at, length_overlaid, overlaid_in, overlaid_out, length_times, length_merged, merged_out}

pub span_bytes : (m : List ℕ) (a n : ℕ) (xs : List ℕ) → xs ≡ span m a n → SpanBytes m a n xs
span_bytes m a n xs is = record {
  long = ap length is ∙ length_span m a n;
  each = λ k h. ap (λ l. get_or l k 0) is ∙ span_at m a n k h;
}

pub stored_bytes : (m : List ℕ) (a : ℕ) (xs m' : List ℕ) → m' ≡ overlaid m a xs → StoredBytes m a xs m'
stored_bytes m a xs m' is = record {
  long = ap length is ∙ length_overlaid m a xs;
  inside = λ k h within. ap (λ l. get_or l (a + k) 0) is ∙ overlaid_in m a xs k h within;
  outside = λ k h. ap (λ l. get_or l k 0) is ∙ overlaid_out m a xs k h;
}

-- a byte of so many pixels
times_at : (xs : List ℕ) (n k : ℕ) → k < n * length xs → get_or (times xs n) k 0 ≡ get_or xs (k % length xs) 0
unfolding times
times_at xs zero k h = absurd (omega arith)
times_at xs (suc n) k h =
    let long = length_times xs n in
    ⊎_elim
    (λ before. get_or_append_left (times xs n) xs 0 k (omega arith) ∙ times_at xs n k before)
    (λ last.
    let on : n * length xs + (k - n * length xs) ≡ k = omega arith in
    let place : k - n * length xs ≡ k % length xs = sym (ap (λ i. i % length xs) (sym on) ∙ mod-mul-add n (length xs) (k - n * length xs) (omega arith)) in
    get_or-append_right (times xs n) xs (n * length xs) k 0 long last ∙ ap (λ i. get_or xs i 0) place)
    (cases_lt k (n * length xs))

pub filled_bytes : (m : List ℕ) (a : ℕ) (xs : List ℕ) (n : ℕ) (m' : List ℕ) → m' ≡ overlaid m a (times xs n) → FilledBytes m a xs n m'
filled_bytes m a xs n m' is =
    let long = length_times xs n in
    record {
      long = ap length is ∙ length_overlaid m a (times xs n);
      inside = λ k h within. ap (λ l. get_or l (a + k) 0) is ∙ overlaid_in m a (times xs n) k (omega arith) within ∙ times_at xs n k h;
      outside = λ k h. ap (λ l. get_or l k 0) is ∙ overlaid_out m a (times xs n) k (⊎_elim (λ below. inl below) (λ past. inr (omega arith)) h);
    }

module _ (f : ℕ → ℕ → ℕ) (m : List ℕ) (a b c : ℕ) where
  -- a byte that has been put stays
  merged_keep : (n j p : ℕ) → p < c + n → get_or (merged f m a b c (n + j)) p 0 ≡ get_or (merged f m a b c n) p 0
  unfolding merged
  merged_keep n zero p h = let e : n + 0 ≡ n = omega arith in rw e refl
  merged_keep n (suc j) p h =
      let e : n + suc j ≡ suc (n + j) = omega arith in
      let l = merged f m a b c (n + j) in
      rw e
      (get_or-set_other l (c + (n + j)) p (f (get_or l (a + (n + j)) 0) (get_or l (b + (n + j)) 0)) 0 (omega arith) ∙ merged_keep n j p h)

  -- what a turn puts stays to the end
  merged_turn : (n k : ℕ) → k < n → c + k < length m
      → get_or (merged f m a b c n) (c + k) 0 ≡ f (get_or (merged f m a b c k) (a + k) 0) (get_or (merged f m a b c k) (b + k) 0)
  unfolding merged
  merged_turn n k h within =
      let on : suc k + (n - suc k) ≡ n = omega arith in
      let l = merged f m a b c k in
      ap (λ i. get_or (merged f m a b c i) (c + k) 0) (sym on)
      ∙ merged_keep (suc k) (n - suc k) (c + k) (omega arith)
      ∙ get_or-set_same l (c + k) (f (get_or l (a + k) 0) (get_or l (b + k) 0)) 0 (omega (arith, length_merged f m a b c k))

  -- what a turn reads
  merged_seen : (s n k : ℕ) → k < n → get_or (merged f m a b c k) (s + k) 0 ≡ seen m (merged f m a b c n) s c k
  merged_seen s n k h =
      let on : k + (n - k) ≡ n = omega arith in
      ⊎_elim
      (λ before. ⊎_elim
      (λ out. rw (lt-ltb s c before, lt-leb c (s + k) out) (merged_out f m a b c k (s + k) (inl out)))
      (λ put.
      rw (lt-ltb s c before, le-leb c (s + k) put)
      (sym (ap (λ i. get_or (merged f m a b c i) (s + k) 0) (sym on) ∙ merged_keep k (n - k) (s + k) (omega arith))))
      (cases_lt (s + k) c))
      (λ after. rw (le-ltb s c after) (merged_out f m a b c k (s + k) (inr (omega arith))))
      (cases_lt s c)

  pub merged_bytes : (n : ℕ) (m' : List ℕ) → m' ≡ merged f m a b c n → MergedBytes f m a b c n m'
  merged_bytes n m' is =
      record {
        long = ap length is ∙ length_merged f m a b c n;
        inside = λ k h within.
            ap (λ l. get_or l (c + k) 0) is
            ∙ merged_turn n k h within
            ∙ ap (λ x. f x (get_or (merged f m a b c k) (b + k) 0)) (merged_seen a n k h ∙ ap (λ l. seen m l a c k) (sym is))
            ∙ ap (f (seen m m' a c k)) (merged_seen b n k h ∙ ap (λ l. seen m l b c k) (sym is));
        outside = λ k h. ap (λ l. get_or l k 0) is ∙ merged_out f m a b c n k h;
      }
