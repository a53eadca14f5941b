-- Spans put, read and merged in pieces, and what reaches past the end.
use Rattle.std.proofs.Common.{◌≡◌, ℕ, zero, suc, ◌+◌, ◌<◌, ◌≤◌, ◌-◌, List, [], ◌∷◌, ◌++◌, min, length, get_or, set, take, drop, replicate, refl, sym, ap, ◌∙◌, append-nil, length-take, ⊎_elim, arith}
use Rattle.std.specs.List.{between}
use borrow.Rule.Slice.PartMut.{put_mid}
use Rattle.std.proofs.lemmas.Slice.{first_rest}
use Rattle.std.proofs.lemmas.List.{set_at, take_all, drop_all, take-append-drop, get_or_past}
use Rattle.std.proofs.lemmas.Bool.{cases_lt}
use Rattle.memory.specs.Spans.{span, overlaid, merged, ReadFirst}
use Rattle.memory.proofs.Spans.{length_span, length_overlaid, length_merged, overlaid_front, overlaid_in, overlaid_out, is_merged}

pub overlaid_none : (m : List ℕ) (a : ℕ) (xs : List ℕ) → length xs ≡ 0 → overlaid m a xs ≡ m
unfolding overlaid
overlaid_none m a [] h = refl
overlaid_none m a (x ∷ xs) h = absurd (omega arith)

-- what reaches past the end changes nothing
pub overlaid_cut : (m : List ℕ) (a : ℕ) (xs : List ℕ) (n : ℕ) → n ≡ min (length xs) (length m - a) → overlaid m a (take n xs) ≡ overlaid m a xs
overlaid_cut m a xs n h =
    ⊎_elim
    (λ short. ap (overlaid m a) (take_all n xs (omega arith)))
    (λ long. sym (ap (overlaid m a) (sym (take-append-drop n xs)) ∙ overlaid_front m a (take n xs) (drop n xs) (omega (arith, length-take n xs))))
    (cases_lt (a + n) (length m))

-- the first byte, and then the others
pub overlaid_first : (m : List ℕ) (a : ℕ) (xs : List ℕ) → 0 < length xs → overlaid (set m a (get_or xs 0 0)) (a + 1) (between 1 (length xs) xs) ≡ overlaid m a xs
unfolding overlaid
overlaid_first m a xs h = sym (ap (overlaid m a) (first_rest xs 0 h))

pub span_none : (m : List ℕ) (a : ℕ) (xs : List ℕ) → length xs ≡ 0 → xs ≡ span m a (length xs)
unfolding span
span_none m a [] h = refl
span_none m a (x ∷ xs) h = absurd (omega arith)

pub span_more : (m : List ℕ) (a n : ℕ) → span m a n ++ get_or m (a + n) 0 ∷ [] ≡ span m a (n + 1)
unfolding span
span_more m a zero = let e : a + 0 ≡ a = omega arith in rw e refl
span_more m a (suc n) =
    let e : a + suc n ≡ a + 1 + n = omega arith in
    let e' : suc n + 1 ≡ suc (n + 1) = omega arith in
    rw (e, e') (ap (λ l. get_or m a 0 ∷ l) (span_more m (a + 1) n))

pub span_append : (m : List ℕ) (a n k : ℕ) → span m a n ++ span m (a + n) k ≡ span m a (n + k)
unfolding span
span_append m a zero k = let e : a + 0 ≡ a = omega arith in let e' : 0 + k ≡ k = omega arith in rw (e, e') refl
span_append m a (suc n) k =
    let e : a + suc n ≡ a + 1 + n = omega arith in
    let e' : suc n + k ≡ suc (n + k) = omega arith in
    rw (e, e') (ap (λ l. get_or m a 0 ∷ l) (span_append m (a + 1) n k))

-- past the end each byte is 0
pub span_past : (m : List ℕ) (a n : ℕ) → length m ≤ a → replicate n 0 ≡ span m a n
unfolding span
span_past m a zero h = refl
span_past m a (suc n) h = rw (get_or_past m a 0 h) (ap (λ l. 0 ∷ l) (span_past m (a + 1) n (omega arith)))

-- bytes of memory, and then those past its end
pub span_cut : (m : List ℕ) (a : ℕ) (ys zs : List ℕ) (h n : ℕ) → h ≡ min n (length m - a) → ys ≡ span m a h → zs ≡ replicate (n - h) 0 → ys ++ zs ≡ span m a n
span_cut m a ys zs h n e is past =
    let all : h + (n - h) ≡ n = omega arith in
    ⊎_elim
    (λ short.
    let none : n - h ≡ 0 = omega arith in
    let same : h ≡ n = omega arith in
    ap (λ l. l ++ zs) is ∙ ap (λ l. span m a h ++ l) (past ∙ ap (λ i. replicate i 0) none) ∙ append-nil (span m a h) ∙ ap (span m a) same)
    (λ long.
    ap (λ l. l ++ zs) is ∙ ap (λ l. span m a h ++ l) (past ∙ span_past m (a + h) (n - h) long) ∙ span_append m a h (n - h) ∙ ap (span m a) all)
    (cases_lt (a + h) (length m))

-- the first byte, and then the others
pub span_first : (m : List ℕ) (a : ℕ) (xs ys : List ℕ) (x k : ℕ) → 0 < length xs → k ≡ length xs - 1 → ys ≡ span m (a + 1) k → x ≡ get_or m a 0
    → put_mid 1 k (set xs 0 x) ys ≡ span m a (length xs)
unfolding span
span_first m a [] ys x k some e is here = absurd (omega arith)
span_first m a (z ∷ zs) ys x k some e is here =
    let k' : k ≡ length zs = omega arith in
    let none : drop k zs ≡ [] = drop_all k zs (omega arith) in
    rw (none, append-nil ys) (ap (λ v. v ∷ ys) here ∙ ap (λ l. get_or m a 0 ∷ l) (is ∙ ap (span m (a + 1)) k'))

-- the last byte of an odd number
pub span_last : (m : List ℕ) (a : ℕ) (ys zs : List ℕ) (w x n : ℕ) → ys ≡ span m a w → n ≡ w + 1 → length zs ≡ 1 → x ≡ get_or m (a + w) 0
    → set (ys ++ zs) w x ≡ span m a n
span_last m a ys [] w x n is e one here = absurd (omega arith)
span_last m a ys (z ∷ []) w x n is e one here =
    let long : length ys ≡ w = ap length is ∙ length_span m a w in
    set_at ys z [] x w long ∙ ap (λ l. l ++ x ∷ []) is ∙ ap (λ v. span m a w ++ v ∷ []) here ∙ span_more m a w ∙ ap (span m a) (sym e)
span_last m a ys (z ∷ z' ∷ zs) w x n is e one here = absurd (omega arith)

pub merged_none : (f : ℕ → ℕ → ℕ) (m : List ℕ) (a b c n : ℕ) → n ≡ 0 → m ≡ merged f m a b c n
unfolding merged
merged_none f m a b c zero h = refl
merged_none f m a b c (suc n) h = absurd (omega arith)

pub merged_one : (f : ℕ → ℕ → ℕ) (m : List ℕ) (a b c : ℕ) → set m c (f (get_or m a 0) (get_or m b 0)) ≡ merged f m a b c 1
unfolding merged
merged_one f m a b c =
    let e : (p : ℕ) → p ≡ p + 0 = λ p. omega arith in
    ap (λ p. set m p (f (get_or m a 0) (get_or m b 0))) (e c)
    ∙ ap (λ p. set m (c + 0) (f (get_or m p 0) (get_or m b 0))) (e a)
    ∙ ap (λ p. set m (c + 0) (f (get_or m (a + 0) 0) (get_or m p 0))) (e b)

-- bytes, and then those after them
pub merged_append : (f : ℕ → ℕ → ℕ) (m : List ℕ) (a b c n k : ℕ) → merged f (merged f m a b c n) (a + n) (b + n) (c + n) k ≡ merged f m a b c (n + k)
unfolding merged
merged_append f m a b c n zero = let e : n + 0 ≡ n = omega arith in rw e refl
merged_append f m a b c n (suc k) =
    let e : n + suc k ≡ suc (n + k) = omega arith in
    let p : (s : ℕ) → s + n + k ≡ s + (n + k) = λ s. omega arith in
    rw (e, p a, p b, p c) (ap (λ l. set l (c + (n + k)) (f (get_or l (a + (n + k)) 0) (get_or l (b + (n + k)) 0))) (merged_append f m a b c n k))

pub merged_size : (f : ℕ → ℕ → ℕ) (m l : List ℕ) (a b c n : ℕ) → l ≡ merged f m a b c n → length l ≡ length m
merged_size f m l a b c n is = ap length is ∙ length_merged f m a b c n

-- bytes that are all read before one is written over are put at once
pub merged_ahead : (f : ℕ → ℕ → ℕ) (m : List ℕ) (a b c : ℕ) (xs : List ℕ) → ReadFirst a c (length xs) → ReadFirst b c (length xs)
    → ((k : ℕ) → k < length xs → get_or xs k 0 ≡ f (get_or m (a + k) 0) (get_or m (b + k) 0)) → overlaid m c xs ≡ merged f m a b c (length xs)
merged_ahead f m a b c xs first second each =
    is_merged f m a b c (overlaid m c xs) (length xs) first second (length_overlaid m c xs)
    (λ k h within. overlaid_in m c xs k h within ∙ each k h)
    (λ k h. overlaid_out m c xs k h)
