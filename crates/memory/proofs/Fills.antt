-- Pixels put many times: in pieces, turned to begin with their second byte, and in stripes of many.
use Rattle.std.proofs.Common.{◌≡◌, ℕ, zero, suc, ◌+◌, ◌*◌, ◌/◌, ◌%◌, ◌<◌, ◌≤◌, ◌-◌, List, [], ◌∷◌, ◌++◌, length, get_or, set, take, drop, refl, sym, ap, ◌∙◌, append_assoc, length-append, add-one, arith}
use Rattle.std.specs.List.{between}
use Rattle.std.proofs.lemmas.Slice.{between_to_end}
use Rattle.std.proofs.lemmas.List.{take_at}
use Rattle.std.proofs.lemmas.Nat.{row_fits, mul-le}
use Rattle.memory.specs.Spans.{overlaid, times}
use Rattle.memory.proofs.Spans.{overlaid_append, length_times}
use Rattle.memory.proofs.Repeats.{times_add}

-- the first of so many
pub take_times : (xs : List ℕ) (r k : ℕ) → r ≤ k → take (r * length xs) (times xs k) ≡ times xs r
take_times xs r k h =
    let e : r + (k - r) ≡ k = omega arith in
    ap (λ n. take (r * length xs) (times xs n)) (sym e)
    ∙ ap (take (r * length xs)) (times_add xs r (k - r))
    ∙ take_at (times xs r) (times xs (k - r)) (r * length xs) (length_times xs r)

-- the first byte of the first, then each with its first byte at its end, and then the rest of the last
times_turned : (x : ℕ) (ys : List ℕ) (n : ℕ) → x ∷ (times (ys ++ x ∷ []) n ++ ys) ≡ times (x ∷ ys) (suc n)
unfolding times
times_turned x ys zero = refl
times_turned x ys (suc n) =
    let t = times (ys ++ x ∷ []) n in
    let inner : (t ++ (ys ++ x ∷ [])) ++ ys ≡ (t ++ ys) ++ (x ∷ ys) = simp append_assoc in
    ap (λ l. x ∷ l) inner ∙ ap (λ l. l ++ (x ∷ ys)) (times_turned x ys n)

pub fill_zero : (m : List ℕ) (a : ℕ) (xs : List ℕ) (n : ℕ) → n ≡ 0 → m ≡ overlaid m a (times xs n)
unfolding overlaid times
fill_zero m a xs zero h = refl
fill_zero m a xs (suc n) h = absurd (omega arith)

pub fill_turned : (m : List ℕ) (a : ℕ) (xs : List ℕ) (n : ℕ) → 0 < length xs
    → overlaid (overlaid (set m a (get_or xs 0 0)) (a + 1) (times (drop 1 xs ++ take 1 xs) n)) (a + 1 + n * length xs) (between 1 (length xs) xs) ≡ overlaid m a (times xs (n + 1))
unfolding overlaid
fill_turned m a [] n h = absurd (omega arith)
fill_turned m a (x ∷ ys) n h =
    let t = times (ys ++ x ∷ []) n in
    let l = set m a x in
    let rest : between 1 (length (x ∷ ys)) (x ∷ ys) ≡ ys = between_to_end (x ∷ ys) 1 (length (x ∷ ys)) (omega arith) in
    let width : length (ys ++ x ∷ []) ≡ length (x ∷ ys) = omega (arith, length-append ys (x ∷ [])) in
    let long : length t ≡ n * length (x ∷ ys) = length_times (ys ++ x ∷ []) n ∙ ap (λ k. n * k) width in
    rw (add-one n)
    (ap (overlaid (overlaid l (a + 1) t) (a + 1 + n * length (x ∷ ys))) rest
    ∙ ap (λ k. overlaid (overlaid l (a + 1) t) (a + 1 + k) ys) (sym long)
    ∙ sym (overlaid_append l (a + 1) t ys)
    ∙ ap (overlaid m a) (times_turned x ys n))

-- one more of so many fits where all do
pub one_more : (i count n : ℕ) → i < count → i * n + n ≤ count * n
one_more i count n h = row_fits i n count n h (omega arith)

pub once_more : (i n : ℕ) → (i + 1) * n ≡ i * n + n
once_more i n = grind arith

pub stripes_some : (k w n : ℕ) → k * w ≡ n → 0 < n → 0 < k
stripes_some zero w n e some = absurd (omega arith)
stripes_some (suc k) w n e some = omega arith

-- whole stripes of k pixels of w bytes, and what is left: how many bytes the stripes are, that they fit, and how many pixels all are
pub stripes_long : (q k w n : ℕ) → k * w ≡ n → q * n ≡ q * k * w
stripes_long q k w n e = let turned : q * (k * w) ≡ q * k * w = grind arith in ap (λ s. q * s) (sym e) ∙ turned

pub stripes_all : (count k : ℕ) → 0 < k → count / k * k + count % k ≡ count
stripes_all count k some = let turned : count / k * k ≡ k * (count / k) = grind arith in omega (arith, turned)

pub stripes_fit : (count k w n : ℕ) → 0 < k → k * w ≡ n → count / k * n ≤ count * w
stripes_fit count k w n some e =
    let all = stripes_all count k some in
    let less : count / k * k * w ≤ count * w = mul-le (count / k * k) w count w (omega arith) (omega arith) in
    omega (arith, less, stripes_long (count / k) k w n e)
