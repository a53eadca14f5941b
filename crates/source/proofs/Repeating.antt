-- Bytes repeated over those after them.
use Rattle.std.proofs.Common.{◌≡◌, ℕ, ◌+◌, ◌-◌, ◌*◌, ◌/◌, ◌%◌, ◌^◌, ◌<◌, ◌≤◌, min, List, ◌++◌, length, get_or, take, sym, ap, ◌∙◌, ⊎_elim, mod-eq_of_lt, mul_assoc, length-take, arith}
use Rattle.std.proofs.Math.Nat.{mul-add-mod_self_right, add-mod_left, add-mod-mod, add-mul}
use Rattle.std.proofs.lemmas.Nat.{div-add-mod', mod-mul-add, mod_below, mul-le}
use native.Mathlib.Nat.{mod-le}
use Rattle.std.proofs.lemmas.Bool.{cases_lt}
use Rattle.std.proofs.lemmas.List.{take_at, get_or-take, get_or_append_left, get_or-append_right}
use Rattle.memory.specs.Spans.{span}
use Rattle.memory.proofs.Spans.{length_span, span_at}
use Rattle.window.specs.Values.{value_at}
use Rattle.window.proofs.Values.{four_bytes}
use Rattle.window.proofs.Spans.{value_same, value_four}

-- the first n bytes of x are the first p of y, again and again
abbrev pub Repeated : ℕ → List ℕ → List ℕ → ℕ → Type 0
Repeated p y x n = (j : ℕ) → j < n → get_or x j 0 ≡ get_or y (j % p) 0

pub repeated_once : (p : ℕ) (y : List ℕ) → Repeated p y y p
repeated_once p y j h = ap (λ i. get_or y i 0) (sym (mod-eq_of_lt h))

module _ (p n : ℕ) (whole : n % p ≡ 0) where
  -- a multiple of p further on
  past_whole : (i : ℕ) → (n + i) % p ≡ i % p
  past_whole i =
      let e : n + i ≡ n / p * p + i = omega (arith, div-add-mod' n p) in
      ap (λ m. m % p) e ∙ mul-add-mod_self_right (n / p) p i

  pub twice_whole : (n + n) % p ≡ 0
  twice_whole = past_whole n ∙ whole

  -- the first k of n bytes once more
  pub repeated_more : (y x f s r : List ℕ) (k : ℕ) → n + k ≤ length x → k ≤ n → f ≡ take n x → s ≡ take k f → Repeated p y x n → Repeated p y (f ++ (s ++ r)) (n + k)
  repeated_more y x f s r k fits few first copy so_far j h =
      let long : length f ≡ n = omega (arith, ap length first, length-take n x) in
      let short : length s ≡ k = omega (arith, ap length copy, length-take k f) in
      ⊎_elim
      (λ (l : j < n).
      get_or_append_left f (s ++ r) 0 j (omega arith) ∙ ap (λ xs. get_or xs j 0) first ∙ get_or-take n x j 0 l ∙ so_far j l)
      (λ (l : n ≤ j).
      let i : j - n < k = omega arith in
      let m : j - n < n = omega arith in
      let e : n + (j - n) ≡ j = omega arith in
      get_or-append_right f (s ++ r) n j 0 long l
      ∙ get_or_append_left s r 0 (j - n) (omega arith)
      ∙ ap (λ xs. get_or xs (j - n) 0) copy
      ∙ get_or-take k f (j - n) 0 i
      ∙ ap (λ xs. get_or xs (j - n) 0) first
      ∙ get_or-take n x (j - n) 0 m
      ∙ so_far (j - n) m
      ∙ ap (λ i. get_or y i 0) (sym (past_whole (j - n)) ∙ ap (λ i. i % p) e))
      (cases_lt j n)

pub value_one : (x : List ℕ) (i : ℕ) → value_at x (i * 1) 1 ≡ get_or x i 0
unfolding value_at
value_one x i = let e : i * 1 ≡ i = omega arith in rw e (omega arith)

-- a number in its four bytes once more
pub sent_more : (v i : ℕ) (x y rest : List ℕ) → v < 2 ^ 32 → 4 * i ≤ length x → y ≡ four_bytes v → ((j : ℕ) → j < i → value_at x (j * 4) 4 ≡ v)
    → (j : ℕ) → j < i + 1 → value_at (take (4 * i) x ++ (y ++ rest)) (j * 4) 4 ≡ v
sent_more v i x y rest small fits is before j h =
    let front = take (4 * i) x in
    let long : length front ≡ 4 * i = omega (arith, length-take (4 * i) x) in
    let four : length y ≡ 4 = ap length is in
    ⊎_elim
    (λ (l : j < i).
    value_same (front ++ (y ++ rest)) x (j * 4) (j * 4) 4
    (λ k q. get_or_append_left front (y ++ rest) 0 (j * 4 + k) (omega arith) ∙ get_or-take (4 * i) x (j * 4 + k) 0 (omega arith))
    ∙ before j l)
    (λ (l : i ≤ j).
    value_same (front ++ (y ++ rest)) (four_bytes v) (j * 4) 0 4
    (λ k q.
    let e : j * 4 + k - 4 * i ≡ 0 + k = omega arith in
    get_or-append_right front (y ++ rest) (4 * i) (j * 4 + k) 0 long (omega arith)
    ∙ get_or_append_left y rest 0 (j * 4 + k - 4 * i) (omega arith)
    ∙ ap (λ n. get_or y n 0) e
    ∙ ap (λ xs. get_or xs (0 + k) 0) is)
    ∙ value_four v small)
    (cases_lt j i)

-- bytes read from byte `first` of a row on to its end, and then from its start on
pub row_read : (m y z w rest : List ℕ) (start row first n half : ℕ) → first < row → half ≡ min (row - first) n
    → z ≡ span m (start + first) half → w ≡ span m start (min row n - half)
    → (j : ℕ) → j < row → j < n → get_or (take half (z ++ y) ++ (w ++ rest)) j 0 ≡ get_or m (start + (first + j) % row) 0
row_read m y z w rest start row first n half inside part is then j h l =
    let read : length z ≡ half = ap length is ∙ length_span m (start + first) half in
    let back : length w ≡ min row n - half = ap length then ∙ length_span m start (min row n - half) in
    let front : take half (z ++ y) ≡ z = take_at z y half read in
    ap (λ xs. get_or (xs ++ (w ++ rest)) j 0) front
    ∙ ⊎_elim
    (λ (q : j < half).
    let same : (first + j) % row ≡ first + j = mod-eq_of_lt (omega arith) in
    let e : start + first + j ≡ start + (first + j) = omega arith in
    get_or_append_left z (w ++ rest) 0 j (omega arith)
    ∙ ap (λ xs. get_or xs j 0) is
    ∙ span_at m (start + first) half j q
    ∙ ap (λ i. get_or m i 0) (e ∙ ap (λ i. start + i) (sym same)))
    (λ (q : half ≤ j).
    let e : first + j ≡ row + (j - half) = omega arith in
    let same : (first + j) % row ≡ j - half = ap (λ i. i % row) e ∙ add-mod_left row (j - half) ∙ mod-eq_of_lt (omega arith) in
    get_or-append_right z (w ++ rest) half j 0 read q
    ∙ get_or_append_left w rest 0 (j - half) (omega arith)
    ∙ ap (λ xs. get_or xs (j - half) 0) then
    ∙ span_at m start (min row n - half) (j - half) (omega arith)
    ∙ ap (λ i. get_or m (start + i) 0) (sym same))
    (cases_lt j half)

-- and then repeated
pub row_repeated : (m x y : List ℕ) (start row first n : ℕ) → 0 < row → ((j : ℕ) → j < row → j < n → get_or y j 0 ≡ get_or m (start + (first + j) % row) 0)
    → (j : ℕ) → j < n → get_or x j 0 ≡ get_or y (j % row) 0 → get_or x j 0 ≡ get_or m (start + (first + j) % row) 0
row_repeated m x y start row first n some read j h is =
    is ∙ read (j % row) (mod_below j row some) (omega (arith, mod-le j row)) ∙ ap (λ i. get_or m (start + i) 0) (add-mod-mod first j row)

-- byte t of pixel c + i of a row of w pixels
pub byte_in_row : (w b c i t : ℕ) → 1 ≤ w → t < b → (c * b + (i * b + t)) % (w * b) ≡ (c + i) % w * b + t
byte_in_row w b c i t some h =
    let q = (c + i) / w in
    let r = (c + i) % w in
    let all : c * b + (i * b + t) ≡ (c + i) * b + t = omega (arith, add-mul c i b) in
    let parts : (c + i) * b ≡ q * (w * b) + r * b = ap (λ n. n * b) (sym (div-add-mod' (c + i) w)) ∙ add-mul (q * w) r b ∙ ap (λ n. n + r * b) (mul_assoc q w b) in
    let below = mul-le (r + 1) b w b (omega (arith, mod_below (c + i) w some)) (omega arith) in
    let sum : c * b + (i * b + t) ≡ q * (w * b) + (r * b + t) = omega arith in
    ap (λ n. n % (w * b)) sum ∙ mod-mul-add q (w * b) (r * b + t) (omega arith)
