-- Values in bytes read one after another.
use Rattle.std.proofs.Common.{◌≡◌, ℕ, zero, suc, ◌+◌, ◌^◌, ◌<◌, ◌≤◌, List, ◌++◌, length, get_or, replicate, refl, sym, ap, ◌∙◌, arith}
use Rattle.std.proofs.lemmas.List.{get_or_past, get_or_append_left, length-replicate, get_or-replicate}
use Rattle.memory.specs.Bytes.{Sound}
use Rattle.memory.specs.Spans.{span}
use Rattle.memory.proofs.Spans.{length_span, span_at, is_span}
use Rattle.window.specs.Values.{value_at}
use Rattle.window.proofs.Values.{four_bytes}

-- past the addresses of 32 bits no memory has a byte
pub zeros_past : (m : List ℕ) → Sound m → (a n : ℕ) → 2 ^ 32 ≤ a → replicate n 0 ≡ span m a n
zeros_past m sound a n h =
    is_span m a n (replicate n 0) (length-replicate n 0)
    (λ k i. get_or-replicate n k 0 0 i ∙ sym (get_or_past m (a + k) 0 (omega (arith, sound.short))))

-- the same bytes hold the same value
pub value_same : (x y : List ℕ) (a c b : ℕ) → ((k : ℕ) → k < b → get_or x (a + k) 0 ≡ get_or y (c + k) 0) → value_at x a b ≡ value_at y c b
unfolding value_at
value_same x y a c zero same = refl
value_same x y a c (suc b) same =
    let p : a + 0 ≡ a = omega arith in
    let q : c + 0 ≡ c = omega arith in
    let here : get_or x a 0 ≡ get_or y c 0 = ap (λ i. get_or x i 0) (sym p) ∙ same 0 (omega arith) ∙ ap (λ i. get_or y i 0) q in
    let rest : value_at x (a + 1) b ≡ value_at y (c + 1) b =
    value_same x y (a + 1) (c + 1) b
    (λ k h.
    let s : a + 1 + k ≡ a + suc k = omega arith in
    let t : c + 1 + k ≡ c + suc k = omega arith in
    rw (s, t) (same (suc k) (omega arith))) in
    omega arith

-- a value within bytes that were read, whatever stands after them
pub value_loaded : (m x rest : List ℕ) (a n i b : ℕ) → x ≡ span m a n → i + b ≤ n → value_at (x ++ rest) i b ≡ value_at m (a + i) b
value_loaded m x rest a n i b is h =
    let long : length x ≡ n = ap length is ∙ length_span m a n in
    value_same (x ++ rest) m i (a + i) b
    (λ k l.
    let e : a + i + k ≡ a + (i + k) = omega arith in
    get_or_append_left x rest 0 (i + k) (omega arith) ∙ rw (is, e) (span_at m a n (i + k) (omega arith)))

-- a value that fits four bytes, in its bytes
pub value_four : (v : ℕ) → v < 2 ^ 32 → value_at (four_bytes v) 0 4 ≡ v
unfolding value_at
value_four v h = omega arith
