-- Pixel values in memory.
use Rattle.std.proofs.Common.{◌≡◌, ℕ, zero, suc, ◌+◌, ◌-◌, ◌*◌, ◌/◌, ◌%◌, ◌^◌, ◌<◌, ◌≤◌, List, [], ◌∷◌, length, take, get_or, set, refl, sym, ap, ◌∙◌, mul-suc, add-one, arith, lit<, lit≤, pow-add, drop, ◌++◌}
use Rattle.std.proofs.Math.Nat.{div-div-eq-div-mul}
use Rattle.std.proofs.lemmas.List.{get_or-take, length-take}
use Rattle.std.specs.Int.{w32, from_le_bytes}
use Rattle.memory.specs.Bytes.{Sound}
use Rattle.window.specs.Values.{value_at, stored}

pub value_more : (m : List ℕ) (a b : ℕ) → value_at m a (b + 1) ≡ get_or m a 0 + 256 * value_at m (a + 1) b
unfolding value_at
value_more m a b = rw (add-one b)

pub value_lt : (m : List ℕ) → Sound m → (a b : ℕ) → value_at m a b < 2 ^ (8 * b)
unfolding value_at
value_lt m s a zero = lit< tt
value_lt m s a (suc b) = rw (mul-suc 8 b, pow-add 2 (8 * b) 8) (omega (arith, s.bytes a, value_lt m s (a + 1) b))

small : (b : ℕ) → b ≤ 3 → 2 ^ (8 * b) ≤ 16777216
small zero h = lit≤ tt
small (suc zero) h = lit≤ tt
small (suc (suc zero)) h = lit≤ tt
small (suc (suc (suc zero))) h = lit≤ tt
small (suc (suc (suc (suc b)))) h = omega arith

-- a value of at most three bytes
pub value_small : (m : List ℕ) → Sound m → (a b : ℕ) → b ≤ 3 → value_at m a b < 16777216
value_small m s a b h = omega (arith, value_lt m s a b, small b h)

pub value_none : (m : List ℕ) (a : ℕ) → 0 ≡ value_at m a 0
unfolding value_at
value_none m a = refl

pub value_again : (m : List ℕ) (a w i v x : ℕ) → i < w → v ≡ value_at m (a + (w - i)) i → x ≡ get_or m (a + (w - 1 - i)) 0 → v * 256 + x ≡ value_at m (a + (w - (i + 1))) (i + 1)
value_again m a w i v x h e f =
    let p : a + (w - 1 - i) ≡ a + (w - (i + 1)) = omega arith in
    let q : a + (w - i) ≡ a + (w - (i + 1)) + 1 = omega arith in
    let more = value_more m (a + (w - (i + 1))) i in
    let e' = e ∙ ap (λ n. value_at m n i) q in
    let f' = f ∙ ap (λ n. get_or m n 0) p in
    omega arith

abbrev pub four_zeros : List ℕ
four_zeros = 0 ∷ 0 ∷ 0 ∷ 0 ∷ []

-- the value whose bytes are the first of four, the others being 0
pub value_of_bytes : (m bs : List ℕ) (a b v : ℕ) → b ≤ 4 → length bs ≡ length (take b four_zeros) → v ≡ from_le_bytes w32 (bs ++ drop b four_zeros)
    → ((k : ℕ) → k < length (take b four_zeros) → get_or bs k 0 ≡ get_or m (a + k) 0) → v ≡ value_at m a b
unfolding value_at
value_of_bytes m [] a zero v h n is e = is
value_of_bytes m (u ∷ []) a (suc zero) v h n is e = grind (arith, e 0)
value_of_bytes m (u ∷ v ∷ []) a (suc (suc zero)) t h n is e = grind (arith, e 0, e 1)
value_of_bytes m (u ∷ v ∷ w ∷ []) a (suc (suc (suc zero))) t h n is e = grind (arith, e 0, e 1, e 2)
value_of_bytes m (u ∷ v ∷ w ∷ x ∷ []) a (suc (suc (suc (suc zero)))) t h n is e = grind (arith, e 0, e 1, e 2, e 3)
value_of_bytes m bs a b v h n is e = absurd (omega (arith, length-take b four_zeros))

pub stored_more : (m : List ℕ) (a b v : ℕ) → stored m a (b + 1) v ≡ stored (set m a (v % 256)) (a + 1) b (v / 256)
unfolding stored
stored_more m a b v = rw (add-one b)

pub stored_again : (m n : List ℕ) (a w i v : ℕ) → i < w → n ≡ set m (a + i) (v % 256) → stored n (a + (i + 1)) (w - (i + 1)) (v / 256) ≡ stored m (a + i) (w - i) v
stored_again m n a w i v h e =
    let q : w - i ≡ (w - (i + 1)) + 1 = omega arith in
    let p : a + (i + 1) ≡ a + i + 1 = omega arith in
    rw (e, p, q, stored_more m (a + i) (w - (i + 1)) v)

-- the four bytes of a number, low byte first
abbrev pub four_bytes : ℕ → List ℕ
four_bytes v = v % 256 ∷ v / 256 % 256 ∷ v / 65536 % 256 ∷ v / 16777216 % 256 ∷ []

byte_of : (v i : ℕ) → i < 4 → get_or (four_bytes v) i 0 ≡ v / 256 ^ i % 256
byte_of v zero h = omega arith
byte_of v (suc zero) h = refl
byte_of v (suc (suc zero)) h = refl
byte_of v (suc (suc (suc zero))) h = refl
byte_of v (suc (suc (suc (suc i)))) h = omega arith

-- the next byte of a value that is stored
pub stored_next : (m n bs : List ℕ) (a w v i : ℕ) → w ≤ 4 → bs ≡ four_bytes v → i < length (take w bs) → n ≡ set m (a + i) (get_or (take w bs) i 0)
    → stored n (a + (i + 1)) (w - (i + 1)) (v / 256 ^ (i + 1)) ≡ stored m (a + i) (w - i) (v / 256 ^ i)
stored_next m n bs a w v i few is h e =
    let l = length-take w bs in
    let byte : get_or (take w bs) i 0 ≡ v / 256 ^ i % 256 = get_or-take w bs i 0 (omega arith) ∙ rw is (byte_of v i (omega arith)) in
    let next : v / 256 ^ (i + 1) ≡ v / 256 ^ i / 256 = rw (pow-add 256 i 1) (sym (div-div-eq-div-mul v (256 ^ i) 256)) in
    rw next (stored_again m n a w i (v / 256 ^ i) (omega arith) (rw byte at e))
