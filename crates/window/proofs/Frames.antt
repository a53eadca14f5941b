-- What a pixel that is stored leaves, and what it gives back.
use Rattle.std.proofs.Common.{◌≡◌, ℕ, zero, suc, ◌+◌, ◌*◌, ◌/◌, ◌%◌, ◌^◌, ◌<◌, ◌≤◌, ◌≢◌, List, length, get_or, set, sym, refl, ap, ◌∙◌, mod-eq_of_lt, mul-suc, arith, lit<, pow_pos, pow-add}
use lib.Arith.{mod-mul}
use Rattle.std.proofs.lemmas.List.{length-set, set_comm, set-set, set-get_or, get_or-set_same, get_or-set_other}
use Rattle.memory.specs.Bytes.{Sound}
use Rattle.memory.specs.View.{set_sound}
use Rattle.std.proofs.Math.Nat.{div-div-eq-div-mul}
use Rattle.window.specs.Values.{value_at, stored, LowByteFirst, ReplacedInside}
use Rattle.window.specs.Apart.{Off, Apart}

off_here : (a b x : ℕ) → Off a (suc b) x → x ≢ a
off_here a b x o e = o 0 (omega arith) (omega arith)

off_next : (a b x : ℕ) → Off a (suc b) x → Off (a + 1) b x
off_next a b x o i h e = o (suc i) (omega arith) (omega arith)

pub apart_here : (a b c d : ℕ) → Apart a (suc b) c d → Off c d a
apart_here a b c d o i h e = o 0 (omega arith) i h (omega arith)

pub apart_next : (a b c d : ℕ) → Apart a (suc b) c d → Apart (a + 1) b c d
apart_next a b c d o i h j k e = o (suc i) (omega arith) j k (omega arith)

self_off : (a b : ℕ) → Off (a + 1) b a
self_off a b i h e = omega arith

pub length_stored : (m : List ℕ) (a b v : ℕ) → length (stored m a b v) ≡ length m
unfolding stored
length_stored m a zero v = refl
length_stored m a (suc b) v = length_stored (set m a (v % 256)) (a + 1) b (v / 256) ∙ length-set m a (v % 256)

-- the frame: a byte outside the pixel stays
pub get_or_stored : (m : List ℕ) (a b v x : ℕ) → Off a b x → get_or (stored m a b v) x 0 ≡ get_or m x 0
unfolding stored
get_or_stored m a zero v x o = refl
get_or_stored m a (suc b) v x o =
    get_or_stored (set m a (v % 256)) (a + 1) b (v / 256) x (off_next a b x o) ∙ get_or-set_other m a x (v % 256) 0 (off_here a b x o)

pub set_stored : (m : List ℕ) (a b v x y : ℕ) → Off a b x → set (stored m a b v) x y ≡ stored (set m x y) a b v
unfolding stored
set_stored m a zero v x y o = refl
set_stored m a (suc b) v x y o =
    set_stored (set m a (v % 256)) (a + 1) b (v / 256) x y (off_next a b x o)
    ∙ ap (λ n. stored n (a + 1) b (v / 256)) (set_comm m a x (v % 256) y (λ e. off_here a b x o (sym e)))

-- the order of two pixels that lie apart does not matter
pub stored_comm : (m : List ℕ) (a b v c d w : ℕ) → Apart c d a b → stored (stored m a b v) c d w ≡ stored (stored m c d w) a b v
unfolding stored
stored_comm m a b v c zero w o = refl
stored_comm m a b v c (suc d) w o =
    ap (λ n. stored n (c + 1) d (w / 256)) (set_stored m a b v c (w % 256) (apart_here c d a b o))
    ∙ stored_comm (set m c (w % 256)) a b v (c + 1) d (w / 256) (apart_next c d a b o)

value_set : (m : List ℕ) (x y a b : ℕ) → Off a b x → value_at (set m x y) a b ≡ value_at m a b
unfolding value_at
value_set m x y a zero o = refl
value_set m x y a (suc b) o =
    let here = get_or-set_other m x a y 0 (λ e. off_here a b x o (sym e)) in
    let rest = value_set m x y (a + 1) b (off_next a b x o) in
    omega arith

-- a value that lies apart from the pixel stays
pub value_stored : (m : List ℕ) (a b v c d : ℕ) → Apart a b c d → value_at (stored m a b v) c d ≡ value_at m c d
unfolding stored
value_stored m a zero v c d o = refl
value_stored m a (suc b) v c d o =
    value_stored (set m a (v % 256)) (a + 1) b (v / 256) c d (apart_next a b c d o) ∙ value_set m a (v % 256) c d (apart_here a b c d o)

-- what was stored is read back, as far as its bytes hold it
pub value_back_low : (m : List ℕ) (a b v : ℕ) → a + b ≤ length m → value_at (stored m a b v) a b ≡ v % 2 ^ (8 * b)
unfolding stored value_at
value_back_low m a zero v h = omega arith
value_back_low m a (suc b) v h =
    let m' = set m a (v % 256) in
    let here = get_or_stored m' (a + 1) b (v / 256) a (self_off a b) ∙ get_or-set_same m a (v % 256) 0 (omega arith) in
    let rest = value_back_low m' (a + 1) b (v / 256) (omega (arith, length-set m a (v % 256))) in
    rw (mul-suc 8 b, pow-add 2 (8 * b) 8) (omega (arith, mod-mul v {m = 2 ^ (8 * b)} {c = 256} (pow_pos (8 * b)) (lit< tt)))

pub value_back : (m : List ℕ) (a b v : ℕ) → a + b ≤ length m → v < 2 ^ (8 * b) → value_at (stored m a b v) a b ≡ v
value_back m a b v h k = value_back_low m a b v h ∙ mod-eq_of_lt k

pub stored_twice : (m : List ℕ) (a b v w : ℕ) → stored (stored m a b v) a b w ≡ stored m a b w
unfolding stored
stored_twice m a zero v w = refl
stored_twice m a (suc b) v w =
    ap (λ n. stored n (a + 1) b (w / 256))
    (set_stored (set m a (v % 256)) (a + 1) b (v / 256) a (w % 256) (self_off a b) ∙ ap (λ n. stored n (a + 1) b (v / 256)) (set-set m a (v % 256) (w % 256)))
    ∙ stored_twice (set m a (w % 256)) (a + 1) b (v / 256) (w / 256)

pub stored_same : (m : List ℕ) → Sound m → (a b : ℕ) → stored m a b (value_at m a b) ≡ m
unfolding stored value_at
stored_same m s a zero = refl
stored_same m s a (suc b) =
    let g = s.bytes a in
    let r = value_at m (a + 1) b in
    let low : (get_or m a 0 + 256 * r) % 256 ≡ get_or m a 0 = omega arith in
    let high : (get_or m a 0 + 256 * r) / 256 ≡ r = omega arith in
    let same : set m a ((get_or m a 0 + 256 * r) % 256) ≡ m = ap (set m a) low ∙ set-get_or m a 0 in
    ap (λ n. stored n (a + 1) b ((get_or m a 0 + 256 * r) / 256)) same ∙ ap (stored m (a + 1) b) high ∙ stored_same m s (a + 1) b

pub sound_stored : (m : List ℕ) → Sound m → (a b v : ℕ) → Sound (stored m a b v)
unfolding stored
sound_stored m s a zero v = s
sound_stored m s a (suc b) v = sound_stored (set m a (v % 256)) (set_sound m s a (v % 256) (omega arith)) (a + 1) b (v / 256)

-- the bytes of a value that is stored
stored_byte : (m : List ℕ) (a b v i : ℕ) → a + b ≤ length m → i < b → get_or (stored m a b v) (a + i) 0 ≡ v / 256 ^ i % 256
unfolding stored
stored_byte m a zero v i h k = absurd (omega arith)
stored_byte m a (suc b) v zero h k =
    let n = set m a (v % 256) in
    let e : a + 0 ≡ a = omega arith in
    rw e (get_or_stored n (a + 1) b (v / 256) a (self_off a b) ∙ get_or-set_same m a (v % 256) 0 (omega arith) ∙ omega arith)
stored_byte m a (suc b) v (suc i) h k =
    let n = set m a (v % 256) in
    let e : a + suc i ≡ a + 1 + i = omega arith in
    let f : 1 + i ≡ suc i = omega arith in
    rw e
    (stored_byte n (a + 1) b (v / 256) i (omega (arith, length-set m a (v % 256))) (omega arith)
    ∙ ap (λ x. x % 256) (div-div-eq-div-mul v 256 (256 ^ i) ∙ ap (λ x. v / x) (sym (pow-add 256 1 i) ∙ ap (λ x. 256 ^ x) f)))

pub replaced_inside : (a b v : ℕ) (m : List ℕ) → ReplacedInside a b v m (stored m a b v)
replaced_inside a b v m h = record { size = length_stored m a b v; bytes = λ i l. stored_byte m a b v i h l; rest = get_or_stored m a b v }

-- the bytes above the lowest
byte_above : (x y i : ℕ) → x < 256 → (x + 256 * y) / 256 ^ suc i % 256 ≡ y / 256 ^ i % 256
byte_above x y i h =
    let f : 1 + i ≡ suc i = omega arith in
    let upper : (x + 256 * y) / 256 ≡ y = omega arith in
    ap (λ n. (x + 256 * y) / 256 ^ n % 256) (sym f)
    ∙ ap (λ n. (x + 256 * y) / n % 256) (pow-add 256 1 i)
    ∙ ap (λ n. n % 256) (sym (div-div-eq-div-mul (x + 256 * y) 256 (256 ^ i)))
    ∙ ap (λ n. n / 256 ^ i % 256) upper

each_byte : (m : List ℕ) → Sound m → (a b : ℕ) → LowByteFirst m (a + 1) b (value_at m (a + 1) b) → (i : ℕ) → i < suc b
    → (get_or m a 0 + 256 * value_at m (a + 1) b) / 256 ^ i % 256 ≡ get_or m (a + i) 0
each_byte m s a b rest zero h = let e : a + 0 ≡ a = omega arith in rw e (omega (arith, s.bytes a))
each_byte m s a b rest (suc i) h =
    let e : a + suc i ≡ a + 1 + i = omega arith in
    rw e (byte_above (get_or m a 0) (value_at m (a + 1) b) i (s.bytes a) ∙ rest.bytes i (omega arith))

-- the bytes of a value that is read
pub low_byte_first : (m : List ℕ) → Sound m → (a b : ℕ) → LowByteFirst m a b (value_at m a b)
unfolding value_at
low_byte_first m s a zero = record { bytes = λ i h. absurd (omega arith); few = lit< tt }
low_byte_first m s a (suc b) =
    let rest = low_byte_first m s (a + 1) b in
    let one : 1 + b ≡ suc b = omega arith in
    record { bytes = each_byte m s a b rest; few = omega (arith, s.bytes a, rest.few, pow-add 256 1 b, ap (λ x. 256 ^ x) one) }
