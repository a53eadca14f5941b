-- What a field's digits are, where it was read, and that digits read back.
use Rattle.std.proofs.Common.{◌≡◌, ℕ, ◌+◌, ◌*◌, ◌/◌, ◌%◌, ◌<◌, ◌≤◌, Bool, true, false, cond, List, ◌∷◌, ◌++◌, length, get_or, drop, Some, None, Option, refl, ap, ◌∙◌, arith}
use Rattle.std.proofs.lemmas.Bool.{eqb-true}
use Rattle.std.proofs.lemmas.Bool.Decides.{nat_tests}
use Rattle.std.proofs.lemmas.List.{drop_more}
use Rattle.std.proofs.lemmas.Option.{none-some}
use Rattle.bench_lines.specs.Digits.{digit_value, both_of, byte_at, spaced}
use Rattle.bench_lines.specs.Answers.{digit, hex_byte, hex_count}
use Rattle.bench_lines.specs.Spelling.{hex_address}

pub cond_some : {A : Type 0} (t : Bool) (o : Option A) (x : A) → cond t o None ≡ Some x → (t ≡ true) × (o ≡ Some x)
cond_some true o x e = (refl, e)
cond_some false o x e = absurd (none-some x e)

pub both_some : {A : Type 0} (f : ℕ → ℕ → A) (x y : Option ℕ) (r : A) → both_of f x y ≡ Some r
    → (a : ℕ) × (b : ℕ) × (x ≡ Some a) × (y ≡ Some b) × (f a b ≡ r)
both_some f None y r e = absurd (none-some r e)
both_some f (Some a) None r e = absurd (none-some r e)
both_some f (Some a) (Some b) r e = (a, b, refl, refl, cc)

digit_spelled : (c v : ℕ) → digit_value c ≡ Some v → (c ≡ digit v) × (v < 16)
digit_spelled c v e = (grind (arith, nat_tests), grind (arith, nat_tests))

digit_reads : (v : ℕ) → v < 16 → digit_value (digit v) ≡ Some v
digit_reads v h = grind (arith, nat_tests)

pub space_spelled : (l : List ℕ) (k : ℕ) → k < length l → spaced l k ≡ true → drop k l ≡ 32 ∷ drop (k + 1) l
space_spelled l k h e = let s = eqb-true (get_or l k 0) 32 e in cc (drop_more l k 0 h)

pub byte_spelled : (l : List ℕ) (k b : ℕ) → k + 2 ≤ length l → byte_at l k ≡ Some b → (drop k l ≡ hex_byte b ++ drop (k + 2) l) × (b < 256)
byte_spelled l k b h e =
    let p = both_some (λ h d. h * 16 + d) (digit_value (get_or l k 0)) (digit_value (get_or l (k + 1) 0)) b e in
    let x = digit_spelled (get_or l k 0) p.0 p.2 in
    let y = digit_spelled (get_or l (k + 1) 0) p.1 p.3 in
    let first = drop_more l k 0 (omega arith) in
    let second = drop_more l (k + 1) 0 (omega arith) in
    (grind arith, omega arith)

pub byte_reads : (l : List ℕ) (k b : ℕ) → b < 256 → get_or l k 0 ≡ digit (b / 16 % 16) → get_or l (k + 1) 0 ≡ digit (b % 16) → byte_at l k ≡ Some b
byte_reads l k b h x y =
    let p = ap digit_value x ∙ digit_reads (b / 16 % 16) (omega arith) in
    let q = ap digit_value y ∙ digit_reads (b % 16) (omega arith) in
    grind arith

-- four digits are two bytes, six are three
pub count_bytes : (h d : ℕ) → h < 256 → d < 256 → hex_count (h * 256 + d) ≡ hex_byte h ++ hex_byte d
count_bytes h d p q = grind arith

pub address_bytes : (h m d : ℕ) → h < 256 → m < 256 → d < 256 → hex_address ((h * 256 + m) * 256 + d) ≡ hex_byte h ++ hex_byte m ++ hex_byte d
address_bytes h m d p q r = grind arith
