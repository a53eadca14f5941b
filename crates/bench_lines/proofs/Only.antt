-- A line that is a command is the spelling of that command.
use Rattle.std.proofs.Common.{◌≡◌, ℕ, Bool, zero, suc, ◌+◌, ◌-◌, ◌*◌, ◌/◌, ◌%◌, ◌<◌, ◌≤◌, true, cond, ◌&&◌, eqb, leb, ◌⊎◌, List, [], ◌∷◌, length, get_or, drop, Some, None, Option, sym, refl, ap, ◌∙◌, subst, inl, inr, ⊎_elim, arith}
use Rattle.std.specs.List.{flat_map, AllByRecursion}
use Rattle.std.proofs.lemmas.Bool.{eqb-true, and_parts, cases_Bool, cond-true, cond-false}
use Rattle.std.proofs.lemmas.Bool.Decides.{nat_tests}
use Rattle.std.proofs.lemmas.List.{drop_more, drop_all}
use Rattle.std.proofs.lemmas.Option.{none-some}
use Rattle.panel_calls.specs.Calls.{Call, write, read, burst, run, stop, status, memory}
use Rattle.bench_lines.specs.Digits.{both_of, byte_at, spaced}
use Rattle.bench_lines.specs.Answers.{hex_byte}
use Rattle.bench_lines.specs.Commands.{command_of, as_burst, write_line, read_register, run_line, memory_line, burst_line, alone, with_first, bytes_at}
use Rattle.bench_lines.specs.Spelling.{spelled, Sayable}
use Rattle.bench_lines.proofs.Fields.{cond_some, both_some, space_spelled, byte_spelled, count_bytes, address_bytes}

-- a line is a call's spelling, and the call can be written
abbrev pub Spells : List ℕ → Call → Type 0
Spells l c = (l ≡ spelled c) × Sayable c

-- the length and the spaces of a line that is a command, and what its fields give
shaped : (l : List ℕ) (n : ℕ) (s : Bool) (o : Option Call) (c : Call) → cond (eqb (length l) n && s) o None ≡ Some c → (length l ≡ n) × (s ≡ true) × (o ≡ Some c)
shaped l n s o c e =
    let p = cond_some (eqb (length l) n && s) o c e in
    (grind (arith, nat_tests), grind (arith, nat_tests), p.1)

letter : (l : List ℕ) (x : ℕ) → 0 < length l → get_or l 0 0 ≡ x → l ≡ x ∷ drop 1 l
letter l x h e = drop_more l 0 0 h ∙ ap (λ y. y ∷ drop 1 l) e

write_only : (l : List ℕ) (c : Call) → get_or l 0 0 ≡ 87 → write_line l ≡ Some c → Spells l c
write_only l c w e =
    let p = shaped l 7 (spaced l 1 && spaced l 4) (both_of write (byte_at l 2) (byte_at l 5)) c e in
    let s = and_parts (spaced l 1) (spaced l 4) p.1 in
    let q = both_some write (byte_at l 2) (byte_at l 5) c p.2 in
    let x = byte_spelled l 2 q.0 (omega arith) q.2 in
    let y = byte_spelled l 5 q.1 (omega arith) q.3 in
    let first = letter l 87 (omega arith) w in
    let gap = space_spelled l 1 (omega arith) s.0 in
    let between = space_spelled l 4 (omega arith) s.1 in
    let end = drop_all 7 l (omega arith) in
    let whole : l ≡ spelled (write q.0 q.1) = cc in
    subst (Spells l) q.4 (whole, (x.1, y.1))

read_only : (l : List ℕ) (c : Call) → get_or l 0 0 ≡ 82 → read_register l ≡ Some c → Spells l c
read_only l c w e =
    let p = shaped l 4 (spaced l 1) (both_of (λ r _. read r) (byte_at l 2) (Some 0)) c e in
    let q = both_some (λ r _. read r) (byte_at l 2) (Some 0) c p.2 in
    let x = byte_spelled l 2 q.0 (omega arith) q.2 in
    let first = letter l 82 (omega arith) w in
    let gap = space_spelled l 1 (omega arith) p.1 in
    let end = drop_all 4 l (omega arith) in
    let whole : l ≡ spelled (read q.0) = cc in
    subst (Spells l) q.4 (whole, x.1)

alone_only : (l : List ℕ) (c d : Call) (x : ℕ) → get_or l 0 0 ≡ x → alone l d ≡ Some c → spelled d ≡ x ∷ [] → Sayable d → Spells l c
alone_only l c d x w e s k =
    let p = cond_some (eqb (length l) 1) (Some d) c e in
    let n = eqb-true (length l) 1 p.0 in
    let first = letter l x (omega arith) w in
    let end = drop_all 1 l (omega arith) in
    let whole : l ≡ spelled d = cc in
    let same : d ≡ c = cc in
    subst (Spells l) same (whole, k)

run_only : (l : List ℕ) (c : Call) → get_or l 0 0 ≡ 71 → run_line l ≡ Some c → Spells l c
run_only l c w e =
    let p = shaped l 6 (spaced l 1) (both_of (λ h d. run (h * 256 + d)) (byte_at l 2) (byte_at l 4)) c e in
    let q = both_some (λ h d. run (h * 256 + d)) (byte_at l 2) (byte_at l 4) c p.2 in
    let x = byte_spelled l 2 q.0 (omega arith) q.2 in
    let y = byte_spelled l 4 q.1 (omega arith) q.3 in
    let first = letter l 71 (omega arith) w in
    let gap = space_spelled l 1 (omega arith) p.1 in
    let end = drop_all 6 l (omega arith) in
    let digits = count_bytes q.0 q.1 x.1 y.1 in
    let whole : l ≡ spelled (run (q.0 * 256 + q.1)) = cc in
    subst (Spells l) q.4 (whole, omega arith)

memory_only : (l : List ℕ) (c : Call) → get_or l 0 0 ≡ 77 → memory_line l ≡ Some c → Spells l c
memory_only l c w e =
    let both = both_of (λ h d. h * 256 + d) (byte_at l 2) (byte_at l 4) in
    let p = shaped l 8 (spaced l 1) (both_of (λ h d. memory (h * 256 + d)) both (byte_at l 6)) c e in
    let q = both_some (λ h d. memory (h * 256 + d)) both (byte_at l 6) c p.2 in
    let m = both_some (λ h d. h * 256 + d) (byte_at l 2) (byte_at l 4) q.0 q.2 in
    let x = byte_spelled l 2 m.0 (omega arith) m.2 in
    let y = byte_spelled l 4 m.1 (omega arith) m.3 in
    let z = byte_spelled l 6 q.1 (omega arith) q.3 in
    let first = letter l 77 (omega arith) w in
    let gap = space_spelled l 1 (omega arith) p.1 in
    let end = drop_all 8 l (omega arith) in
    let digits = address_bytes m.0 m.1 q.1 x.1 y.1 z.1 in
    let whole : l ≡ spelled (memory ((m.0 * 256 + m.1) * 256 + q.1)) = cc in
    let is : memory ((m.0 * 256 + m.1) * 256 + q.1) ≡ c = ap (λ h. memory (h * 256 + q.1)) m.4 ∙ q.4 in
    subst (Spells l) is (whole, omega arith)

first_some : (x : Option ℕ) (o : Option (List ℕ)) (bs : List ℕ) → with_first x o ≡ Some bs
    → (b : ℕ) × (rest : List ℕ) × (x ≡ Some b) × (o ≡ Some rest) × (b ∷ rest ≡ bs)
first_some None o bs e = absurd (none-some bs e)
first_some (Some b) None bs e = absurd (none-some bs e)
first_some (Some b) (Some rest) bs e = (b, rest, refl, refl, cc)

burst_some : (o : Option (List ℕ)) (c : Call) → as_burst o ≡ Some c → (bs : List ℕ) × (o ≡ Some bs) × (burst bs ≡ c)
burst_some None c e = absurd (none-some c e)
burst_some (Some bs) c e = (bs, refl, cc)

-- the digits from a place on, n bytes of them, spell the bytes that were read there
abbrev DigitsOf : List ℕ → ℕ → ℕ → List ℕ → Type 0
DigitsOf l k n bs = (drop k l ≡ flat_map hex_byte bs) × (length bs ≡ n) × AllByRecursion (λ b. b < 256) bs

bytes_only : (l : List ℕ) (k n : ℕ) (bs : List ℕ) → k + 2 * n ≡ length l → bytes_at l k n ≡ Some bs → DigitsOf l k n bs
bytes_only l k zero bs h e =
    let none : [] ≡ bs = cc in
    subst (DigitsOf l k 0) none (drop_all k l (omega arith), refl, tt)
bytes_only l k (suc n) bs h e =
    let p = first_some (byte_at l k) (bytes_at l (k + 2) n) bs e in
    let x = byte_spelled l k p.0 (omega arith) p.2 in
    let rest = bytes_only l (k + 2) n p.1 (omega arith) p.3 in
    let whole : drop k l ≡ flat_map hex_byte (p.0 ∷ p.1) = cc in
    subst (DigitsOf l k (suc n)) p.4 (whole, ap suc rest.1, (x.1, rest.2))

burst_only : (l : List ℕ) (c : Call) → get_or l 0 0 ≡ 66 → burst_line l ≡ Some c → Spells l c
burst_only l c w e =
    let n = (length l - 2) / 2 in
    let p = cond_some (leb 4 (length l) && (leb (length l) 66 && (eqb (length l % 2) 0 && spaced l 1))) (as_burst (bytes_at l 2 n)) c e in
    let least : 4 ≤ length l = grind (arith, nat_tests) in
    let most : length l ≤ 66 = grind (arith, nat_tests) in
    let even : length l % 2 ≡ 0 = grind (arith, nat_tests) in
    let s : spaced l 1 ≡ true = grind (arith, nat_tests) in
    let q = burst_some (bytes_at l 2 n) c p.1 in
    let d = bytes_only l 2 n q.0 (omega arith) q.1 in
    let first = letter l 66 (omega arith) w in
    let gap = space_spelled l 1 (omega arith) s in
    let whole : l ≡ spelled (burst q.0) = cc in
    subst (Spells l) q.2 (whole, (omega arith, omega arith, d.2))

-- where a letter is tested, either it is there or the next tests choose
choice : (x y : ℕ) (o u : Option Call) (c : Call) → cond (eqb x y) o u ≡ Some c → ((x ≡ y) × (o ≡ Some c)) ⊎ (u ≡ Some c)
choice x y o u c e = ⊎_elim (λ t. inl (eqb-true x y t, sym (cond-true (eqb x y) o u t) ∙ e)) (λ t. inr (sym (cond-false (eqb x y) o u t) ∙ e)) (cases_Bool (eqb x y))

pub spelled_only : (l : List ℕ) (c : Call) → command_of l ≡ Some c → Spells l c
spelled_only l c e₀ =
    let x = get_or l 0 0 in
    ⊎_elim (λ p. write_only l c p.0 p.1) (λ e₁.
    ⊎_elim (λ p. read_only l c p.0 p.1) (λ e₂.
    ⊎_elim (λ p. burst_only l c p.0 p.1) (λ e₃.
    ⊎_elim (λ p. run_only l c p.0 p.1) (λ e₄.
    ⊎_elim (λ p. alone_only l c stop 88 p.0 p.1 refl tt) (λ e₅.
    ⊎_elim (λ p. alone_only l c status 83 p.0 p.1 refl tt) (λ e₆.
    ⊎_elim (λ p. memory_only l c p.0 p.1) (λ e₇. absurd (none-some c e₇))
    (choice x 77 _ _ c e₆)) (choice x 83 _ _ c e₅)) (choice x 88 _ _ c e₄)) (choice x 71 _ _ c e₃))
    (choice x 66 _ _ c e₂)) (choice x 82 _ _ c e₁)) (choice x 87 _ _ c e₀)
