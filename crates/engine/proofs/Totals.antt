-- How many bytes a host operation takes.
use Rattle.std.proofs.Common.{◌≡◌, ℕ, ◌+◌, ◌-◌, ◌*◌, ◌/◌, ◌<◌, ◌≤◌, min, true, false, ltb, List, [], ◌∷◌, ◌++◌, length, refl, sym, ap, ◌∙◌, subst, ⊎_elim, length-append, mul_comm, arith}
use Rattle.std.proofs.lemmas.Bool.{cases_lt, lt-ltb, le-ltb}
use Rattle.std.proofs.lemmas.Bool.Decides.{nat_tests}
use Rattle.std.proofs.lemmas.Nat.{mul-le, div_below, div-add-mod'}
use Rattle.std.proofs.lemmas.List.Sums.{sum_by-cons}
use Rattle.std.specs.List.{flat_map}
use Rattle.feeding.proofs.Feeding.{fed_ended, taken_ended, in_parts}
use Rattle.colour.specs.declared.Palette.{Palette}
use Rattle.window.specs.declared.area.Area.{Area}
use Rattle.window.specs.Places.{pixels}
use Rattle.source.specs.Rows.{Rows, row_units, unit_of, unit_pixels}
use Rattle.source.specs.Pictures.{Away}
use Rattle.source.specs.Origins.{Origin, unused, host, host_bits, image, pattern, bits, awaited, served}
use Rattle.source.proofs.Pictures.{unit_at, next_unit}
use Rattle.source.proofs.Reaches.{unit_inside}
use Rattle.source.proofs.Meanings.{Proper}
use Rattle.engine.specs.Painted.{Op}
use Rattle.engine.specs.Fed.{Stage, takes_at, byte_come, fed, bytes_taken}
use Rattle.source.specs.Shapes.{AsWide}
use Rattle.engine.specs.Totals.{bytes_for, at_start, burst_fed, burst_taken, bytes_in, FedFromStart, TakesInAll}

-- the bytes that came before those of pixel k
abbrev pub before : Origin → ℕ → ℕ
before unused k = 0
before (host b) k = k * b
before (host_bits r) k = unit_of r k * (r.unit / 8)
before (image _ _) k = 0
before (pattern _ _ _) k = 0
before (bits _ _) k = 0

pub record Steps (f : Origin) (t : Area) : Type 0 where
  pub none : before f 0 ≡ 0
  pub all : before f (pixels t) ≡ bytes_for f t
  pub next : (k : ℕ) → k < pixels t → before f (k + min (served f k) (pixels t - k)) ≡ before f k + awaited f
  pub room : (k : ℕ) → k < pixels t → before f k + awaited f ≤ bytes_for f t

module _ (r : Rows) (t : Area) (some : 1 ≤ r.unit) (across : 1 ≤ r.columns) (wide : r.columns ≡ t.width) where
  all_pixels : pixels t ≡ t.height * r.columns
  all_pixels = ap (λ w. w * t.height) (sym wide) ∙ mul_comm r.columns t.height

  at_top : Away r 0 0 (r.unit - 1 - r.start)
  at_top = record { in_row = across; bits = omega arith; is = omega arith }

  bit_steps : Steps (host_bits r) t
  bit_steps = record {
    none = ap (λ n. n * (r.unit / 8)) (unit_at r some across 0 0 0 _ 0 at_top (omega arith)) ∙ omega arith;
    all = ap (λ n. n * (r.unit / 8)) (unit_at r some across 0 t.height 0 _ (pixels t) at_top (omega (arith, all_pixels)) ∙ omega arith);
    next = λ k h.
        let row = div_below k r.columns t.height across (omega (arith, all_pixels)) in
        let rows = mul-le (k / r.columns + 1) r.columns t.height r.columns (omega arith) (omega arith) in
        let here = div-add-mod' k r.columns in
        let fits : min (unit_pixels r k) (pixels t - k) ≡ unit_pixels r k = omega (arith, all_pixels) in
        ap (λ n. unit_of r (k + n) * (r.unit / 8)) fits ∙ ap (λ n. n * (r.unit / 8)) (next_unit r some across k) ∙ omega arith;
    room = λ k h.
        let i = unit_inside r some across t.height k (omega (arith, all_pixels, mul_comm r.columns t.height)) in
        let m = mul-le (unit_of r k + 1) (r.unit / 8) (t.height * row_units r) (r.unit / 8) (omega (arith, mul_comm (row_units r) t.height)) (omega arith) in
        omega arith;
  }

pub steps : (f : Origin) (t : Area) → 0 < awaited f → Proper f → AsWide f t.width → Steps f t
steps unused t some p wide = absurd (omega arith)
steps (host b) t some p wide = record {
  none = omega arith;
  all = refl;
  next = λ k h. let e : min 1 (pixels t - k) ≡ 1 = omega arith in ap (λ n. (k + n) * b) e ∙ omega arith;
  room = λ k h. let m = mul-le (k + 1) b (pixels t) b (omega arith) (omega arith) in omega arith;
}
steps (host_bits r) t some p wide = bit_steps r t p.0 p.1 wide
steps (image _ _) t some p wide = absurd (omega arith)
steps (pattern _ _ _) t some p wide = absurd (omega arith)
steps (bits _ _) t some p wide = absurd (omega arith)

-- an operation of which n bytes have come
pub record Come (o : Op) (s : Stage) (n : ℕ) : Type 0 where
  pub is : n ≡ before o.first s.drawn + length s.waiting
  pub few : length s.waiting < awaited o.first
  pub inside : s.drawn ≤ pixels o.target
  pub ended : s.drawn ≡ pixels o.target → length s.waiting ≡ 0

-- and what xs do to it
pub record Rest (o : Op) (p : Palette) (s : Stage) (n : ℕ) (xs : List ℕ) : Type 0 where
  pub taken : bytes_taken o p s xs ≡ min (length xs) (bytes_for o.first o.target - n)
  pub complete : bytes_for o.first o.target ≤ n + length xs → (fed o p s xs).drawn ≡ pixels o.target
  pub not_before : n + length xs < bytes_for o.first o.target → (fed o p s xs).drawn < pixels o.target

module _ (o : Op) (p : Palette) (some : 0 < awaited o.first) (t : Steps o.first o.target) where
  one_come : (s : Stage) (n x : ℕ) → Come o s n → s.drawn < pixels o.target → Come o (byte_come o p s x) (n + 1)
  one_come s n x c h =
      let ws = s.waiting ++ x ∷ [] in
      let long = length-append s.waiting (x ∷ []) in
      ⊎_elim
      (λ (l : length ws < awaited o.first).
      let e : ltb (length ws) (awaited o.first) ≡ true = lt-ltb _ _ l in
      rw e (record { is = omega (arith, c.is); few = l; inside = c.inside; ended = λ z. absurd (omega arith) }))
      (λ (l : awaited o.first ≤ length ws).
      let e : ltb (length ws) (awaited o.first) ≡ false = le-ltb _ _ l in
      rw e (record { is = omega (arith, c.is, c.few, t.next s.drawn h); few = some; inside = omega arith; ended = λ z. refl }))
      (cases_lt (length ws) (awaited o.first))

  -- the bytes that come count on
  pub come_after : (xs : List ℕ) (s : Stage) (n : ℕ) → Come o s n → Come o (fed o p s xs) (n + bytes_taken o p s xs)
  come_after [] s n c = subst (Come o s) (omega arith) c
  come_after (x ∷ xs) s n c =
      ⊎_elim
      (λ (h : s.drawn < pixels o.target).
      let e : takes_at o s ≡ true = grind (arith, nat_tests) in
      let u = byte_come o p s x in
      rw e (subst (Come o (fed o p u xs)) (omega arith) (come_after xs u (n + 1) (one_come s n x c h))))
      (λ (h : pixels o.target ≤ s.drawn).
      let e : takes_at o s ≡ false = grind (arith, nat_tests) in
      rw (taken_ended (takes_at o) (byte_come o p) s (x ∷ xs) e, fed_ended (takes_at o) (byte_come o p) s (x ∷ xs) e)
      (subst (Come o s) (omega arith) c))
      (cases_lt s.drawn (pixels o.target))

  pub rest : (xs : List ℕ) (s : Stage) (n : ℕ) → Come o s n → Rest o p s n xs
  rest [] s n c = record {
    taken = omega arith;
    complete = λ z.
        ⊎_elim
        (λ (h : s.drawn < pixels o.target). absurd (omega (arith, z, c.is, c.few, t.room s.drawn h)))
        (λ (h : pixels o.target ≤ s.drawn). omega (arith, c.inside))
        (cases_lt s.drawn (pixels o.target));
    not_before = λ z.
        ⊎_elim
        (λ (h : s.drawn < pixels o.target). h)
        (λ (h : pixels o.target ≤ s.drawn).
        let all : s.drawn ≡ pixels o.target = omega (arith, c.inside) in
        absurd (omega (arith, z, c.is, c.ended all, t.all, ap (before o.first) all)))
        (cases_lt s.drawn (pixels o.target));
  }
  rest (x ∷ xs) s n c =
      ⊎_elim
      (λ (h : s.drawn < pixels o.target).
      let e : takes_at o s ≡ true = grind (arith, nat_tests) in
      let room = t.room s.drawn h in
      let more = rest xs (byte_come o p s x) (n + 1) (one_come s n x c h) in
      let count : bytes_taken o p s (x ∷ xs) ≡ 1 + bytes_taken o p (byte_come o p s x) xs = rw e refl in
      let after : fed o p s (x ∷ xs) ≡ fed o p (byte_come o p s x) xs = rw e refl in
      record {
        taken = omega (arith, count, more.taken, c.is, c.few);
        complete = λ z. ap (λ y. y.drawn) after ∙ more.complete (omega arith);
        not_before = λ z. omega (arith, ap (λ y. y.drawn) after, more.not_before (omega arith));
      })
      (λ (h : pixels o.target ≤ s.drawn).
      let e : takes_at o s ≡ false = grind (arith, nat_tests) in
      let all : s.drawn ≡ pixels o.target = omega (arith, c.inside) in
      let none = c.ended all in
      let total : n ≡ bytes_for o.first o.target = omega (arith, c.is, t.all, ap (before o.first) all) in
      let after = fed_ended (takes_at o) (byte_come o p) s (x ∷ xs) e in
      record {
        taken = taken_ended (takes_at o) (byte_come o p) s (x ∷ xs) e ∙ omega arith;
        complete = λ z. ap (λ y. y.drawn) after ∙ all;
        not_before = λ z. absurd (omega arith);
      })
      (cases_lt s.drawn (pixels o.target))

-- bursts are taken as their bytes together
module _ (o : Op) (p : Palette) where
  fed_together : (s : Stage) (bursts : List (List ℕ)) → burst_fed o p s bursts ≡ fed o p s (flat_map (λ x. x) bursts)
  fed_together s [] = refl
  fed_together s (xs ∷ bursts) =
      fed_together (fed o p s xs) bursts ∙ sym (in_parts (takes_at o) (byte_come o p) s xs (flat_map (λ x. x) bursts)).after

  taken_together : (s : Stage) (bursts : List (List ℕ)) → burst_taken o p s bursts ≡ bytes_taken o p s (flat_map (λ x. x) bursts)
  taken_together s [] = refl
  taken_together s (xs ∷ bursts) =
      ap (λ n. bytes_taken o p s xs + n) (taken_together (fed o p s xs) bursts)
      ∙ sym (in_parts (takes_at o) (byte_come o p) s xs (flat_map (λ x. x) bursts)).taken

all_bytes : (bursts : List (List ℕ)) → length (flat_map (λ x. x) bursts) ≡ bytes_in bursts
all_bytes [] = refl
all_bytes (xs ∷ bursts) =
    length-append xs (flat_map (λ x. x) bursts) ∙ ap (λ n. length xs + n) (all_bytes bursts) ∙ sym (sum_by-cons length xs bursts)

-- where the host sends nothing, nothing is taken
pub none_for : (f : Origin) (t : Area) → awaited f ≡ 0 → bytes_for f t ≡ 0
none_for unused t e = refl
none_for (host b) t e = ap (λ x. t.width * t.height * x) e ∙ omega arith
none_for (host_bits r) t e = ap (λ x. t.height * row_units r * x) e ∙ omega arith
none_for (image _ _) t e = refl
none_for (pattern _ _ _) t e = refl
none_for (bits _ _) t e = refl

module _ (o : Op) (p : Palette) (m : List ℕ) (bursts : List (List ℕ)) where
  abbrev xs : List ℕ
  xs = flat_map (λ x. x) bursts

  some_taken : (some : 0 < awaited o.first) → Steps o.first o.target → FedFromStart o p (bytes_for o.first o.target) m bursts
  some_taken some t =
      let r = rest o p some t xs (at_start m) 0 (record { is = omega (arith, t.none); few = some; inside = omega arith; ended = λ z. refl }) in
      let far = ap (λ s. s.drawn) (fed_together o p (at_start m) bursts) in
      let long = all_bytes bursts in
      record {
        taken = omega (arith, taken_together o p (at_start m) bursts, r.taken);
        complete = λ h i. far ∙ r.complete (omega arith);
        not_before = λ h i. omega (arith, far, r.not_before (omega arith));
      }

  none_taken : awaited o.first ≡ 0 → FedFromStart o p (bytes_for o.first o.target) m bursts
  none_taken z =
      let e : takes_at o (at_start m) ≡ false = grind (arith, nat_tests) in
      record {
        taken = omega (arith, taken_together o p (at_start m) bursts, taken_ended (takes_at o) (byte_come o p) (at_start m) xs e, none_for o.first o.target z);
        complete = λ h i. absurd (omega arith);
        not_before = λ h i. absurd (omega arith);
      }

pub takes_in_all : (o : Op) (p : Palette) → Proper o.first → TakesInAll o p
takes_in_all o p proper wide m bursts =
    ⊎_elim
    (λ (h : 0 < awaited o.first). some_taken o p m bursts h (steps o.first o.target h proper wide))
    (λ (h : awaited o.first ≤ 0). none_taken o p m bursts (omega arith))
    (cases_lt 0 (awaited o.first))
