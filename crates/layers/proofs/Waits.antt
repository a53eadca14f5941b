-- Whether an address waits, and what a change makes of the entries.
use Rattle.std.proofs.Common.{◌≡◌, ℕ, zero, suc, ◌%◌, true, false, List, [], ◌∷◌, set, sym, refl, ap, ◌∙◌, ⊎_elim, arith}
use Rattle.std.proofs.lemmas.Bool.{cases_Bool, eq-eqb, ne_eqb, false≢true}
use Rattle.std.proofs.lemmas.Bool.Decides.{nat_tests}
use Rattle.std.proofs.lemmas.List.{set-set}
use Rattle.std.proofs.lemmas.List.Folds.{list_any_at, list_any_none}
use Rattle.layers.specs.declared.pending.Entry.{Entry}
use Rattle.layers.specs.Entries.{none, entry}
use Rattle.layers.specs.Laid.{laid}
use Rattle.layers.specs.Places.{Last, Absent}
use Rattle.layers.specs.Queue.{waits, changed}
use Rattle.layers.proofs.Lays.{last_tail, last_rest, laid_set}

pub absent_waits : (es : List Entry) (a : ℕ) → waits es a ≡ false → Absent es a
absent_waits es a h k d l q = false≢true (sym h ∙ list_any_at _ es k d l (eq-eqb _ a q))

pub waits_absent : (es : List Entry) (a : ℕ) → Absent es a → waits es a ≡ false
waits_absent es a o = list_any_none _ es (λ k d h. ne_eqb _ a (o k d h))

pub waits_last : (es : List Entry) (a i : ℕ) → Last es a i → waits es a ≡ true
waits_last es a i l = list_any_at _ es i none l.within (eq-eqb _ a (l.here none))

pub changed_last : (es : List Entry) (a i v : ℕ) → Last es a i → set es i (entry a v) ≡ changed es a v
unfolding changed
changed_last [] a i v l = refl
changed_last (e ∷ es) a zero v l = rw (waits_absent es a (last_rest e es a l)) refl
changed_last (e ∷ es) a (suc i) v l =
    let rest = last_tail e es a i l in
    rw (waits_last es a i rest) (ap (λ xs. e ∷ xs) (changed_last es a i v rest))

pub laid_changed : (m : List ℕ) (es : List Entry) (a v : ℕ) → waits es a ≡ true → laid m (changed es a v) ≡ set (laid m es) a (v % 256)
unfolding laid changed
laid_changed m [] a v h = absurd (false≢true h)
laid_changed m (e ∷ es) a v h =
    let m' = set m e.address (e.value % 256) in
    ⊎_elim
    (λ w. rw w (laid_changed m' es a v w))
    (λ w.
    let here : e.address ≡ a = grind (arith, nat_tests) in
    rw w (rw (laid_set m' es a (v % 256) (absent_waits es a w), here, set-set m a (e.value % 256) (v % 256)) refl))
    (cases_Bool (waits es a))
