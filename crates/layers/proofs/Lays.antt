-- What reads and puts do to waiting bytes laid over memory.
use Rattle.std.proofs.Common.{◌≡◌, ℕ, zero, suc, ◌%◌, ◌<◌, List, [], ◌∷◌, ◌++◌, length, get_or, set, sym, refl, ap, ◌∙◌, arith}
use Rattle.std.proofs.lemmas.List.{length-set, get_or-set_same, get_or-set_other, set_comm}
use Rattle.layers.specs.declared.pending.Entry.{Entry}
use Rattle.layers.specs.Entries.{none}
use Rattle.layers.specs.Laid.{laid}
use Rattle.layers.specs.Places.{Last, Absent}

pub laid_none : (m : List ℕ) → laid m [] ≡ m
unfolding laid
laid_none m = refl

pub length_laid : (m : List ℕ) (es : List Entry) → length (laid m es) ≡ length m
unfolding laid
length_laid m [] = refl
length_laid m (e ∷ es) = length_laid (set m e.address (e.value % 256)) es ∙ length-set m e.address (e.value % 256)

pub last_tail : (e : Entry) (es : List Entry) (a i : ℕ) → Last (e ∷ es) a (suc i) → Last es a i
last_tail e es a i l = record { within = omega (arith, l.within); here = l.here; later = λ k d h j. l.later (suc k) d (omega arith) (omega arith) }

pub last_rest : (e : Entry) (es : List Entry) (a : ℕ) → Last (e ∷ es) a 0 → Absent es a
last_rest e es a l k d h = l.later (suc k) d (omega arith) (omega arith)

pub laid_absent : (m : List ℕ) (es : List Entry) (a : ℕ) → Absent es a → get_or (laid m es) a 0 ≡ get_or m a 0
unfolding laid
laid_absent m [] a o = refl
laid_absent m (e ∷ es) a o =
    laid_absent (set m e.address (e.value % 256)) es a (λ k d h. o (suc k) d (omega arith))
    ∙ get_or-set_other m e.address a (e.value % 256) 0 (λ q. o 0 e (omega arith) (sym q))

pub laid_last : (m : List ℕ) (es : List Entry) (a i : ℕ) → Last es a i → a < length m → get_or (laid m es) a 0 ≡ (get_or es i none).value % 256
unfolding laid
laid_last m [] a i l h = omega (arith, l.within)
laid_last m (e ∷ es) a zero l h =
    laid_absent (set m e.address (e.value % 256)) es a (last_rest e es a l)
    ∙ ap (λ x. get_or (set m x (e.value % 256)) a 0) (l.here e) ∙ get_or-set_same m a (e.value % 256) 0 h
laid_last m (e ∷ es) a (suc i) l h =
    laid_last (set m e.address (e.value % 256)) es a i (last_tail e es a i l) (omega (arith, length-set m e.address (e.value % 256)))

pub laid_set : (m : List ℕ) (es : List Entry) (a x : ℕ) → Absent es a → set (laid m es) a x ≡ laid (set m a x) es
unfolding laid
laid_set m [] a x o = refl
laid_set m (e ∷ es) a x o =
    laid_set (set m e.address (e.value % 256)) es a x (λ k d h. o (suc k) d (omega arith))
    ∙ ap (λ n. laid n es) (set_comm m e.address a (e.value % 256) x (o 0 e (omega arith)))

pub laid_push : (m : List ℕ) (es : List Entry) (e : Entry) → laid m (es ++ e ∷ []) ≡ set (laid m es) e.address (e.value % 256)
unfolding laid
laid_push m [] e = refl
laid_push m (x ∷ es) e = laid_push (set m x.address (x.value % 256)) es e
