-- The cases of a put to a write queue, and what it leaves of what the queue shows.
use Rattle.std.proofs.Common.{◌≡◌, ℕ, ◌%◌, ◌<◌, ◌≤◌, Bool, true, false, cond, ltb, List, [], ◌∷◌, length, get_or, take, drop, set, sym, refl, ap, ◌∙◌, ⊎_elim, mod-eq_of_lt, arith}
use Rattle.std.proofs.lemmas.Bool.{cases_Bool, cases_lt, lt-ltb, le-ltb}
use Rattle.std.proofs.lemmas.List.{set_past}
use Rattle.layers.specs.declared.pending.Entry.{Entry}
use Rattle.layers.specs.Entries.{none, entry}
use Rattle.layers.specs.Laid.{laid}
use Rattle.layers.specs.Places.{Last, Absent}
use Rattle.layers.specs.Queue.{Queue, queue, over, waits, sent, pushed, taken, queued}
use Rattle.layers.proofs.Lays.{laid_push, length_laid}
use Rattle.layers.proofs.Waits.{waits_absent, waits_last, changed_last, laid_changed}

module _ (q : Queue) (a v : ℕ) where
  pub taken_changed : (i : ℕ) → Last q.entries a i → queue q.below (set q.entries i (entry a v)) ≡ taken q a v
  unfolding taken
  taken_changed i l = rw (waits_last q.entries a i l) (ap (queue q.below) (changed_last q.entries a i v l))

  pub taken_room : Absent q.entries a → length q.entries < 16 → pushed q a v ≡ taken q a v
  unfolding taken
  taken_room o room = rw (waits_absent q.entries a o, lt-ltb (length q.entries) 16 room) refl

  pub taken_full : Absent q.entries a → 16 ≤ length q.entries → pushed (sent q) a v ≡ taken q a v
  unfolding taken
  taken_full o full = rw (waits_absent q.entries a o, le-ltb (length q.entries) 16 full) refl

  pub queued_in : a < length q.below → taken q a v ≡ queued q a v
  unfolding queued
  queued_in h = rw (lt-ltb a (length q.below) h) refl

  pub queued_past : length q.below ≤ a → q ≡ queued q a v
  unfolding queued
  queued_past h = rw (le-ltb a (length q.below) h) refl

pub laid_oldest : (m : List ℕ) (es : List Entry) → 0 < length es → laid m (take 1 es) ≡ set m (get_or es 0 none).address ((get_or es 0 none).value % 256)
unfolding laid
laid_oldest m [] h = let z : ⊥ = omega arith in absurd z
laid_oldest m (e ∷ es) h = refl

pub laid_sent : (m : List ℕ) (es : List Entry) → laid (laid m (take 1 es)) (drop 1 es) ≡ laid m es
unfolding laid
laid_sent m [] = refl
laid_sent m (e ∷ es) = refl

pub emptied : (m : List ℕ) (es : List Entry) → length es ≡ 0 → queue m es ≡ queue (laid m es) []
unfolding laid
emptied m [] h = refl
emptied m (e ∷ es) h = let z : ⊥ = omega arith in absurd z

-- what the queue shows after a put within memory
module _ (q : Queue) (a v : ℕ) where
  over_pushed : over (pushed q a v) ≡ set (over q) a (v % 256)
  over_pushed = laid_push q.below q.entries (entry a v)

module _ (q : Queue) (a v : ℕ) where
  over_last : (b : Bool) → over (cond b (pushed q a v) (pushed (sent q) a v)) ≡ set (over q) a (v % 256)
  over_last true = over_pushed q a v
  over_last false = over_pushed (sent q) a v ∙ ap (λ m. set m a (v % 256)) (laid_sent q.below q.entries)

  pub over_taken : over (taken q a v) ≡ set (over q) a (v % 256)
  unfolding taken
  over_taken = ⊎_elim (λ h. rw h (laid_changed q.below q.entries a v h)) (λ h. rw h (over_last (ltb (length q.entries) 16))) (cases_Bool (waits q.entries a))

  pub over_after : (q' : Queue) → v < 256 → q' ≡ taken q a v → over q' ≡ set (over q) a v
  over_after q' h e = ap over e ∙ over_taken ∙ ap (set (over q) a) (mod-eq_of_lt h)

module _ (q : Queue) (a v : ℕ) where
  length_last : (b : Bool) → length (cond b (pushed q a v) (pushed (sent q) a v)).below ≡ length q.below
  length_last true = refl
  length_last false = length_laid q.below (take 1 q.entries)

  length_taken : length (taken q a v).below ≡ length q.below
  unfolding taken
  length_taken = ⊎_elim (λ h. rw h refl) (λ h. rw h (length_last (ltb (length q.entries) 16))) (cases_Bool (waits q.entries a))

  pub length_queued : length (queued q a v).below ≡ length q.below
  length_queued = ⊎_elim
      (λ h. ap (λ p. length p.below) (sym (queued_in q a v h)) ∙ length_taken)
      (λ h. ap (λ p. length p.below) (sym (queued_past q a v h)))
      (cases_lt a (length q.below))

  -- what the queue shows after a put
  pub over_queued : over (queued q a v) ≡ set (over q) a (v % 256)
  over_queued = ⊎_elim
      (λ h. ap over (sym (queued_in q a v h)) ∙ over_taken q a v)
      (λ h. ap over (sym (queued_past q a v h)) ∙ sym (set_past (over q) a (v % 256) (omega (arith, length_laid q.below q.entries))))
      (cases_lt a (length q.below))
