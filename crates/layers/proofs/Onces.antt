-- A put leaves each address at most once in the queue.
use Rattle.std.proofs.Common.{◌≡◌, ℕ, zero, suc, ◌+◌, ◌<◌, ◌≢◌, Bool, true, false, cond, ltb, List, [], ◌∷◌, ◌++◌, length, get_or, drop, sym, refl, ap, ◌∙◌, subst, ⊎_elim, arith}
use Rattle.std.proofs.lemmas.Bool.{cases_Bool}
use Rattle.std.proofs.lemmas.Bool.Decides.{nat_tests}
use Rattle.std.proofs.lemmas.List.Quantifiers.{all_pairs_push}
use Rattle.layers.specs.declared.pending.Entry.{Entry}
use Rattle.layers.specs.Entries.{entry}
use Rattle.layers.specs.Places.{Absent}
use Rattle.layers.specs.Queue.{Queue, over, waits, changed, sent, pushed, taken, queued, queued_all, queued_merged, Once}
use Rattle.layers.proofs.Waits.{absent_waits}

length_changed : (es : List Entry) (a v : ℕ) → length (changed es a v) ≡ length es
unfolding changed
length_changed [] a v = refl
length_changed (e ∷ es) a v = ⊎_elim
    (λ w. rw w (ap suc (length_changed es a v)))
    (λ w. rw w refl)
    (cases_Bool (waits es a))

-- a change keeps the addresses where they are
address_changed : (es : List Entry) (a v : ℕ) → waits es a ≡ true → (k : ℕ) (d : Entry) → (get_or (changed es a v) k d).address ≡ (get_or es k d).address
unfolding changed
address_changed [] a v h k d = refl
address_changed (e ∷ es) a v h zero d = ⊎_elim
    (λ w. rw w refl)
    (λ w. let here : a ≡ e.address = grind (arith, nat_tests) in rw w here)
    (cases_Bool (waits es a))
address_changed (e ∷ es) a v h (suc k) d = ⊎_elim
    (λ w. rw w (address_changed es a v w k d))
    (λ w. rw w refl)
    (cases_Bool (waits es a))

once_changed : (es : List Entry) (a v : ℕ) → waits es a ≡ true → Once es → Once (changed es a v)
once_changed es a v h o i j d l within q =
    o i j d l (subst (λ n. j < n) (length_changed es a v) within) (sym (address_changed es a v h i d) ∙ q ∙ address_changed es a v h j d)

once_pushed : (es : List Entry) (e : Entry) → Absent es e.address → Once es → Once (es ++ e ∷ [])
once_pushed es e h o = all_pairs_push (λ x y. x.address ≢ y.address) es e o h

absent_dropped : (es : List Entry) (a : ℕ) → Absent es a → Absent (drop 1 es) a
absent_dropped [] a h = h
absent_dropped (e ∷ es) a h = λ k d l. h (suc k) d (omega arith)

once_dropped : (es : List Entry) → Once es → Once (drop 1 es)
once_dropped [] o = o
once_dropped (e ∷ es) o = λ i j d l within. o (suc i) (suc j) d (omega arith) (omega arith)

module _ (q : Queue) (a v : ℕ) (o : Once q.entries) where
  once_last : (b : Bool) → waits q.entries a ≡ false → Once (cond b (pushed q a v) (pushed (sent q) a v)).entries
  once_last true h = once_pushed q.entries (entry a v) (absent_waits q.entries a h) o
  once_last false h = once_pushed (drop 1 q.entries) (entry a v) (absent_dropped q.entries a (absent_waits q.entries a h)) (once_dropped q.entries o)

  once_taken : Once (taken q a v).entries
  unfolding taken
  once_taken = ⊎_elim
      (λ h. rw h (once_changed q.entries a v h o))
      (λ h. rw h (once_last (ltb (length q.entries) 16) h))
      (cases_Bool (waits q.entries a))

  pub once_queued : Once (queued q a v).entries
  unfolding queued
  once_queued = ⊎_elim (λ h. rw h once_taken) (λ h. rw h o) (cases_Bool (ltb a (length q.below)))

pub once_after : (q q' : Queue) (a v : ℕ) → q' ≡ queued q a v → Once q.entries → Once q'.entries
once_after q q' a v e o = subst (λ x. Once x.entries) (sym e) (once_queued q a v o)

-- nor do more puts
pub once_all : (q : Queue) (a : ℕ) (xs : List ℕ) → Once q.entries → Once (queued_all q a xs).entries
unfolding queued_all
once_all q a [] o = o
once_all q a (x ∷ xs) o = once_all (queued q a x) (a + 1) xs (once_queued q a x o)

pub once_merged : (f : ℕ → ℕ → ℕ) (q : Queue) (a b c n : ℕ) → Once q.entries → Once (queued_merged f q a b c n).entries
unfolding queued_merged
once_merged f q a b c zero o = o
once_merged f q a b c (suc n) o =
    let p = queued_merged f q a b c n in
    once_queued p (c + n) (f (get_or (over p) (a + n) 0) (get_or (over p) (b + n) 0)) (once_merged f q a b c n o)
