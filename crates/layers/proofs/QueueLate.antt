-- After enough puts in a row nothing waits that had waited before them.
use Rattle.std.proofs.Common.{◌≡◌, ℕ, suc, ◌+◌, ◌<◌, ◌≤◌, ⊎_elim, true, false, cond, ltb, List, [], ◌∷◌, ◌++◌, ◌==◌, length, drop, take, sym, refl, ap, ◌∙◌, subst, length-append, length-drop, append-nil, append_assoc, arith}
use Rattle.std.specs.List.{All}
use Rattle.std.proofs.lemmas.Bool.{cases_Bool, cases_lt, lt-ltb, le-ltb, false≢true}
use Rattle.std.proofs.lemmas.Bool.Decides.{nat_tests}
use Rattle.std.proofs.lemmas.List.Elements.{All-append}
use Rattle.std.proofs.lemmas.List.Folds.{list_any-append}
use Rattle.layers.specs.declared.pending.Entry.{Entry}
use Rattle.layers.specs.Entries.{entry}
use Rattle.layers.specs.Laid.{laid}
use Rattle.layers.specs.Places.{Absent, Apart}
use Rattle.layers.specs.Queue.{Queue, queue, waits, changed, sent, pushed, taken, queued, queued_all}
use Rattle.layers.proofs.Lays.{length_laid}
use Rattle.layers.proofs.Waits.{absent_waits, waits_absent}
use Rattle.layers.proofs.Queues.{queued_in, taken_room, taken_full, length_queued}

-- how many of the entries are for addresses from a on
unfoldable late : ℕ → List Entry → ℕ
late a [] = 0
late a (e ∷ es) = cond (ltb e.address a) 0 1 + late a es

late_few : (a : ℕ) (es : List Entry) → late a es ≤ length es
unfolding late
late_few a [] = omega arith
late_few a (e ∷ es) = ⊎_elim
    (λ h. rw (lt-ltb e.address a h) (omega (arith, late_few a es)))
    (λ h. rw (le-ltb e.address a h) (omega (arith, late_few a es)))
    (cases_lt e.address a)

late_append : (a : ℕ) (es fs : List Entry) → late a (es ++ fs) ≡ late a es + late a fs
unfolding late
late_append a [] fs = omega arith
late_append a (e ∷ es) fs = omega (arith, late_append a es fs)

late_next : (a : ℕ) (es : List Entry) → late (a + 1) es ≤ late a es
unfolding late
late_next a [] = omega arith
late_next a (e ∷ es) = ⊎_elim
    (λ h. rw (lt-ltb e.address a h, lt-ltb e.address (a + 1) (omega arith)) (omega (arith, late_next a es)))
    (λ h. rw (le-ltb e.address a h) (⊎_elim
    (λ here. rw (lt-ltb e.address (a + 1) here) (omega (arith, late_next a es)))
    (λ past. rw (le-ltb e.address (a + 1) past) (omega (arith, late_next a es)))
    (cases_lt e.address (a + 1))))
    (cases_lt e.address a)

-- a change of an entry makes one fewer
late_changed : (a v : ℕ) (es : List Entry) → waits es a ≡ true → late (a + 1) (changed es a v) < late a es
unfolding late changed
late_changed a v [] h = absurd (false≢true h)
late_changed a v (e ∷ es) h = ⊎_elim
    (λ w. rw w (⊎_elim
    (λ below. rw (lt-ltb e.address a below, lt-ltb e.address (a + 1) (omega arith)) (omega (arith, late_changed a v es w)))
    (λ from. rw (le-ltb e.address a from) (⊎_elim
    (λ here. rw (lt-ltb e.address (a + 1) here) (omega (arith, late_changed a v es w)))
    (λ past. rw (le-ltb e.address (a + 1) past) (omega (arith, late_changed a v es w)))
    (cases_lt e.address (a + 1))))
    (cases_lt e.address a)))
    (λ w.
    let here : e.address ≡ a = grind (arith, nat_tests) in
    rw w (rw here (rw (le-ltb a a (omega arith), lt-ltb a (a + 1) (omega arith)) (omega (arith, late_next a es)))))
    (cases_Bool (waits es a))

length_changed : (es : List Entry) (a v : ℕ) → waits es a ≡ true → length (changed es a v) ≡ length es
unfolding changed
length_changed [] a v h = refl
length_changed (e ∷ es) a v h = ⊎_elim
    (λ w. rw w (ap suc (length_changed es a v w)))
    (λ w. rw w refl)
    (cases_Bool (waits es a))

changed_later : (e : Entry) (es : List Entry) (a v : ℕ) → waits es a ≡ true → changed (e ∷ es) a v ≡ e ∷ changed es a v
unfolding changed
changed_later e es a v h = rw h refl

changed_first : (e : Entry) (es : List Entry) (a v : ℕ) → waits es a ≡ false → changed (e ∷ es) a v ≡ entry a v ∷ es
unfolding changed
changed_first e es a v h = rw h refl

-- an entry before those that are for other addresses
waits_before : (es fs : List Entry) (a : ℕ) → waits fs a ≡ false → waits (es ++ fs) a ≡ waits es a
waits_before es fs a none = list_any-append (λ e. e.address == a) es fs ∙ rw none (grind (arith, nat_tests))

changed_append : (es fs : List Entry) (a v : ℕ) → waits fs a ≡ false → waits (es ++ fs) a ≡ true → changed (es ++ fs) a v ≡ changed es a v ++ fs
changed_append [] fs a v none some = absurd (false≢true (sym none ∙ some))
changed_append (e ∷ es) fs a v none some = ⊎_elim
    (λ w.
    let both = waits_before es fs a none ∙ w in
    changed_later e (es ++ fs) a v both ∙ ap (λ l. e ∷ l) (changed_append es fs a v none both) ∙ sym (ap (λ l. l ++ fs) (changed_later e es a v w)))
    (λ w. changed_first e (es ++ fs) a v (waits_before es fs a none ∙ w) ∙ sym (ap (λ l. l ++ fs) (changed_first e es a v w)))
    (cases_Bool (waits es a))

-- all entries are for addresses below a
Before : ℕ → List Entry → Type 0
Before a es = All (λ e. e.address < a) es

before_next : (a : ℕ) (es : List Entry) → Before a es → Before (a + 1) es
unfolding Before
before_next a es h k d in' = omega (arith, h k d in')

before_absent : (a : ℕ) (es : List Entry) → Before a es → Absent es a
unfolding Before
before_absent a es h k d in' e = omega (arith, h k d in')

before_push : (a v : ℕ) (es : List Entry) → Before a es → Before (a + 1) (es ++ entry a v ∷ [])
unfolding Before
before_push a v es h = All-append (λ e. e.address < a + 1) es (entry a v ∷ []) (before_next a es h) (λ k d in'. let first : k ≡ 0 = omega arith in rw first (omega arith))

before_drop : (a : ℕ) (es : List Entry) → Before a es → Before a (drop 1 es)
unfolding Before
before_drop a [] h = h
before_drop a (e ∷ es) h = λ k d in'. h (suc k) d (omega arith)

module _ (q : Queue) (a v : ℕ) (within : a < length q.below) where
  put_change : waits q.entries a ≡ true → queue q.below (changed q.entries a v) ≡ queued q a v
  unfolding taken
  put_change w = let is : queue q.below (changed q.entries a v) ≡ taken q a v = rw w refl in is ∙ queued_in q a v within

  put_room : Absent q.entries a → length q.entries < 16 → pushed q a v ≡ queued q a v
  put_room o room = taken_room q a v o room ∙ queued_in q a v within

  put_full : Absent q.entries a → 16 ≤ length q.entries → pushed (sent q) a v ≡ queued q a v
  put_full o full = taken_full q a v o full ∙ queued_in q a v within

  few_put : length q.entries ≤ 16 → length (queued q a v).entries ≤ 16
  few_put few = ⊎_elim
      (λ w. omega (arith, ap (λ p. length p.entries) (put_change w), length_changed q.entries a v w))
      (λ w. ⊎_elim
      (λ room. omega (arith, ap (λ p. length p.entries) (put_room (absent_waits q.entries a w) room), length-append q.entries (entry a v ∷ [])))
      (λ full. omega (arith, ap (λ p. length p.entries) (put_full (absent_waits q.entries a w) full), length-append (drop 1 q.entries) (entry a v ∷ []), length-drop 1 q.entries))
      (cases_lt (length q.entries) 16))
      (cases_Bool (waits q.entries a))

  before_put : Before a q.entries → Before (a + 1) (queued q a v).entries
  before_put h = ⊎_elim
      (λ room. subst (λ p. Before (a + 1) p.entries) (put_room (before_absent a q.entries h) room) (before_push a v q.entries h))
      (λ full. subst (λ p. Before (a + 1) p.entries) (put_full (before_absent a q.entries h) full) (before_push a v (drop 1 q.entries) (before_drop a q.entries h)))
      (cases_lt (length q.entries) 16)

pub few_queued : (q : Queue) (a : ℕ) (xs : List ℕ) → length q.entries ≤ 16 → a + length xs ≤ length q.below → length (queued_all q a xs).entries ≤ 16
unfolding queued_all
few_queued q a [] few within = few
few_queued q a (x ∷ xs) few within = few_queued (queued q a x) (a + 1) xs (few_put q a x (omega arith) few) (omega (arith, length_queued q a x))

before_all : (q : Queue) (a : ℕ) (xs : List ℕ) (end : ℕ) → end ≡ a + length xs → Before a q.entries → end ≤ length q.below → Before end (queued_all q a xs).entries
unfolding queued_all
before_all q a [] end is h within = let e : a ≡ end = omega arith in subst (λ i. Before i q.entries) e h
before_all q a (x ∷ xs) end is h within =
    before_all (queued q a x) (a + 1) xs end (omega arith) (before_put q a x (omega arith) h) (omega (arith, length_queued q a x))

late_rest : (a : ℕ) (e : Entry) (es : List Entry) → late a es ≤ late a (e ∷ es)
unfolding late
late_rest a e es = omega arith

-- Each put adds one to the new entries, sends one of the old below, or makes fewer of the old ones late.
no_old : (m : List ℕ) (os ns : List Entry) (a : ℕ) (xs : List ℕ) (end : ℕ) → end ≡ a + length xs → length (os ++ ns) ≤ 16 → Before a ns → 16 + late a os ≤ length xs + length ns
    → end ≤ length m → Before end (queued_all (queue m (os ++ ns)) a xs).entries
unfolding queued_all
no_old m [] ns a xs end is few before enough within = before_all (queue m ns) a xs end is before within
no_old m (o ∷ os) ns a [] end is few before enough within = absurd (omega (arith, length-append os ns))
no_old m (o ∷ os) ns a (x ∷ xs) end is few before enough within =
    let es = (o ∷ os) ++ ns in
    let q = queue m es in
    let put = entry a x in
    let none = waits_absent ns a (before_absent a ns before) in
    let fits : a < length m = omega arith in
    let old : List Entry → Queue = λ l. queued_all (queue m l) (a + 1) xs in
    ⊎_elim
    (λ w.
    let here : waits (o ∷ os) a ≡ true = sym (waits_before (o ∷ os) ns a none) ∙ w in
    let os' = changed (o ∷ os) a x in
    subst (λ p. Before end (queued_all p (a + 1) xs).entries) (sym (ap (queue m) (changed_append (o ∷ os) ns a x none w)) ∙ put_change q a x fits w)
    (no_old m os' ns (a + 1) xs end (omega arith)
    (omega (arith, length-append os' ns, length_changed (o ∷ os) a x here, length-append (o ∷ os) ns)) (before_next a ns before) (omega (arith, late_changed a x (o ∷ os) here)) within))
    (λ w.
    let absent = absent_waits es a w in
    let ns' = ns ++ put ∷ [] in
    let long = length-append ns (put ∷ []) in
    ⊎_elim
    (λ room.
    subst (λ p. Before end (queued_all p (a + 1) xs).entries) (sym (ap (queue m) (append_assoc (o ∷ os) ns (put ∷ []))) ∙ put_room q a x fits absent room)
    (no_old m (o ∷ os) ns' (a + 1) xs end (omega arith) (omega (arith, length-append (o ∷ os) ns', length-append (o ∷ os) ns)) (before_push a x ns before)
    (omega (arith, late_next a (o ∷ os))) within))
    (λ full.
    let m' = laid m (take 1 es) in
    subst (λ p. Before end (queued_all p (a + 1) xs).entries) (sym (ap (queue m') (append_assoc os ns (put ∷ []))) ∙ put_full q a x fits absent full)
    (no_old m' os ns' (a + 1) xs end (omega arith) (omega (arith, length-append os ns', length-append (o ∷ os) ns)) (before_push a x ns before)
    (omega (arith, late_next a os, late_rest a o os)) (omega (arith, length_laid m (take 1 es)))))
    (cases_lt (length es) 16))
    (cases_Bool (waits es a))

-- after 32 puts nothing waits for an address after theirs
pub apart_after : (q : Queue) (a : ℕ) (xs : List ℕ) (n : ℕ) → length q.entries ≤ 16 → 32 ≤ length xs → a + length xs ≤ length q.below
    → Apart (queued_all q a xs).entries (a + length xs) n
unfolding Before
apart_after q a xs n few many within i h k d in' here =
    let e = append-nil q.entries in
    let before : Before (a + length xs) (queued_all q a xs).entries = subst (λ l. Before (a + length xs) (queued_all (queue q.below l) a xs).entries) e
    (no_old q.below q.entries [] a xs (a + length xs) refl (omega (arith, ap length e)) (λ j d' h'. absurd (omega arith)) (omega (arith, late_few a q.entries)) within) in
    omega (arith, before k d in')
