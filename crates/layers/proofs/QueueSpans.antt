-- What bytes put one after another make of a write queue.
use Rattle.std.proofs.Common.{◌≡◌, ℕ, zero, suc, ◌+◌, ◌*◌, ◌%◌, ◌<◌, ◌≤◌, ◌≢◌, ◌==◌, ◌&&◌, ◌⊎◌, inl, inr, ⊎_elim, Bool, true, false, cond, ltb, leb, min, ◌-◌, List, [], ◌∷◌, ◌++◌, length, get_or, take, drop, set, sym, refl, ap, ◌∙◌, subst, mod-eq_of_lt, length-append, length-drop, length-take, take-append-drop, append-nil, append_assoc, add-one, arith}
use Rattle.std.proofs.Math.Nat.{mul-le-mul_left}
use Rattle.std.proofs.lemmas.Bool.{cases_Bool, cases_lt, lt-ltb, le-ltb, le-leb, false≢true}
use Rattle.std.proofs.lemmas.Bool.Decides.{nat_tests}
use Rattle.std.proofs.lemmas.List.{take_more, take_all, get_or-take, get_or-drop, get_or_past}
use Rattle.std.proofs.lemmas.List.Folds.{list_any-append, list_any_at}
use Rattle.memory.specs.Spans.{overlaid, times}
use Rattle.memory.proofs.Spans.{length_overlaid, overlaid_append, length_times}
use Rattle.layers.specs.declared.pending.Entry.{Entry}
use Rattle.layers.specs.Entries.{none, entry}
use Rattle.layers.specs.Laid.{laid}
use Rattle.layers.specs.Places.{Absent, Apart}
use Rattle.layers.specs.Queue.{Queue, queue, over, waits_within, through, queued, queued_all}
use Rattle.layers.proofs.Waits.{absent_waits, waits_absent}
use Rattle.layers.proofs.Lays.{laid_none, length_laid}
use Rattle.layers.proofs.QueueLate.{few_queued, apart_after}
use Rattle.layers.proofs.Queues.{queued_in, queued_past, taken_room, taken_full, length_queued, over_queued}

-- bytes at addresses in a row, as entries
unfoldable listed : ℕ → List ℕ → List Entry
listed a [] = []
listed a (x ∷ xs) = entry a x ∷ listed (a + 1) xs

-- so many of the oldest go below that 16 wait
unfoldable settled : List ℕ → List Entry → Queue
settled m [] = queue m []
settled m (e ∷ es) = cond (ltb (length es) 16) (queue m (e ∷ es)) (settled (set m e.address (e.value % 256)) es)

length_listed : (a : ℕ) (xs : List ℕ) → length (listed a xs) ≡ length xs
unfolding listed
length_listed a [] = refl
length_listed a (x ∷ xs) = ap suc (length_listed (a + 1) xs)

listed_append : (a : ℕ) (xs ys : List ℕ) → listed a (xs ++ ys) ≡ listed a xs ++ listed (a + length xs) ys
unfolding listed
listed_append a [] ys = let e : a + 0 ≡ a = omega arith in rw e refl
listed_append a (x ∷ xs) ys =
    let e : a + suc (length xs) ≡ a + 1 + length xs = omega arith in
    rw e (ap (λ l. entry a x ∷ l) (listed_append (a + 1) xs ys))

laid_append : (m : List ℕ) (es fs : List Entry) → laid m (es ++ fs) ≡ laid (laid m es) fs
unfolding laid
laid_append m [] fs = refl
laid_append m (e ∷ es) fs = laid_append (set m e.address (e.value % 256)) es fs

laid_listed : (m : List ℕ) (a : ℕ) (xs : List ℕ) → ((k : ℕ) → get_or xs k 0 < 256) → laid m (listed a xs) ≡ overlaid m a xs
unfolding laid listed overlaid
laid_listed m a [] bytes = refl
laid_listed m a (x ∷ xs) bytes =
    ap (λ y. laid (set m a y) (listed (a + 1) xs)) (mod-eq_of_lt (bytes 0)) ∙ laid_listed (set m a x) (a + 1) xs (λ k. bytes (suc k))

-- few enough all wait
settled_few : (m : List ℕ) (es : List Entry) → length es ≤ 16 → settled m es ≡ queue m es
unfolding settled
settled_few m [] h = refl
settled_few m (e ∷ es) h = rw (lt-ltb (length es) 16 (omega arith)) refl

-- before 16 others all go below
settled_many : (m : List ℕ) (es fs : List Entry) → 16 ≤ length fs → settled m (es ++ fs) ≡ settled (laid m es) fs
unfolding settled laid
settled_many m [] fs h = refl
settled_many m (e ∷ es) fs h =
    let many : 16 ≤ length (es ++ fs) = omega (arith, length-append es fs) in
    rw (le-ltb (length (es ++ fs)) 16 many) (settled_many (set m e.address (e.value % 256)) es fs h)

-- an entry more
absent_more : (es : List Entry) (a v b : ℕ) → Absent es b → a ≢ b → Absent (es ++ entry a v ∷ []) b
absent_more es a v b o ne = absent_waits (es ++ entry a v ∷ []) b
    (list_any-append (λ e. e.address == b) es (entry a v ∷ []) ∙ rw (waits_absent es b o) (grind (arith, nat_tests)))

-- where 16 wait the oldest goes below before another comes
settled_full : (m : List ℕ) (es fs : List Entry) → 16 ≤ length es → 0 < length fs → settled (laid m (take 1 es)) (drop 1 es ++ fs) ≡ settled m (es ++ fs)
unfolding settled laid
settled_full m [] fs full some = absurd (omega arith)
settled_full m (e ∷ es) fs full some = rw (le-ltb (length (es ++ fs)) 16 (omega (arith, length-append es fs))) refl

absent_drop : (es : List Entry) (b : ℕ) → Absent es b → Absent (drop 1 es) b
absent_drop [] b o = o
absent_drop (e ∷ es) b o = λ k d h. o (suc k) d (omega arith)

-- what waits where none of the entries is for an address of the bytes put
queued_settled : (m : List ℕ) (es : List Entry) (a : ℕ) (xs : List ℕ) → length es ≤ 16 → a + length xs ≤ length m → Apart es a (length xs)
    → queued_all (queue m es) a xs ≡ settled m (es ++ listed a xs)
unfolding queued_all listed settled laid
queued_settled m es a [] few within apart = sym (ap (settled m) (append-nil es) ∙ settled_few m es few)
queued_settled m es a (x ∷ xs) few within apart =
    let put = entry a x in
    let absent : Absent es a = subst (Absent es) (omega arith) (apart 0 (omega arith)) in
    let kept = queued_in (queue m es) a x (omega arith) in
    let others : (i : ℕ) → i < length xs → Absent es (a + 1 + i) = λ i h. subst (Absent es) (omega arith) (apart (i + 1) (omega arith)) in
    ⊎_elim
    (λ room.
    ap (λ q. queued_all q (a + 1) xs) (sym (taken_room (queue m es) a x absent room ∙ kept))
    ∙ queued_settled m (es ++ put ∷ []) (a + 1) xs (omega (arith, length-append es (put ∷ []))) (omega arith)
    (λ i h. absent_more es a x (a + 1 + i) (others i h) (omega arith))
    ∙ ap (settled m) (append_assoc es (put ∷ []) (listed (a + 1) xs)))
    (λ full.
    let es' = drop 1 es ++ put ∷ [] in
    let m' = laid m (take 1 es) in
    ap (λ q. queued_all q (a + 1) xs) (sym (taken_full (queue m es) a x absent full ∙ kept))
    ∙ queued_settled m' es' (a + 1) xs (omega (arith, length-append (drop 1 es) (put ∷ []), length-drop 1 es)) (omega (arith, length_laid m (take 1 es)))
    (λ i h. absent_more (drop 1 es) a x (a + 1 + i) (absent_drop es (a + 1 + i) (others i h)) (omega arith))
    ∙ ap (settled m') (append_assoc (drop 1 es) (put ∷ []) (listed (a + 1) xs))
    ∙ settled_full m es (put ∷ listed (a + 1) xs) full (omega arith))
    (cases_lt (length es) 16)

pub queued_append : (q : Queue) (a : ℕ) (xs ys : List ℕ) → queued_all q a (xs ++ ys) ≡ queued_all (queued_all q a xs) (a + length xs) ys
unfolding queued_all
queued_append q a [] ys = let e : a + 0 ≡ a = omega arith in rw e refl
queued_append q a (x ∷ xs) ys =
    let e : a + suc (length xs) ≡ a + 1 + length xs = omega arith in
    rw e (queued_append (queued q a x) (a + 1) xs ys)

pub length_queued_all : (q : Queue) (a : ℕ) (xs : List ℕ) → length (queued_all q a xs).below ≡ length q.below
unfolding queued_all
length_queued_all q a [] = refl
length_queued_all q a (x ∷ xs) = length_queued_all (queued q a x) (a + 1) xs ∙ length_queued q a x

-- past the end nothing is put
pub queued_all_past : (q : Queue) (a : ℕ) (xs : List ℕ) → length q.below ≤ a → queued_all q a xs ≡ q
unfolding queued_all
queued_all_past q a [] h = refl
queued_all_past q a (x ∷ xs) h = ap (λ p. queued_all p (a + 1) xs) (sym (queued_past q a x h)) ∙ queued_all_past q (a + 1) xs (omega arith)

-- bytes of which those past the end are left out
pub queued_front : (q : Queue) (a : ℕ) (xs ys : List ℕ) → length q.below ≤ a + length xs → queued_all q a (xs ++ ys) ≡ queued_all q a xs
queued_front q a xs ys h = queued_append q a xs ys ∙ queued_all_past (queued_all q a xs) (a + length xs) ys (omega (arith, length_queued_all q a xs))

-- what the queue shows after bytes were put
pub over_queued_all : (q : Queue) (a : ℕ) (xs : List ℕ) → ((k : ℕ) → get_or xs k 0 < 256) → over (queued_all q a xs) ≡ overlaid (over q) a xs
unfolding queued_all overlaid
over_queued_all q a [] bytes = refl
over_queued_all q a (x ∷ xs) bytes =
    over_queued_all (queued q a x) (a + 1) xs (λ k. bytes (suc k))
    ∙ ap (λ m. overlaid m (a + 1) xs) (over_queued q a x ∙ ap (set (over q) a) (mod-eq_of_lt (bytes 0)))

-- Bytes of which at least the last 16 wait: those before them go below after all that waited, where none of it is for an address of them.
through_apart : (q : Queue) (a : ℕ) (xs ys : List ℕ) → length q.entries ≤ 16 → a + length (xs ++ ys) ≤ length q.below → Apart q.entries a (length (xs ++ ys))
    → 16 ≤ length ys → ((k : ℕ) → get_or xs k 0 < 256)
    → queued_all (queue (overlaid (over q) a xs) []) (a + length xs) ys ≡ queued_all q a (xs ++ ys)
through_apart q a xs ys few within apart many bytes =
    let m = overlaid (over q) a xs in
    let b = a + length xs in
    let rest = listed b ys in
    let below : laid q.below (q.entries ++ listed a xs) ≡ m = laid_append q.below q.entries (listed a xs) ∙ laid_listed (over q) a xs bytes in
    let through : queued_all q a (xs ++ ys) ≡ settled m rest =
    queued_settled q.below q.entries a (xs ++ ys) few within apart
    ∙ ap (λ es. settled q.below (q.entries ++ es)) (listed_append a xs ys)
    ∙ ap (settled q.below) (sym (append_assoc q.entries (listed a xs) rest))
    ∙ settled_many q.below (q.entries ++ listed a xs) rest (omega (arith, length_listed b ys))
    ∙ ap (λ l. settled l rest) below in
    queued_settled m [] b ys (omega arith) (omega (arith, length-append xs ys, length_overlaid (over q) a xs, length_laid q.below q.entries)) (λ i h k d less. absurd (omega arith))
    ∙ sym through

bytes_taken : (xs : List ℕ) (n : ℕ) → ((k : ℕ) → get_or xs k 0 < 256) → (k : ℕ) → get_or (take n xs) k 0 < 256
bytes_taken xs n bytes k =
    ⊎_elim
    (λ in'. rw (get_or-take n xs k 0 in') (bytes k))
    (λ past. rw (get_or_past (take n xs) k 0 (omega (arith, length-take n xs))) (omega arith))
    (cases_lt k n)

bytes_dropped : (xs : List ℕ) (n : ℕ) → ((k : ℕ) → get_or xs k 0 < 256) → (k : ℕ) → get_or (drop n xs) k 0 < 256
bytes_dropped xs n bytes k = rw (get_or-drop n xs k 0) (bytes (n + k))

pub bytes_append : (xs ys : List ℕ) → ((k : ℕ) → get_or xs k 0 < 256) → ((k : ℕ) → get_or ys k 0 < 256) → (k : ℕ) → get_or (xs ++ ys) k 0 < 256
bytes_append [] ys x y k = y k
bytes_append (b ∷ xs) ys x y zero = x 0
bytes_append (b ∷ xs) ys x y (suc k) = bytes_append xs ys (λ i. x (suc i)) y k

-- the same whatever waits, since the first 32 puts send all that does
through_long : (q : Queue) (a : ℕ) (xs ys : List ℕ) → length q.entries ≤ 16 → a + length (xs ++ ys) ≤ length q.below → 32 ≤ length xs
    → 16 ≤ length ys → ((k : ℕ) → get_or xs k 0 < 256)
    → queued_all (queue (overlaid (over q) a xs) []) (a + length xs) ys ≡ queued_all q a (xs ++ ys)
through_long q a xs ys few within long many bytes =
    let ps = take 32 xs in
    let rs = drop 32 xs in
    let q' = queued_all q a ps in
    let b = a + length ps in
    let whole : ps ++ rs ≡ xs = take-append-drop 32 xs in
    let first : length ps ≡ 32 = omega (arith, length-take 32 xs) in
    let all = length-append xs ys in
    let parts : length ps + length rs ≡ length xs = omega (arith, ap length whole, length-append ps rs) in
    let fits : a + length ps ≤ length q.below = omega arith in
    let here : b + length rs ≡ a + length xs = omega arith in
    let shown : overlaid (over q') b rs ≡ overlaid (over q) a xs =
    ap (λ m. overlaid m b rs) (over_queued_all q a ps (bytes_taken xs 32 bytes)) ∙ sym (overlaid_append (over q) a ps rs) ∙ ap (overlaid (over q) a) whole in
    ap (λ m. queued_all (queue m []) (a + length xs) ys) (sym shown)
    ∙ ap (λ i. queued_all (queue (overlaid (over q') b rs) []) i ys) (sym here)
    ∙ through_apart q' b rs ys (few_queued q a ps few fits) (omega (arith, length-append rs ys, length_queued_all q a ps)) (apart_after q a ps (length (rs ++ ys)) few (omega arith) fits)
    many (bytes_dropped xs 32 bytes)
    ∙ sym (queued_append q a ps (rs ++ ys))
    ∙ ap (queued_all q a) (sym (append_assoc ps rs ys) ∙ ap (λ l. l ++ ys) whole)

-- Bytes of which at least the last 16 wait: those before them go below after all that waited, where none of it is for an address of them,
-- or where there are 48 of them.
pub queued_through : (q : Queue) (a : ℕ) (xs ys : List ℕ) → length q.entries ≤ 16 → a + length (xs ++ ys) ≤ length q.below
    → Apart q.entries a (length (xs ++ ys)) ⊎ (48 ≤ length (xs ++ ys)) → 16 ≤ length ys → ((k : ℕ) → get_or xs k 0 < 256) → ((k : ℕ) → get_or ys k 0 < 256)
    → queued_all (queue (overlaid (over q) a xs) []) (a + length xs) ys ≡ queued_all q a (xs ++ ys)
queued_through q a xs ys few within either many bytes bytes' =
    ⊎_elim
    (λ apart. through_apart q a xs ys few within apart many bytes)
    (λ long.
    let j = length ys - 16 in
    let ps = take j ys in
    let rs = drop j ys in
    let m = overlaid (over q) a xs in
    let b = a + length xs in
    let whole : ps ++ rs ≡ ys = take-append-drop j ys in
    let all = length-append xs ys in
    let front : length ps ≡ j = omega (arith, length-take j ys) in
    let back : length rs ≡ 16 = omega (arith, length-drop j ys) in
    let both : length (xs ++ ps) ≡ length xs + j = omega (arith, length-append xs ps) in
    let join : (xs ++ ps) ++ rs ≡ xs ++ ys = append_assoc xs ps rs ∙ ap (λ l. xs ++ l) whole in
    let shown : overlaid (laid m []) b ps ≡ overlaid (over q) a (xs ++ ps) = ap (λ l. overlaid l b ps) (laid_none m) ∙ sym (overlaid_append (over q) a xs ps) in
    ap (queued_all (queue m []) b) (sym whole)
    ∙ sym (through_apart (queue m []) b ps rs (omega arith) (omega (arith, ap length whole, length_overlaid (over q) a xs, length_laid q.below q.entries)) (λ i h k d less. absurd (omega arith))
    (omega arith) (bytes_taken ys j bytes'))
    ∙ ap (λ l. queued_all (queue l []) (b + length ps) rs) shown
    ∙ ap (λ i. queued_all (queue (overlaid (over q) a (xs ++ ps)) []) i rs) (omega arith)
    ∙ through_long q a (xs ++ ps) rs few (omega (arith, ap length join)) (omega arith) (omega arith) (bytes_append xs ps bytes (bytes_taken ys j bytes'))
    ∙ ap (queued_all q a) join)
    either

-- one byte more
pub queued_more : (q : Queue) (a : ℕ) (xs : List ℕ) (i : ℕ) → i < length xs → queued (queued_all q a (take i xs)) (a + i) (get_or xs i 0) ≡ queued_all q a (take (i + 1) xs)
unfolding queued_all
queued_more q a xs i h =
    let long : length (take i xs) ≡ i = omega (arith, length-take i xs) in
    sym (ap (queued_all q a) (take_more xs i 0 h) ∙ queued_append q a (take i xs) (get_or xs i 0 ∷ []) ∙ ap (λ n. queued (queued_all q a (take i xs)) (a + n) (get_or xs i 0)) long)

apart_within : (es : List Entry) (a n : ℕ) → waits_within es a n ≡ false → Apart es a n
apart_within es a n none_waits i h k d less here =
    let within : (leb a (get_or es k d).address && ltb (get_or es k d).address (a + n)) ≡ true = rw here (rw (le-leb a (a + i) (omega arith), lt-ltb (a + i) (a + n) (omega arith)) refl) in
    false≢true (sym none_waits ∙ list_any_at _ es k d less within)

-- what is past the end is left out
pub queued_cut : (q : Queue) (a : ℕ) (xs : List ℕ) (n : ℕ) → n ≡ min (length xs) (length q.below - a) → queued_all q a (take n xs) ≡ queued_all q a xs
queued_cut q a xs n h =
    ⊎_elim
    (λ short. ap (queued_all q a) (take_all n xs (omega arith)))
    (λ long. sym (ap (queued_all q a) (sym (take-append-drop n xs)) ∙ queued_front q a (take n xs) (drop n xs) (omega (arith, length-take n xs))))
    (cases_lt (a + n) (length q.below))

at_last : (b : Bool) (n : ℕ) → cond (b && false) 0 (n - 16) ≡ n - 16
at_last true n = refl
at_last false n = refl

pub some_through : (es : List Entry) (a n t : ℕ) → t ≡ through es a n → 0 < t → (Apart es a n ⊎ (48 ≤ n)) × (t ≡ n - 16)
some_through es a n t is some =
    ⊎_elim
    (λ less. ⊎_elim
    (λ w. let none : t ≡ 0 = is ∙ ap (λ b. cond (b && ltb n 48) 0 (n - 16)) w ∙ ap (λ b. cond b 0 (n - 16)) (lt-ltb n 48 less) in absurd (omega arith))
    (λ w. (inl (apart_within es a n w), is ∙ rw w refl))
    (cases_Bool (waits_within es a n)))
    (λ more. (inr more, is ∙ rw (le-ltb n 48 more) (at_last (waits_within es a n) n)))
    (cases_lt n 48)

module _ (q : Queue) (a : ℕ) (xs : List ℕ) (n t : ℕ) (cut : n ≡ min (length xs) (length q.below - a)) where
  -- some of a span went below, after all that waited
  pub queued_some : t ≡ through q.entries a (length (take n xs)) → length q.entries ≤ 16 → ((k : ℕ) → get_or xs k 0 < 256) → 0 < t
      → queued_all (queue (overlaid (over q) a (take t (take n xs))) []) (a + t) (drop t (take n xs)) ≡ queued_all q a xs
  queued_some is few bytes some =
      let ys = take n xs in
      let long : length ys ≡ n = omega (arith, length-take n xs) in
      let sent = some_through q.entries a (length ys) t is some in
      let front : length (take t ys) ≡ t = omega (arith, length-take t ys, sent.1) in
      let whole : take t ys ++ drop t ys ≡ ys = take-append-drop t ys in
      ap (λ i. queued_all (queue (overlaid (over q) a (take t ys)) []) (a + i) (drop t ys)) (sym front)
      ∙ queued_through q a (take t ys) (drop t ys) few (omega (arith, ap length whole)) (subst (λ l. Apart q.entries a (length l) ⊎ (48 ≤ length l)) (sym whole) sent.0)
      (omega (arith, length-drop t ys, sent.1)) (bytes_taken ys t (bytes_taken xs n bytes)) (bytes_dropped ys t (bytes_taken xs n bytes))
      ∙ ap (queued_all q a) whole ∙ queued_cut q a xs n cut

  -- none of it did
  pub queued_none : t ≡ 0 → queued_all q (a + t) (drop t (take n xs)) ≡ queued_all q a xs
  queued_none none = let e : a + 0 ≡ a = omega arith in rw (none, e) (queued_cut q a xs n cut)

-- once more
pub queued_times : (q : Queue) (a : ℕ) (xs : List ℕ) (n : ℕ) → queued_all (queued_all q a (times xs n)) (a + n * length xs) xs ≡ queued_all q a (times xs (n + 1))
unfolding times
queued_times q a xs n =
    rw (add-one n)
    (sym (queued_append q a (times xs n) xs ∙ ap (λ l. queued_all (queued_all q a (times xs n)) (a + l) xs) (length_times xs n)))

times_append : (xs : List ℕ) (j k : ℕ) → times xs j ++ times xs k ≡ times xs (j + k)
unfolding times
times_append xs j zero = let e : j + 0 ≡ j = omega arith in rw e (append-nil (times xs j))
times_append xs j (suc k) =
    let e : j + suc k ≡ suc (j + k) = omega arith in
    rw e (sym (append_assoc (times xs j) (times xs k) xs) ∙ ap (λ l. l ++ xs) (times_append xs j k))

pub bytes_times : (xs : List ℕ) (n : ℕ) → ((k : ℕ) → get_or xs k 0 < 256) → (k : ℕ) → get_or (times xs n) k 0 < 256
unfolding times
bytes_times xs zero bytes k = omega arith
bytes_times xs (suc n) bytes k = bytes_append (times xs n) xs (bytes_times xs n bytes) bytes k

pub no_bytes : (xs : List ℕ) (n : ℕ) → length xs ≡ 0 → length (times xs n) ≡ 0
no_bytes xs n none = length_times xs n ∙ ap (λ l. n * l) none ∙ omega arith

-- nothing is put
pub queued_nothing : (q : Queue) (a : ℕ) (xs : List ℕ) → length xs ≡ 0 → queued_all q a xs ≡ q
unfolding queued_all
queued_nothing q a [] h = refl
queued_nothing q a (x ∷ xs) h = absurd (omega arith)

-- the same where some of the last bytes are past the end
queued_through_part : (q : Queue) (a : ℕ) (xs ys : List ℕ) (n : ℕ) → length q.entries ≤ 16 → n ≡ min (length (xs ++ ys)) (length q.below - a) → Apart q.entries a n ⊎ (48 ≤ n)
    → length xs + 16 ≤ n → ((k : ℕ) → get_or xs k 0 < 256) → ((k : ℕ) → get_or ys k 0 < 256)
    → queued_all (queue (overlaid (over q) a xs) []) (a + length xs) ys ≡ queued_all q a (xs ++ ys)
queued_through_part q a xs ys n few cut either many bytes bytes' =
    let b = a + length xs in
    let j = n - length xs in
    let below = queue (overlaid (over q) a xs) [] in
    let long : length below.below ≡ length q.below = length_overlaid (over q) a xs ∙ length_laid q.below q.entries in
    let both = length-append xs ys in
    let front : length (take j ys) ≡ j = omega (arith, length-take j ys) in
    let whole : n ≡ length (xs ++ take j ys) = omega (arith, length-append xs (take j ys)) in
    sym (queued_cut below b ys j (omega arith))
    ∙ queued_through q a xs (take j ys) few (omega arith) (subst (λ i. Apart q.entries a i ⊎ (48 ≤ i)) whole either) (omega arith) bytes (bytes_taken ys j bytes')
    ∙ queued_append q a xs (take j ys)
    ∙ queued_cut (queued_all q a xs) b ys j (omega (arith, length_queued_all q a xs))
    ∙ sym (queued_append q a xs ys)

module _ (q : Queue) (a : ℕ) (xs : List ℕ) (c n j k : ℕ) (cut : n ≡ min (c * length xs) (length q.below - a)) (up : n ≤ k * length xs) (near : k * length xs < n + length xs) where
  pixels_few : k ≤ c
  pixels_few = ⊎_elim (λ more. absurd (omega (arith, mul-le-mul_left (length xs) more))) (λ few. few) (cases_lt c k)

  -- pixels past the end are left out
  queued_begun : queued_all q a (times xs k) ≡ queued_all q a (times xs c)
  queued_begun =
      let e : k + (c - k) ≡ c = omega (arith, pixels_few) in
      let whole : times xs k ++ times xs (c - k) ≡ times xs c = times_append xs k (c - k) ∙ ap (times xs) e in
      ⊎_elim
      (λ within.
      let same : k ≡ c = ⊎_elim (λ less. absurd (omega (arith, mul-le-mul_left (length xs) less))) (λ not_less. omega (arith, pixels_few)) (cases_lt k c) in
      ap (λ i. queued_all q a (times xs i)) same)
      (λ past. sym (ap (queued_all q a) (sym whole) ∙ queued_front q a (times xs k) (times xs (c - k)) (omega (arith, length_times xs k))))
      (cases_lt (a + k * length xs) (length q.below))

  -- some pixels went below, after all that waited
  pub queued_pixels : (t : ℕ) → t ≡ through q.entries a n → j * length xs ≤ t → 0 < t → length q.entries ≤ 16 → ((i : ℕ) → get_or xs i 0 < 256)
      → queued_all (queue (overlaid (over q) a (times xs j)) []) (a + j * length xs) (times xs (k - j)) ≡ queued_all q a (times xs c)
  queued_pixels t is most some few bytes =
      let sent = some_through q.entries a n t is some in
      let fewer : j ≤ k = ⊎_elim (λ more. absurd (omega (arith, mul-le-mul_left (length xs) more, sent.1))) (λ less. less) (cases_lt k j) in
      let e : j + (k - j) ≡ k = omega (arith, fewer) in
      let whole : times xs j ++ times xs (k - j) ≡ times xs k = times_append xs j (k - j) ∙ ap (times xs) e in
      let front = length_times xs j in
      ap (λ i. queued_all (queue (overlaid (over q) a (times xs j)) []) (a + i) (times xs (k - j))) (sym front)
      ∙ queued_through_part q a (times xs j) (times xs (k - j)) n few
      (omega (arith, ap length whole, length_times xs k, mul-le-mul_left (length xs) pixels_few)) sent.0 (omega (arith, sent.1)) (bytes_times xs j bytes) (bytes_times xs (k - j) bytes)
      ∙ ap (queued_all q a) whole ∙ queued_begun

  -- none of them did
  pub queued_no_pixels : j ≡ 0 → queued_all q (a + j * length xs) (times xs (k - j)) ≡ queued_all q a (times xs c)
  queued_no_pixels none =
      let start : a + j * length xs ≡ a = omega (arith, ap (λ i. i * length xs) none) in
      let all : k - j ≡ k = omega arith in
      rw (start, all) queued_begun
