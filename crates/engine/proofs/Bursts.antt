-- Bytes that are taken together: those of whole pixels or of a unit, and parts of what the host sends.
use Rattle.std.proofs.Common.{◌≡◌, ℕ, zero, suc, ◌+◌, ◌-◌, ◌*◌, ◌<◌, ◌≤◌, Bool, true, false, ltb, List, [], ◌∷◌, ◌++◌, length, get_or, take, drop, sym, refl, ap, ◌∙◌, subst, add-zero, append_assoc, length-append, arith}
use Rattle.std.proofs.lemmas.Bool.{lt-ltb, le-ltb}
use Rattle.std.proofs.lemmas.Bool.Decides.{nat_tests}
use Rattle.std.proofs.lemmas.List.{drop_more, length-take-le, length-take, length-drop, take_rest}
use Rattle.std.proofs.Math.Seq.{take-add}
use Rattle.feeding.specs.Feeding.{all_fed, count_taken}
use Rattle.feeding.proofs.Feeding.{SoFar, in_parts, one_more, all_come, ended}
use Rattle.colour.specs.declared.Palette.{Palette}
use Rattle.window.specs.Places.{pixels}
use Rattle.window.specs.Values.{value_at}
use Rattle.source.specs.Origins.{host, awaited}
use Rattle.engine.specs.Painted.{Op, plotted, sent_drawn, painted}
use Rattle.engine.specs.Fed.{Stage, number, takes, takes_at, due, whole, byte_come, fed, bytes_taken, Feed}

-- the number of b bytes of a list is the value that they have there
pub number_at : (xs : List ℕ) (a b : ℕ) → a + b ≤ length xs → number (take b (drop a xs)) ≡ value_at xs a b
unfolding value_at
number_at xs a zero h = refl
number_at xs a (suc b) h = rw (drop_more xs a 0 (omega arith)) (ap (λ v. get_or xs a 0 + 256 * v) (number_at xs (a + 1) b (omega arith)))

-- bytes of which the first i have come
module _ {S : Type 0} (takes : S → Bool) (come : S → ℕ → S) where
  -- no more are taken than come
  taken_few : (s : S) (xs : List ℕ) → count_taken takes come s xs ≤ length xs
  taken_few s [] = omega arith
  taken_few s (x ∷ xs) = by (takes s) refl (taken_few (come s x) xs)
    where
      by : (b : Bool) → takes s ≡ b → count_taken takes come (come s x) xs ≤ length xs → count_taken takes come s (x ∷ xs) ≤ length (x ∷ xs)
      by true e few = rw e (omega arith)
      by false e few = rw e (omega arith)

  module _ {s t : S} {xs : List ℕ} {i : ℕ} (f : SoFar takes come s xs i t) where
    -- those that have come are some of them
    pub so_far_within : i ≤ length xs
    so_far_within = omega (arith, f.count, taken_few s (take i xs), length-take i xs)

    -- and then j of the others, all taken
    pub many_more : {j : ℕ} {u : S} → SoFar takes come t (drop i xs) j u → SoFar takes come s xs (i + j) u
    many_more {j} {u} g =
        let join = in_parts takes come s (take i xs) (take j (drop i xs)) in
        record {
          after = rw (take-add i j xs) (g.after ∙ ap (λ v. all_fed takes come v (take j (drop i xs))) f.after ∙ sym join.after);
          count = rw (take-add i j xs, join.taken, ← f.after, ← f.count, ← g.count) refl;
        }

    -- and then j of the slice of the others
    module _ {j : ℕ} {u : S} (g : SoFar takes come t (take (length xs - i) (drop i xs)) j u) where
      pub slice_more : SoFar takes come s xs (i + j) u
      slice_more = many_more (subst (λ ys. SoFar takes come t ys j u) (take_rest xs i) g)

      -- or, where j is none, the next byte alone
      pub one_instead : (v : S) → j ≡ 0 → i < length xs → true ≡ takes t → v ≡ come u (get_or xs i 0) → SoFar takes come s xs (i + 1) v
      one_instead v none h e q =
          let same : u ≡ t = g.after ∙ ap (λ n. all_fed takes come t (take n (take (length xs - i) (drop i xs)))) none in
          one_more takes come f v h e (q ∙ ap (λ w. come w (get_or xs i 0)) same)

-- the bytes xs are all taken, and lead from s to t
pub record AllTaken (o : Op) (p : Palette) (s : Stage) (xs : List ℕ) (t : Stage) : Type 0 where
  pub after : t ≡ fed o p s xs
  pub count : length xs ≡ bytes_taken o p s xs

module _ (o : Op) (p : Palette) where
  module _ {s t : Stage} {xs : List ℕ} {i : ℕ} (f : SoFar (takes_at o) (byte_come o p) s xs i t) where
    -- what has been fed where none are left
    pub feed_all : length xs ≤ i → Feed o p s xs t i (t.drawn - s.drawn)
    feed_all h =
        let all : length xs ≡ i = omega (arith, so_far_within (takes_at o) (byte_come o p) f) in
        let c = all_come (takes_at o) (byte_come o p) f all in
        record { after = c.0; taken_is = sym all ∙ c.1; drawn_is = refl }

    -- and where the next is not taken
    pub feed_stopped : takes o t.drawn ≡ false → Feed o p s xs t i (t.drawn - s.drawn)
    feed_stopped e = let c = ended (takes_at o) (byte_come o p) f (sym e) in record { after = c.0; taken_is = c.1; drawn_is = refl }

  -- the first i bytes that were fed, all of them taken, are what came so far; and the other way round
  pub feed_first : {s t : Stage} {xs : List ℕ} {i n : ℕ} → Feed o p s (take i xs) t i n → SoFar (takes_at o) (byte_come o p) s xs i t
  feed_first f = record { after = f.after; count = f.taken_is }

  pub feed_so_far : {s t : Stage} {xs : List ℕ} {i : ℕ} → SoFar (takes_at o) (byte_come o p) s xs i t → Feed o p s (take i xs) t i (t.drawn - s.drawn)
  feed_so_far f = record { after = f.after; taken_is = f.count; drawn_is = refl }

  -- the last bytes of a pixel or unit, behind those that wait
  last_taken : (s : Stage) (x : ℕ) (xs : List ℕ) → takes o s.drawn ≡ true → length s.waiting + suc (length xs) ≡ awaited o.first
      → AllTaken o p s (x ∷ xs) (whole o p s (number (s.waiting ++ x ∷ xs)))
  last_taken s x [] e all =
      let ws = s.waiting ++ x ∷ [] in
      let full : ltb (length ws) (awaited o.first) ≡ false = le-ltb _ _ (omega (arith, length-append s.waiting (x ∷ []))) in
      record { after = rw (e, full) refl; count = rw e refl }
  last_taken s x (y ∷ xs) e all =
      let ws = s.waiting ++ x ∷ [] in
      let long = length-append s.waiting (x ∷ []) in
      let more : ltb (length ws) (awaited o.first) ≡ true = lt-ltb _ _ (omega (arith, long)) in
      let rest = last_taken (record s { waiting = ws }) y xs e (omega (arith, long)) in
      record {
        after = rw (e, more) (ap (λ zs. whole o p s (number zs)) (sym (append_assoc s.waiting (x ∷ []) (y ∷ xs))) ∙ rest.after);
        count = rw (e, more) (omega (arith, rest.count));
      }

  -- the bytes that make a pixel or unit whole
  pub whole_taken : (s : Stage) (xs : List ℕ) → takes o s.drawn ≡ true → length s.waiting < awaited o.first → length s.waiting + length xs ≡ awaited o.first
      → AllTaken o p s xs (whole o p s (number (s.waiting ++ xs)))
  whole_taken s [] e few all = absurd (omega arith)
  whole_taken s (x ∷ xs) e few all = last_taken s x xs e all

  -- the bytes of a pixel or unit of which none waits
  pub unit_fed : (s : Stage) (unit : List ℕ) → takes o s.drawn ≡ true → s.waiting ≡ [] → length unit ≡ awaited o.first → AllTaken o p s unit (whole o p s (number unit))
  unit_fed s unit e none all =
      let P : List ℕ → Type 0 = λ ws. AllTaken o p s unit (whole o p s (number (ws ++ unit))) in
      let no_bytes : length s.waiting ≡ 0 = ap length none in
      let some : 0 < awaited o.first = grind (arith, nat_tests) in
      subst P none (whole_taken s unit e (omega arith) (omega arith))

  -- and the same at the start of others
  pub unit_so_far : (s : Stage) (xs : List ℕ) (b : ℕ) → takes o s.drawn ≡ true → s.waiting ≡ [] → awaited o.first ≡ b → b ≤ length xs
      → SoFar (takes_at o) (byte_come o p) s xs b (whole o p s (number (take b xs)))
  unit_so_far s xs b e none awaits long =
      let size = length-take-le b xs long in
      let all = unit_fed s (take b xs) e none (size ∙ sym awaits) in
      record { after = all.after; count = sym size ∙ all.count }

-- whole pixels, each of b bytes of xs, from the first on
module _ (o : Op) (p : Palette) (b first : ℕ) (m xs : List ℕ) where
  -- the stage after n of them
  abbrev pub after_pixels : ℕ → Stage
  after_pixels n = record { memory = painted (sent_drawn o p b first xs) first n m; drawn = first + n; waiting = [] }

  module _ (sends : o.first ≡ host b) (some : 1 ≤ b) where
    -- the pixel after n of them is drawn of the bytes after theirs
    next_pixel : (n : ℕ) → suc n * b ≤ length xs → suc n ≤ pixels o.target - first
        → after_pixels (suc n) ≡ whole o p (after_pixels n) (number (take b (drop (n * b) xs)))
    unfolding painted
    next_pixel n long few =
        let k = first + n in
        let now = painted (sent_drawn o p b first xs) first n m in
        let v = number (take b (drop (n * b) xs)) in
        let one : due o k ≡ 1 = rw sends (omega arith) in
        let place : n ≡ k - first = omega arith in
        let value : v ≡ value_at xs ((k - first) * b) b = number_at xs (n * b) b (omega arith) ∙ ap (λ i. value_at xs (i * b) b) place in
        let drawn : plotted o p v (k + 0) now ≡ sent_drawn o p b first xs k now = ap (λ i. plotted o p v i now) (add-zero k) ∙ ap (λ w. plotted o p w k now) value in
        let count : first + suc n ≡ k + 1 = omega arith in
        rw (one, drawn, count) refl

    -- and those are all taken
    next_taken : (n : ℕ) → suc n * b ≤ length xs → suc n ≤ pixels o.target - first
        → SoFar (takes_at o) (byte_come o p) (after_pixels n) (drop (n * b) xs) b (after_pixels (suc n))
    next_taken n long few =
        let more : takes o (first + n) ≡ true = rw sends (grind (arith, nat_tests)) in
        rw (next_pixel n long few)
        (unit_so_far o p (after_pixels n) (drop (n * b) xs) b more refl (ap awaited sends) (omega (arith, length-drop (n * b) xs)))

    -- the bytes of n pixels that are left draw them, where no byte waited
    pub pixels_so_far : (n : ℕ) → n * b ≤ length xs → n ≤ pixels o.target - first
        → SoFar (takes_at o) (byte_come o p) (record { memory = m; drawn = first; waiting = [] }) xs (n * b) (after_pixels n)
    unfolding painted
    pixels_so_far zero long few =
        let none : 0 * b ≡ 0 = omega arith in
        rw (none, add-zero first) (record { after = refl; count = refl })
    pixels_so_far (suc n) long few =
        let so_far = pixels_so_far n (omega arith) (omega arith) in
        let is : n * b + b ≡ suc n * b = omega arith in
        subst (λ i. SoFar (takes_at o) (byte_come o p) (record { memory = m; drawn = first; waiting = [] }) xs i (after_pixels (suc n))) is
        (many_more (takes_at o) (byte_come o p) so_far (next_taken n long few))

-- n pixels that are left, drawn by their bytes at the start of xs: just these were fed
pub pixels_drawn : (o : Op) (p : Palette) (b : ℕ) → o.first ≡ host b → 1 ≤ b → {ws : List ℕ} → ws ≡ [] → {k : ℕ} {m t : List ℕ} (xs : List ℕ) (n : ℕ)
    → n * b ≤ length xs → n ≤ pixels o.target - k → t ≡ painted (sent_drawn o p b k xs) k n m
    → Feed o p (record { memory = m; drawn = k; waiting = ws }) (take (n * b) xs) (record { memory = t; drawn = k + n; waiting = ws }) (n * b) (k + n - k)
pixels_drawn o p b sends some none {k} {m} {t} xs n long few is =
    rw (none, is) (feed_so_far o p (pixels_so_far o p b k m xs sends some n long few))
