-- Bytes that are taken one after another, and a loop that takes them.
use Rattle.std.proofs.Common.{◌≡◌, ℕ, ◌+◌, ◌<◌, Bool, true, false, List, [], ◌∷◌, ◌++◌, length, get_or, take, drop, sym, refl, ◌∙◌, arith}
use Rattle.std.proofs.lemmas.List.{take-append-drop, take_more, take_all}
use Rattle.std.proofs.lemmas.List.Sums.{fold-append, fold_more}
use Rattle.std.proofs.lemmas.List.Folds.{fold_stays}
use Rattle.feeding.specs.Feeding.{one_fed, all_fed, count_taken, InParts}

module _ {S : Type 0} (takes : S → Bool) (come : S → ℕ → S) where
  -- once the test fails the state stays, and nothing is taken
  pub fed_ended : (s : S) (xs : List ℕ) → takes s ≡ false → all_fed takes come s xs ≡ s
  fed_ended s xs e = fold_stays (one_fed takes come) s (λ b. rw e) xs

  pub taken_ended : (s : S) (xs : List ℕ) → takes s ≡ false → count_taken takes come s xs ≡ 0
  taken_ended s [] e = refl
  taken_ended s (x ∷ xs) e = rw e

  taken_append : (s : S) (xs ys : List ℕ)
      → count_taken takes come s (xs ++ ys) ≡ count_taken takes come s xs + count_taken takes come (all_fed takes come s xs) ys
  taken_append s [] ys = omega arith
  taken_append s (x ∷ xs) ys = by (takes s) refl (taken_append (come s x) xs ys)
    where
      by : (b : Bool) → takes s ≡ b
          → count_taken takes come (come s x) (xs ++ ys)
          ≡ count_taken takes come (come s x) xs + count_taken takes come (all_fed takes come (come s x) xs) ys
          → count_taken takes come s (x ∷ (xs ++ ys)) ≡ count_taken takes come s (x ∷ xs) + count_taken takes come (all_fed takes come s (x ∷ xs)) ys
      by true e rest = rw e (omega (arith, rest))
      by false e _ = rw (fed_ended s (x ∷ xs) e, taken_ended s (x ∷ xs) e, taken_ended s ys e) (taken_ended s (x ∷ (xs ++ ys)) e)

  pub in_parts : InParts takes come
  in_parts s xs ys = record { after = fold-append (one_fed takes come) s xs ys; taken = taken_append s xs ys }

-- so far the first i of xs have come, and all were taken
pub record SoFar {S : Type 0} (takes : S → Bool) (come : S → ℕ → S) (s : S) (xs : List ℕ) (i : ℕ) (t : S) : Type 0 where
  pub after : t ≡ all_fed takes come s (take i xs)
  pub count : i ≡ count_taken takes come s (take i xs)

module _ {S : Type 0} (takes : S → Bool) (come : S → ℕ → S) {s t : S} {xs : List ℕ} {i : ℕ} (f : SoFar takes come s xs i t) where
  pub one_more : (t' : S) → i < length xs → true ≡ takes t → t' ≡ come t (get_or xs i 0) → SoFar takes come s xs (i + 1) t'
  one_more t' h e q =
      let x = get_or xs i 0 in
      let fed_x : one_fed takes come t x ≡ t' = rw (← e, q) in
      let one : count_taken takes come t (x ∷ []) ≡ 1 = rw (← e) in
      record {
        after = rw (fold_more (one_fed takes come) s xs i 0 h, ← f.after, fed_x);
        count = rw (take_more xs i 0 h, taken_append takes come s (take i xs) (x ∷ []), ← f.after, one, ← f.count);
      }

  pub all_come : length xs ≡ i → (t ≡ all_fed takes come s xs) × (length xs ≡ count_taken takes come s xs)
  all_come h = let all : take i xs ≡ xs = take_all i xs (omega arith) in (rw all at f.after, h ∙ rw all at f.count)

  pub ended : false ≡ takes t → (t ≡ all_fed takes come s xs) × (i ≡ count_taken takes come s xs)
  ended e =
      let join = in_parts takes come s (take i xs) (drop i xs) in
      let after = rw (take-append-drop i xs, ← f.after, fed_ended takes come t (drop i xs) (sym e)) at join.after in
      let taken = rw (take-append-drop i xs, ← f.after, ← f.count, taken_ended takes come t (drop i xs) (sym e)) at join.taken in
      (sym after, omega (arith, taken))
