-- Bytes that are taken one after another while a test holds.
use Rattle.std.specs.Prelude.{◌≡◌, ℕ, ◌+◌, Bool, cond, List, [], ◌∷◌, ◌++◌}
use Rattle.std.specs.List.{fold}

module _ {S : Type 0} (takes : S → Bool) (come : S → ℕ → S) where
  -- one byte more; where the test fails, it is not taken
  abbrev pub one_fed : S → ℕ → S
  one_fed s b = cond (takes s) (come s b) s

  -- bytes, one after another
  abbrev pub all_fed : S → List ℕ → S
  all_fed s xs = fold one_fed s xs

  -- how many of them are taken
  abbrev pub count_taken : S → List ℕ → ℕ
  count_taken s [] = 0
  count_taken s (b ∷ bs) = cond (takes s) (1 + count_taken (come s b) bs) 0

  -- bytes may come in parts: xs and then ys have the effect of both together, and as many of them are taken
  pub record Join (s : S) (xs ys : List ℕ) : Type 0 where
    pub after : all_fed s (xs ++ ys) ≡ all_fed (all_fed s xs) ys
    pub taken : count_taken s (xs ++ ys) ≡ count_taken s xs + count_taken (all_fed s xs) ys

  abbrev pub InParts : Type 0
  InParts = (s : S) (xs ys : List ℕ) → Join s xs ys
