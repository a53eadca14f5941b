-- Lists of calls that are alike but for the cuts, and what of their answers agrees.
use Rattle.std.specs.Prelude.{◌≡◌, ℕ, ◌+◌, List, [], ◌∷◌, ◌++◌}
use Rattle.std.specs.Result.{result_unwrap_or}
use Rattle.panel_calls.specs.Calls.{Call, burst, run}
use Rattle.panel_calls.specs.Replies.{Reply}
use Rattle.panel_calls.specs.Replies as reply
use Rattle.panel.specs.State.{State}

-- a call before a list of calls: a burst joins a burst that stands first, and a run joins a run
abbrev pub before : Call → List Call → List Call
before (burst xs) (burst ys ∷ cs) = burst (xs ++ ys) ∷ cs
before (run m) (run n ∷ cs) = run (m + n) ∷ cs
before c cs = c ∷ cs

-- each group of neighbouring bursts joined into one burst of their bytes in order, and each group of neighbouring runs
-- into one run of the sum
abbrev pub joined : List Call → List Call
joined [] = []
joined (c ∷ cs) = before c (joined cs)

-- what answers come to: for each group of bursts the bytes taken and the pixels drawn in all, for each group of runs
-- the pixels drawn in all, and any other answer itself
pub data Total : Type 0 where
  bursts : ℕ × ℕ → Total
  runs : ℕ → Total
  other : Reply → Total

-- a declined call adds nothing
abbrev pub total : Reply → Total
total (reply.burst r) = bursts (result_unwrap_or r (0, 0))
total (reply.run r) = runs (result_unwrap_or r 0)
total r = other r

abbrev pub both_sums : ℕ × ℕ → ℕ × ℕ → ℕ × ℕ
both_sums a b = (a.0 + b.0, a.1 + b.1)

-- added to the group that stands first, if it is one of the same sort
abbrev pub add : Total → List Total → List Total
add (bursts a) (bursts b ∷ ts) = bursts (both_sums a b) ∷ ts
add (runs m) (runs n ∷ ts) = runs (m + n) ∷ ts
add t ts = t ∷ ts

abbrev pub totals : List Reply → List Total
totals [] = []
totals (r ∷ rs) = add (total r) (totals rs)

-- two replays agree: every other call got the same answer, each group has the same totals, and both end
-- in one state: memory, registers, palette, and what is under way with the bytes that wait
pub record Agree (rs qs : List Reply) (s t : State) : Type 0 where
  pub answers : totals rs ≡ totals qs
  pub state : s ≡ t
