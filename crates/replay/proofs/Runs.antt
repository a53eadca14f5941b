-- Two runs, one after the other, are one run of the sum.
use Rattle.std.proofs.Common.{◌≡◌, ℕ, ◌+◌, min, Bool, true, false, eqb, ltb, leb, List, length, refl, add-zero, add_assoc, arith}
use Rattle.std.proofs.lemmas.Bool.{and_parts}
use Rattle.std.proofs.lemmas.Bool.Decides.{nat_tests}
use Rattle.std.specs.Result.{result_unwrap_or}
use Rattle.colour.specs.declared.Palette.{Palette}
use Rattle.window.specs.Places.{pixels}
use Rattle.source.specs.Origins.{awaited}
use Rattle.engine.specs.Painted.{painted}
use Rattle.engine.specs.Fed.{Stage}
use Rattle.engine.proofs.Orders.{cut}
use Rattle.engine.proofs.Laws.{painted_length}
use Rattle.job.specs.Plans.{op_at}
use Rattle.job.specs.Works.{Work, serves, runs, left, stage_of, at_stage, run_stage}
use Rattle.panel.specs.declared.activity.Activity.{Activity}
use Rattle.panel.specs.declared.activity.Activity.TheVariants.{Idle, Drawing, Awaiting, PaletteLoad}
use Rattle.panel.specs.State.{State, run_answer, run_after, still_drawing}
use Rattle.replay.proofs.Parts.{Join, Follows, join, declined_join}

abbrev pub run_act : State → ℕ → State
run_act s n = run_after s s.doing n

abbrev pub run_count : State → ℕ → ℕ
run_count s n = result_unwrap_or (run_answer s s.doing n) 0

-- m and then n come to m + n
abbrev pub RunsJoin : State → ℕ → ℕ → Type 0
RunsJoin = Join ◌+◌ ◌+◌ run_act run_count

declined : (s : State) → ((n : ℕ) → run_act s n ≡ s) → ((n : ℕ) → run_count s n ≡ 0) → (m n : ℕ) → RunsJoin s m n
declined = declined_join ◌+◌ ◌+◌ run_act run_count 0 refl

module _ (w : Work) (regs : List ℕ) (p : Palette) where
  abbrev pub mk : Stage → State
  mk x = record { memory = x.memory; registers = regs; palette = p; doing = still_drawing (at_stage w x) }

  abbrev pub go : Stage → ℕ → Stage
  go x n = run_stage (at_stage w x) p x.memory n

  abbrev amount : Stage → ℕ → ℕ
  amount x n = min n (left (at_stage w x))

  abbrev RunFollows : State → Stage → Type 0
  RunFollows = Follows ◌+◌ ◌+◌ run_act run_count mk go amount

  -- the memory is large enough, and memory serves the operation
  abbrev pub Good : Stage → Type 0
  Good x = (leb w.size (length x.memory) ≡ true) × (eqb (awaited w.plan.first) 0 ≡ true)

  keeps : (x : Stage) (n : ℕ) → Good x → Good (go x n)
  keeps x n g = (rw (painted_length (op_at w.plan) p 0 x.drawn (amount x n) x.memory, g.0), g.1)

  -- past the last pixel a run draws nothing
  none_left : (x : Stage) (n : ℕ) → Good x → runs (at_stage w x) ≡ false → amount x n ≡ 0
  none_left x n g e = let few : ltb x.drawn (pixels w.plan.target) ≡ false = rw g.1 at e in grind (arith, nat_tests)

  follows : (x : Stage) → Good x → RunFollows (mk x) x
  unfolding painted
  follows x g = by (runs (at_stage w x)) refl
    where
      by : (b : Bool) → runs (at_stage w x) ≡ b → RunFollows (mk x) x
      by true e = record { after = λ _. rw (e, e, g.0); counted = λ _. rw (e, e, g.0) }
      by false e = record { after = λ n. rw (none_left x n g e, add-zero x.drawn, e); counted = λ n. rw (none_left x n g e, e) }

  pub acts : (x : Stage) (n : ℕ) → Good x → run_act (mk x) n ≡ mk (go x n)
  acts x n g = (follows x g).after n

  joins : (x : Stage) (m n : ℕ) → go x (m + n) ≡ go (go x m) n
  joins x m n =
      let sum : amount x (m + n) ≡ amount x m + amount (go x m) n = omega arith in
      rw (sum, cut, ← add_assoc)

  drawing_join : (x : Stage) → Good x → (m n : ℕ) → RunsJoin (mk x) m n
  drawing_join x g m n =
      join ◌+◌ ◌+◌ run_act run_count mk go amount (mk x) x (follows x g) (λ k. follows (go x k) (keeps x k g)) m n (joins x m n) (omega arith)

-- a state, by what is under way
module _ (mem regs : List ℕ) (p : Palette) where
  abbrev at : Activity → State
  at d = record { memory = mem; registers = regs; palette = p; doing = d }

  join_at : (d : Activity) (m n : ℕ) → RunsJoin (at d) m n
  join_at Idle = declined (at Idle) (λ _. refl) (λ _. refl)
  join_at (Awaiting w) = declined (at (Awaiting w)) (λ _. refl) (λ _. refl)
  join_at (PaletteLoad l) = declined (at (PaletteLoad l)) (λ _. refl) (λ _. refl)
  join_at (Drawing w) = by (serves w mem) (runs w) refl refl
    where
      by : (b c : Bool) → serves w mem ≡ b → runs w ≡ c → (m n : ℕ) → RunsJoin (at (Drawing w)) m n
      by true true e f =
          let begun : mk w regs p (stage_of w mem) ≡ at (Drawing w) = rw f in
          let served = (and_parts (eqb (awaited w.plan.first) 0) (ltb w.drawn (pixels w.plan.target)) f).0 in
          rw (← begun) (drawing_join w regs p (stage_of w mem) (e, served))
      by true false e f = declined (at (Drawing w)) (λ _. rw (e, f)) (λ _. rw (e, f))
      by false c e f = declined (at (Drawing w)) (λ _. rw e) (λ _. rw e)

pub runs_join : (s : State) (m n : ℕ) → RunsJoin s m n
runs_join s = join_at s.memory s.registers s.palette s.doing
