-- An operation under way on a panel: its bursts and runs are the parts of a drawing.
use Rattle.std.proofs.Common.{◌≡◌, ℕ, ◌<◌, true, cond, not, leb, List, [], ◌∷◌, refl, ap, ◌∙◌, arith}
use Rattle.std.proofs.lemmas.Bool.Decides.{nat_tests}
use Rattle.std.proofs.lemmas.List.Folds.{fold_along}
use Rattle.colour.specs.declared.Palette.{Palette}
use Rattle.window.specs.Places.{pixels}
use Rattle.engine.specs.Fed.{Stage}
use Rattle.complete.specs.Parts.{Portion, feed, run, stepped, parted}
use Rattle.complete.proofs.Framing.{parted_only}
use Rattle.job.specs.Plans.{op_at}
use Rattle.job.specs.Works as job
use Rattle.job.specs.Works.{Work, serves, awaits, runs, at_stage, feed_after}
use Rattle.complete_jobs.proofs.Stepping.{feed_steps, run_steps}
use Rattle.panel.specs.declared.activity.Activity.{Activity}
use Rattle.panel.specs.declared.activity.Activity.TheVariants.{Idle, Drawing, Awaiting}
use Rattle.panel.specs.State.{State, busy, under_way, burst_after, run_after}
use Rattle.complete_panels.specs.Plays.{played, all_played}

-- what is under way at a stage: bytes are awaited, or runs draw, or it has ended
abbrev pub doing_at : Work → Activity
doing_at w = cond (awaits w) (Awaiting w) (cond (runs w) (Drawing w) Idle)

module _ (w : Work) (regs : List ℕ) (p : Palette) where
  -- the panel at a stage
  abbrev pub panel_at : Stage → State
  panel_at x = record { memory = x.memory; registers = regs; palette = p; doing = doing_at (at_stage w x) }

  module _ (x : Stage) (fits : serves w x.memory ≡ true) where
    abbrev now : Work
    now = at_stage w x

    -- a burst feeds and a run runs, declined ones too
    burst_feeds : (xs : List ℕ) → burst_after (panel_at x) (doing_at now) xs ≡ panel_at (feed_after now p x.memory xs)
    burst_feeds xs = grind (arith, nat_tests)

    run_draws : (n : ℕ) → run_after (panel_at x) (doing_at now) n ≡ panel_at (job.run_after now p x.memory n)
    run_draws n = grind (arith, nat_tests)

    plays : (q : Portion) → played (panel_at x) q ≡ panel_at (stepped (op_at w.plan) p x q)
    plays (feed xs) = burst_feeds xs ∙ ap panel_at (feed_steps now p x.memory fits xs)
    plays (run n) = run_draws n ∙ ap panel_at (run_steps now p x.memory fits n)

  -- memory stays as long as it is, so it serves the operation to its end
  pub all_plays : (x : Stage) (qs : List Portion) → serves w x.memory ≡ true → all_played (panel_at x) qs ≡ panel_at (parted (op_at w.plan) p x qs)
  all_plays x qs fits =
      let At : State → Stage → Type 0 = λ s y. (s ≡ panel_at y) × (serves w y.memory ≡ true) in
      (fold_along played (stepped (op_at w.plan) p) At
      (λ s y q at. (ap (λ t. played t q) at.0 ∙ plays y at.1 q, ap (leb w.size) (parted_only (op_at w.plan) p y (q ∷ [])).size ∙ at.1))
      (panel_at x) x qs (refl, fits)).0

-- nothing is under way exactly when all pixels are drawn
pub over_is : (w : Work) → not (busy (doing_at w)) ≡ leb (pixels w.plan.target) w.drawn
over_is w = grind (arith, nat_tests)

-- what was begun and has a pixel to draw is under way
pub begun_doing : (w : Work) → w.drawn < pixels w.plan.target → under_way w ≡ doing_at w
begun_doing w h = grind (arith, nat_tests)
