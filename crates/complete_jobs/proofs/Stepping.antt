-- A job's calls as the parts of a drawing.
use Rattle.std.proofs.Common.{◌≡◌, ℕ, Bool, true, false, cond, ltb, List, sym, refl, ap, ◌∙◌, add-zero, arith}
use Rattle.std.proofs.lemmas.Bool.{ltb-false}
use Rattle.feeding.proofs.Feeding.{fed_ended}
use Rattle.colour.specs.declared.Palette.{Palette}
use Rattle.window.specs.Places.{pixels}
use Rattle.engine.specs.Painted.{Op, painted}
use Rattle.engine.specs.Fed.{Stage, takes_at, byte_come, fed}
use Rattle.complete.specs.Parts.{feed, run, by_memory, advanced, allowed, stepped}
use Rattle.job.specs.Plans.{op_at}
use Rattle.job.specs.Works.{Work, serves, awaits, stage_of, feed_after, run_after}

-- past the last pixel an allowance draws nothing
pub advanced_none : (o : Op) (p : Palette) (s : Stage) → advanced o p s 0 ≡ s
unfolding painted
advanced_none o p s = ap (λ d. record { memory = s.memory; drawn = d; waiting = s.waiting }) (add-zero s.drawn)

module _ (w : Work) (p : Palette) (m : List ℕ) (fits : serves w m ≡ true) where
  -- a feed, a declined one too
  pub feed_steps : (xs : List ℕ) → feed_after w p m xs ≡ stepped (op_at w.plan) p (stage_of w m) (feed xs)
  feed_steps xs = by (awaits w) refl
    where
      by : (b : Bool) → awaits w ≡ b → feed_after w p m xs ≡ fed (op_at w.plan) p (stage_of w m) xs
      by true e = rw (fits, e)
      by false e = rw (fits, e) (sym (fed_ended (takes_at (op_at w.plan)) (byte_come (op_at w.plan) p) (stage_of w m) xs e))

  -- a run, a declined one too
  pub run_steps : (n : ℕ) → run_after w p m n ≡ stepped (op_at w.plan) p (stage_of w m) (run n)
  run_steps n = by (by_memory (op_at w.plan)) (ltb w.drawn (pixels w.plan.target)) refl refl
    where
      by : (b c : Bool) → by_memory (op_at w.plan) ≡ b → ltb w.drawn (pixels w.plan.target) ≡ c
          → run_after w p m n ≡ cond (by_memory (op_at w.plan)) (advanced (op_at w.plan) p (stage_of w m) (allowed (op_at w.plan) (stage_of w m) n)) (stage_of w m)
      by true true e f = rw (fits, e, f)
      by true false e f =
          let past = ltb-false w.drawn (pixels w.plan.target) f in
          let none : allowed (op_at w.plan) (stage_of w m) n ≡ 0 = omega arith in
          rw (fits, e, f) (sym (ap (advanced (op_at w.plan) p (stage_of w m)) none ∙ advanced_none (op_at w.plan) p (stage_of w m)))
      by false c e f = rw (fits, e)
