-- What clearing gave.
use Rattle.std.proofs.Common.{◌≡◌, ℕ, Bool, true, false, not, leb, List, map, length, is_some, Some, None, Option, refl, ap, ◌∙◌, arith}
use Rattle.std.proofs.lemmas.Bool.Decides.{nat_tests}
use Rattle.colour.specs.declared.Palette.{Palette}
use Rattle.window.specs.Places.{pixels}
use Rattle.complete.specs.declared.part.Part.{Part}
use Rattle.complete.specs.Parts.{portion_of, parted}
use Rattle.complete.specs.Complete.{DrawnBy}
use Rattle.complete.proofs.Completing.{drawn_accepted, drawn_declined}
use Rattle.job.specs.declared.settings.Settings.{Settings}
use Rattle.job.specs.Plans.{plan_at, op_at}
use Rattle.job.specs.Grounds.{grounds}
use Rattle.job.specs.Works.{Work, cleared, declined, judged, clearing, fresh_work, serves, stage_of}
use Rattle.complete_jobs.specs.Ways.{way_of}
use Rattle.complete_jobs.proofs.Accepting.{accepted_settings}

judged_cleared : (s : Settings) (size : ℕ) (o : Option ℕ) (w : Work) → cleared w ≡ judged s size o → (o ≡ None) × (w ≡ fresh_work (plan_at s) size)
judged_cleared s size None w e = (refl, cc)
judged_cleared s size (Some n) w e = cc

judged_declined : (s t : Settings) (size n : ℕ) (o : Option ℕ) → declined t n ≡ judged s size o → not (is_some o) ≡ false
judged_declined s t size n None e = cc
judged_declined s t size n (Some k) e = refl

module _ (s : Settings) (m : List ℕ) where
  module _ (w : Work) (e : cleared w ≡ clearing s (length m)) where
    pub fresh : (grounds s (length m) ≡ None) × (w ≡ fresh_work (plan_at s) (length m))
    fresh = judged_cleared s (length m) (grounds s (length m)) w e

    -- the memory that a job was cleared for serves it
    pub serves_fresh : serves w m ≡ true
    serves_fresh = rw fresh.1 (grind (arith, nat_tests))

  module _ (p : Palette) (ps : List Part) (n : List ℕ) (complete : Bool) where
    pub drawn_refused : (t : Settings) (k : ℕ) → declined t k ≡ clearing s (length m) → n ≡ m → complete ≡ false → DrawnBy (way_of s p ps) m n complete
    drawn_refused t k e same none =
        rw (same, none) (drawn_declined (way_of s p ps) m (judged_declined s t (length m) k (grounds s (length m)) e))

    pub drawn_job : (w : Work) → cleared w ≡ clearing s (length m)
        → n ≡ (parted (op_at w.plan) p (stage_of w m) (map portion_of ps)).memory
        → complete ≡ leb (pixels w.plan.target) (parted (op_at w.plan) p (stage_of w m) (map portion_of ps)).drawn
        → DrawnBy (way_of s p ps) m n complete
    drawn_job w e memory ended =
        let v = way_of s p ps in
        let is = fresh w e in
        let t = parted (op_at w.plan) p (stage_of w m) v.portions in
        drawn_accepted v m (ap (λ o. not (is_some o)) is.0) (accepted_settings s (length m) is.0) n t.drawn t.waiting
        (ap (λ x. record { memory = x; drawn = t.drawn; waiting = t.waiting }) memory ∙ ap (λ x. parted (op_at x.plan) p (stage_of x m) v.portions) is.1)
        complete (ended ∙ ap (λ x. leb (pixels x.plan.target) t.drawn) is.1)
