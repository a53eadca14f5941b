-- An operation on a panel that is idle, from its start to its last part.
use Rattle.std.proofs.Common.{◌≡◌, ℕ, ◌<◌, Bool, true, false, cond, not, ◌&&◌, List, map, length, is_ok, Some, None, Option, Result, sym, refl, ap, ◌∙◌, mul-pos}
use Rattle.window.specs.Places.{pixels}
use Rattle.complete.specs.declared.part.Part.{Part}
use Rattle.complete.specs.Parts.{portion_of, parted}
use Rattle.complete.specs.Complete.{DrawnBy}
use Rattle.job.specs.declared.settings.Settings.{Settings}
use Rattle.job.specs.Plans.{plan_at, op_at}
use Rattle.job.specs.Grounds.{grounds}
use Rattle.job.specs.Works.{judged, fresh_work, stage_of, at_stage}
use Rattle.complete_jobs.proofs.Accepting.{accepted_settings}
use Rattle.complete_jobs.proofs.Clearing.{drawn_refused, drawn_job, serves_fresh}
use Rattle.panel.specs.Registers.{settings_of}
use Rattle.panel.specs.declared.activity.Activity.TheVariants.{Idle}
use Rattle.panel.specs.State.{State, busy, written, after_of, with_register, with_doing, started, started_in}
use Rattle.complete_panels.specs.Settings.{control_value, way_on}
use Rattle.complete_panels.specs.Plays.{all_played, performed, finished}
use Rattle.complete_panels.proofs.Playing.{panel_at, all_plays, over_is, begun_doing}

module _ (s : State) (idle : s.doing ≡ Idle) where
  -- a write of 90h that starts
  starts : (large : Bool) → written s 144 (control_value large) ≡ started s 144 (control_value large)
  starts true = rw idle
  starts false = rw idle

  module _ (large : Bool) (ps : List Part) where
    abbrev set_up : Settings
    set_up = settings_of s.registers (control_value large)

    abbrev stored : State
    stored = with_register s 144 (control_value large)

    -- what the answer of the start leads to, and whether all has ended then
    abbrev then : Result State ℕ → State
    then x = cond (is_ok x) (all_played (after_of s x) (map portion_of ps)) s

    abbrev over : Result State ℕ → Bool
    over x = is_ok x && not (busy (then x).doing)

    pub performs : (t : State) (complete : Bool) → t ≡ performed s large (map portion_of ps)
        → complete ≡ finished s large (map portion_of ps)
        → DrawnBy (way_on s large ps) s.memory t.memory complete
    performs t complete after ended = by (grounds set_up (length s.memory)) refl
      where
        judged_so : (o : Option ℕ) → grounds set_up (length s.memory) ≡ o
            → written s 144 (control_value large) ≡ started_in stored (judged set_up (length s.memory) o)
        judged_so o e = starts large ∙ ap (λ x. started_in stored (judged set_up (length s.memory) x)) e

        by : (o : Option ℕ) → grounds set_up (length s.memory) ≡ o → DrawnBy (way_on s large ps) s.memory t.memory complete
        by (Some k) e =
            let answer = judged_so (Some k) e in
            drawn_refused set_up s.memory s.palette ps t.memory complete set_up k (ap (judged set_up (length s.memory)) (sym e))
            (ap (λ u. u.memory) (after ∙ ap then answer)) (ended ∙ ap over answer)
        by None e =
            let w = fresh_work (plan_at set_up) (length s.memory) in
            let a = accepted_settings set_up (length s.memory) e in
            let some : 0 < pixels w.plan.target = mul-pos a.across a.down in
            let answer = judged_so None e in
            let cleared_so = ap (judged set_up (length s.memory)) (sym e) in
            let x = parted (op_at w.plan) s.palette (stage_of w s.memory) (map portion_of ps) in
            let end : then (started_in stored (judged set_up (length s.memory) None)) ≡ panel_at w stored.registers s.palette x =
            ap (λ d. all_played (with_doing stored d) (map portion_of ps)) (begun_doing w some)
            ∙ all_plays w stored.registers s.palette (stage_of w s.memory) (map portion_of ps) (serves_fresh set_up s.memory w cleared_so) in
            drawn_job set_up s.memory s.palette ps t.memory complete w cleared_so
            (ap (λ u. u.memory) (after ∙ ap then answer ∙ end))
            (ended ∙ ap over answer ∙ ap (λ u. not (busy u.doing)) end ∙ over_is (at_stage w x))
