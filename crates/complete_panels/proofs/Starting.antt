-- What a start answers and leaves.
use Rattle.std.proofs.Common.{◌≡◌, ℕ, Bool, false, cond, List, is_ok, Ok, Err, Result, refl}
use Rattle.refusal.specs.declared.Refusal.{Refusal}
use Rattle.refusal.specs.Numbers.{numbered}
use Rattle.complete.specs.Parts.{Portion}
use Rattle.panel.specs.State.{State, answer_of, after_of, written}
use Rattle.complete_panels.specs.Settings.{control_value}
use Rattle.complete_panels.specs.Plays.{left_by_write, all_played, performed}

-- a call succeeds where its answer in plain values does
pub accepted : (r : Result Unit Refusal) (x : Result State ℕ) → numbered r ≡ answer_of x → is_ok r ≡ is_ok x
accepted (Ok u) (Ok t) e = refl
accepted (Ok u) (Err n) e = cc
accepted (Err d) (Ok t) e = cc
accepted (Err d) (Err n) e = refl

-- a start that is declined is all that happens
pub declined : (s : State) (large : Bool) (qs : List Portion) → false ≡ is_ok (written s 144 (control_value large))
    → left_by_write s 144 (control_value large) ≡ performed s large qs
declined s large qs = by (written s 144 (control_value large))
  where
    by : (x : Result State ℕ) → false ≡ is_ok x → after_of s x ≡ cond (is_ok x) (all_played (after_of s x) qs) s
    by (Ok t) e = cc
    by (Err n) e = refl
