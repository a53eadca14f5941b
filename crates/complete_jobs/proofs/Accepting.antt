-- What has passed the tests of a start is accepted.
use Rattle.std.proofs.Common.{◌≡◌, ℕ, Bool, true, ◌&&◌, None, arith}
use Rattle.window.proofs.Limits.{limits}
use Rattle.complete.specs.Complete.{Accepted}
use Rattle.complete.proofs.Completing.{accepted_inside}
use Rattle.job.specs.declared.settings.Settings.{Settings}
use Rattle.job.specs.Operations.{first_kind, uses_second}
use Rattle.job.specs.Plans.{plan_at, op_at}
use Rattle.job.specs.Grounds.{first_limited, second_limited, grounds}
use Rattle.job.proofs.Starts.{limited_none, inside_none}

third_passed : (a b c : Bool) → (a && (b && c)) ≡ true → c ≡ true
third_passed a b c e = grind arith

pub accepted_settings : (s : Settings) (size : ℕ) → grounds s size ≡ None → Accepted (op_at (plan_at s)) size
accepted_settings s size e =
    let n = s.operation in
    let l = limits (plan_at s).target (third_passed (first_limited s (first_kind n)) (second_limited s (uses_second n)) _ (limited_none s size e)) in
    accepted_inside (op_at (plan_at s)) size l.width_some l.height_some l.inside (inside_none s size e)
