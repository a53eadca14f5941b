-- Settings of an exclusive or give an operation that is one.
use Rattle.std.proofs.Common.{◌≡◌, ℕ, ◌≤◌, Bool, true, false, ◌||◌, List, sym, ap, subst, arith}
use Rattle.std.proofs.lemmas.Bool.Decides.{nat_tests}
use Rattle.formats.specs.Depths.{depth_format}
use Rattle.formats.specs.Laws.{depth_keeps}
use Rattle.source.specs.Origins.{image}
use Rattle.complete.specs.Complete.{Way}
use Rattle.complete.specs.Undo.{IsExclusiveOr}
use Rattle.complete.specs.Laws.{Undone, ExclusiveOrUndoesItself}
use Rattle.job.specs.declared.settings.Settings.{Settings}
use Rattle.job.specs.Operations.{either, uses_second, blends}
use Rattle.job.specs.Plans.{depth_at, area_at, plan_at, op_at}
use Rattle.complete_jobs.specs.Undo.{ExclusiveOrSettings, SettingsUndone, SettingsUndoThemselves}

no_overlay : (k : ℕ) → k ≤ 2 → either 4 5 k ≡ false
no_overlay k h = grind (arith, nat_tests)

module _ (s : Settings) (x : ExclusiveOrSettings s) where
  second_used : uses_second s.operation ≡ true
  second_used = ap (λ b. b || blends s.operation) x.operation

  pub exclusive_or_settings : IsExclusiveOr (op_at (plan_at s))
  exclusive_or_settings = record {
    first_format = depth_format (depth_at s.first.depth);
    yields_is = λ p a b. rw (x.operation, x.rule, x.format);
    second_is =
        rw (second_used, x.window, no_overlay s.second.depth x.kind) (ap (λ d. image (area_at s.target s.width s.height) (depth_format d).width) x.format);
    narrows = depth_keeps (depth_at s.target.depth);
  }

pub settings_undone : (a a' : Way) (m n : List ℕ) (complete : Bool) → Undone a a' m complete n → SettingsUndone a a' m complete n
settings_undone a a' m n complete undone s is x same = undone same (subst IsExclusiveOr (sym is) (exclusive_or_settings s x))

pub settings_undo_themselves : ExclusiveOrUndoesItself → SettingsUndoThemselves
settings_undo_themselves law s a a' m l n sound early late is x same apart =
    law a a' m l n sound early late same (subst IsExclusiveOr (sym is) (exclusive_or_settings s x)) apart
