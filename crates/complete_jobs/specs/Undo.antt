-- Settings that mean an exclusive or.
use Rattle.std.specs.Prelude.{◌≡◌, ℕ, ◌≤◌, Bool, true, List}
use Rattle.memory.specs.Bytes.{Sound}
use Rattle.complete.specs.Complete.{Way, Completes, Same}
use Rattle.complete.specs.Undo.{SourceApart}
use Rattle.job.specs.declared.settings.Settings.{Settings}
use Rattle.job.specs.Operations.{any}
use Rattle.job.specs.Plans.{depth_at, area_at, plan_at, op_at}

-- operation 0, 2 or 6 with raster rule 6, whose second source and destination are one window in one format
pub record ExclusiveOrSettings (s : Settings) : Type 0 where
  pub operation : any 0 2 6 s.operation ≡ true
  pub rule : s.code ≡ 6
  pub window : area_at s.second s.width s.height ≡ area_at s.target s.width s.height
  pub kind : s.second.depth ≤ 2
  pub format : depth_at s.second.depth ≡ depth_at s.target.depth

-- such settings drawn in two ways: if both drawings are complete and the first source shares no byte with the
-- rectangle, the second undoes the first
abbrev pub SettingsUndone : Way → Way → List ℕ → Bool → List ℕ → Type 0
SettingsUndone a a' m complete n =
    (s : Settings) → a.operation ≡ op_at (plan_at s) → ExclusiveOrSettings s → Same a a' → SourceApart a.operation → complete ≡ true → n ≡ m

-- so it is of such drawings however each was made; m is what a memory holds
abbrev pub SettingsUndoThemselves : Type 0
SettingsUndoThemselves =
    (s : Settings) (a a' : Way) (m l n : List ℕ)
    → Sound m → Completes a m l → Completes a' l n → a.operation ≡ op_at (plan_at s) → ExclusiveOrSettings s → Same a a' → SourceApart a.operation → n ≡ m
