-- Writes of settings on a panel that is idle.
use Rattle.std.proofs.Common.{◌≡◌, ℕ, List, set, replicate, refl, ap, ◌∙◌, arith}
use Rattle.std.proofs.lemmas.Bool.Decides.{nat_tests}
use Rattle.std.proofs.lemmas.List.Folds.{fold_along}
use Rattle.colour.specs.declared.Palette.{Palette}
use Rattle.panel.specs.declared.activity.Activity.TheVariants.{Idle}
use Rattle.panel.specs.State.{State, fresh}
use Rattle.complete_panels.specs.declared.operation.RegisterWrite.{RegisterWrite}
use Rattle.complete_panels.specs.Settings.{register_set, registers_set, registers_from, palette_from}
use Rattle.complete_panels.specs.Plays.{palette_loaded, one_set, all_set}

module _ (m : List ℕ) (p : Palette) where
  abbrev pub at_rest : List ℕ → State
  at_rest regs = record { memory = m; registers = regs; palette = p; doing = Idle }

  -- a setting is stored
  one_sets : (regs : List ℕ) (w : RegisterWrite) → one_set (at_rest regs) w ≡ at_rest (register_set regs w)
  one_sets regs w = grind (arith, nat_tests)

  all_sets : (regs : List ℕ) (ws : List RegisterWrite) → all_set (at_rest regs) ws ≡ at_rest (registers_set regs ws)
  all_sets regs ws =
      let At : State → List ℕ → Type 0 = λ s rs. s ≡ at_rest rs in
      fold_along one_set register_set At (λ s rs w at. ap (λ t. one_set t w) at ∙ one_sets rs w) (at_rest regs) regs ws refl

-- a new panel, its palette loaded and its settings written
pub prepared : (m xs : List ℕ) (ws : List RegisterWrite)
    → all_set (palette_loaded (fresh m) xs) ws ≡ at_rest m (palette_from xs) (registers_from ws)
prepared m xs ws = all_sets m (palette_from xs) (set (replicate 256 0) 0x03 0x03) ws
