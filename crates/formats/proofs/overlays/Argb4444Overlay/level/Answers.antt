use Rattle.std.proofs.Common.{refl, ◌∙◌, ◌/◌}
use Rattle.formats.proofs.TableRule.{level_row}
use Rattle.formats.proofs.Shown.{argb_level_of_field}
use Rattle.formats.proofs.overlays.Argb4444Overlay.level.Goals as goal

pub returns-clause-is : goal.returns-clause-is
returns-clause-is c = c.row.ensures 0 ∙ level_row _ refl (c.args.value / 4096) 0

pub returns-clause-has : goal.returns-clause-has
returns-clause-has c = argb_level_of_field c.args.value _ (returns-clause-is c)
