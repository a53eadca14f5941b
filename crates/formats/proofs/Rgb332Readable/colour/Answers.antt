use Rattle.std.proofs.Common.{refl, ◌∙◌}
use Rattle.colour.proofs.FieldBits.{shown_composed}
use Rattle.colour.specs.Channels.{rgb}
use Rattle.formats.proofs.TableRule.{colour_row}
use Rattle.formats.proofs.Rgb332Readable.colour.Goals as goal

pub returns-clause-is : goal.returns-clause-is
returns-clause-is c = c.row.ensures (rgb 0 0 0) ∙ colour_row _ refl c.args.value (rgb 0 0 0)

pub returns-clause-fields : goal.returns-clause-fields
returns-clause-fields c = shown_composed 3 3 2 c.args.value _ (returns-clause-is c)
