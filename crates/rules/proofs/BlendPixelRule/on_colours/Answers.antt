use Rattle.rules.proofs.PlainValues.{tested}
use Rattle.rules.proofs.Colours.{blend_colours}
use Rattle.rules.proofs.BlendPixelRule.on_colours.Goals as goal

pub returns : goal.returns
returns g c =
    let rule = c.args.self.now in
    let f = g.F.Readable.format rule.first in
    let s = g.S.Readable.format rule.second in
    tested _ _ _ _ c.then_some.ensures
    (λ same. blend_colours f s c.in_ok-fields.fields c.in_ok-fields.ensures (c.has_fields.ensures same) rule.level)
