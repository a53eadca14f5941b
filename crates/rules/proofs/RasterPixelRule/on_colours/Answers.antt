use Rattle.rules.proofs.PlainValues.{tested}
use Rattle.rules.proofs.Colours.{first_colours, raster_colours}
use Rattle.rules.proofs.RasterPixelRule.on_colours.Goals as goal

pub returns-then-rule-eq-COPY : goal.returns-then-rule-eq-COPY
returns-then-rule-eq-COPY g c =
    let rule = c.args.self.now in
    let f = g.F.Readable.format rule.first in
    let s = g.S.Readable.format rule.second in
    first_colours f s c.in_ok-fields.fields c.in_ok-fields.ensures rule.rule c.if-rule-eq-COPY.true

pub returns : goal.returns
returns g c =
    let rule = c.args.self.now in
    let f = g.F.Readable.format rule.first in
    let s = g.S.Readable.format rule.second in
    tested _ _ _ _ c.then_some.ensures
    (λ same. raster_colours f s c.in_ok-fields.fields c.in_ok-fields.ensures (c.has_fields.ensures same) rule.rule)
