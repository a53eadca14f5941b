use Rattle.std.proofs.Common.{subst}
use Rattle.rules.specs.Values.{Agrees}
use Rattle.rules.specs.Colours.{Colours}
use Rattle.rules.proofs.PlainValues.{tested}
use Rattle.rules.proofs.Colours.{first_narrows, raster_narrows, key_narrows, blend_narrows}
use Rattle.rules.proofs.on_values.Goals as goal

pub returns-in-First : goal.returns-in-First
returns-in-First g c =
    let yields = g.R.PixelRule.yields c.args.rule.now in
    let d = g.D.Readable.format c.args.canvas.now in
    let narrow = g.D.Canvas.narrowed c.args.canvas.now in
    let colours = subst (Colours yields) c.in-First.is c.in_ok-colour.ensures in
    tested (Agrees yields d narrow) _ _ _ c.then_some.ensures
    (λ same. first_narrows yields d narrow c.in-First.fields (c.has_fields.ensures same) (g.met.D.Canvas.keeps c.args.canvas.now) colours)

pub returns-in-Raster : goal.returns-in-Raster
returns-in-Raster g c =
    let yields = g.R.PixelRule.yields c.args.rule.now in
    let d = g.D.Readable.format c.args.canvas.now in
    let narrow = g.D.Canvas.narrowed c.args.canvas.now in
    let colours = subst (Colours yields) c.in-Raster.is c.in_ok-colour.ensures in
    tested (Agrees yields d narrow) _ _ _ c.then_some-in-Raster.ensures
    (λ same. raster_narrows yields d narrow c.in-Raster.fields (c.has_fields-in-Raster.ensures same) (g.met.D.Canvas.keeps c.args.canvas.now) c.in-Raster.rule colours)

pub returns-in-Key : goal.returns-in-Key
returns-in-Key g c =
    let yields = g.R.PixelRule.yields c.args.rule.now in
    let d = g.D.Readable.format c.args.canvas.now in
    let narrow = g.D.Canvas.narrowed c.args.canvas.now in
    let colours = subst (Colours yields) c.in-Key.is c.in_ok-colour.ensures in
    tested (Agrees yields d narrow) _ _ _ c.then_some-in-Key.ensures
    (λ same. key_narrows yields d narrow c.in-Key.fields (c.has_fields-in-Key.ensures same) (g.met.D.Canvas.keeps c.args.canvas.now) c.in-Key.key colours)

pub returns-in-Blend : goal.returns-in-Blend
returns-in-Blend g c =
    let yields = g.R.PixelRule.yields c.args.rule.now in
    let d = g.D.Readable.format c.args.canvas.now in
    let narrow = g.D.Canvas.narrowed c.args.canvas.now in
    let colours = subst (Colours yields) c.in-Blend.is c.in_ok-colour.ensures in
    let known = c.packs_fields.ensures in
    tested (Agrees yields d narrow) _ _ _ c.then_some-in-Blend.ensures
    (λ same. blend_narrows yields d narrow c.in-Blend.fields (known.shows same) c.in-Blend.level (known.packs same) colours)
