use Rattle.std.proofs.Common.{IfSome, refl, ap, subst, ◌∙◌}
use Rattle.rules.specs.Values.{gives, Agrees}
use Rattle.engine.specs.Strips.{stripped, Alike}
use Rattle.engine.proofs.Buffers.{known_stripped}
use Rattle.engine.proofs.drawing.Drawing.work.Goals as goal

pub returns-then-is_alike-clause-after : goal.returns-then-is_alike-clause-after
returns-then-is_alike-clause-after g c =
    let y = g.R.PixelRule.yields c.args.self.now.rule in
    let f = g.D.Readable.format c.args.self.now.canvas in
    let narrow = g.D.Canvas.narrowed c.args.self.now.canvas in
    let r = c.in-Some.rule in
    let b1 = c.args.first.width in
    let b2 = c.args.second.width in
    let x = c.args.first.bytes.now in
    let z = c.args.second.bytes.now in
    let agrees : Agrees y f narrow r = subst (λ k. IfSome k (Agrees y f narrow)) c.in-Some.is c.requires.known in
    let alike : Alike r b1 b2 f.width = subst (Alike r b1 b2) c.bytes_per_pixel-width.ensures (c.if-is_alike.ensures refl) in
    c.draw_known.ensures.after
    ∙ ap (λ w. stripped (gives r w) b1 b2 w x z c.args.count c.args.target.now) c.bytes_per_pixel-width.ensures
    ∙ known_stripped y f narrow r c.args.palette.now b1 b2 x z c.args.count c.args.target.now agrees alike c.args.first.each_byte c.args.second.each_byte
