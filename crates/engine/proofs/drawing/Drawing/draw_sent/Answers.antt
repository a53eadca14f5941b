use Rattle.std.proofs.Common.{◌≡◌, ◌*◌, ◌≤◌, length, take, IfSome, refl, sym, ap, ◌∙◌, subst}
use Rattle.memory.specs.Spans.{overlaid}
use Rattle.window.specs.Places.{place}
use Rattle.source.specs.Origins.{host}
use Rattle.rules.specs.declared.values.ValueRule.TheVariants.{First}
use Rattle.rules.specs.Values.{Agrees}
use Rattle.engine.specs.Painted.{op_of, sent_drawn, painted}
use Rattle.engine.proofs.Sent.{sent_painted}
use Rattle.engine.proofs.drawing.Drawing.draw_sent.Goals as goal

pub returns-then-sent-width-clause-after : goal.returns-then-sent-width-clause-after
returns-then-sent-width-clause-after g c =
    let o = op_of g.R.PixelRule.yields g.D.Readable.format g.D.Canvas.narrowed c.args.self.now in
    let p = c.args.palette.now in
    let b = o.format.width in
    let m = g.M.Memory.bytes c.args.memory.now in
    let k = c.args.k in
    let n = c.args.count in
    let xs = c.args.sent.bytes.now in
    let bytes : c.bytes-width.result ≡ b = c.bytes-width.ensures ∙ c.of-size.ensures in
    let wide : c.args.sent.width ≡ b = c.if-sent-width.true ∙ bytes in
    let at : c.in-Some.at ≡ place o.target b k = c.in-Some.ensures ∙ ap (λ w. place o.target w k) c.of-size.ensures in
    let agrees : Agrees o.yields o.format o.narrow First =
    subst (λ v. IfSome v (Agrees o.yields o.format o.narrow)) (c.if-is_first.ensures refl) c.requires.known in
    let sends : o.first ≡ host b = c.requires.host ∙ ap host wide in
    let long : n * b ≤ length xs = subst (λ w. n * w ≤ length xs) wide c.requires.room in
    c.store.ensures
    ∙ ap (λ a. overlaid m a (take (n * c.bytes-width.result) xs)) at
    ∙ ap (λ w. overlaid m (place o.target b k) (take (n * w) xs)) bytes
    ∙ sent_painted xs c.args.sent.each_byte o p agrees sends k m n long c.requires.gapless
    ∙ ap (λ w. painted (sent_drawn o p w k xs) k n m) (sym wide)
