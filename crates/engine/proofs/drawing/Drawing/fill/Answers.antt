use Rattle.std.proofs.Common.{◌≡◌, ◌≤◌, take, ap, ◌∙◌, arith}
use Rattle.memory.specs.Spans.{overlaid, times}
use Rattle.window.specs.Places.{place}
use Rattle.rules.specs.declared.values.ValueRule.TheVariants.{Fill}
use Rattle.engine.specs.Painted.{op_of}
use Rattle.engine.proofs.Beside.{puts_given, filled_painted}
use Rattle.engine.proofs.drawing.Drawing.fill.Goals as goal

pub returns-clause-after : goal.returns-clause-after
returns-clause-after g c p sent =
    let o = op_of g.R.PixelRule.yields g.D.Readable.format g.D.Canvas.narrowed c.args.self.now in
    let m = g.M.Memory.bytes c.args.memory.now in
    let k = c.args.k in
    let n = c.min-count.result in
    let v = c.args.value in
    let bs = c.to_le_bytes.result in
    let wide = c.of-size.ensures in
    let few : o.format.width ≤ 4 = omega (arith, o.format.few) in
    let at : c.in-Some.address ≡ place o.target o.format.width k = c.in-Some.ensures ∙ ap (λ b. place o.target b k) wide in
    c.fill.ensures
    ∙ ap (λ a. overlaid m a (times (take c.bytes.result bs) n)) at
    ∙ ap (λ b. overlaid m (place o.target o.format.width k) (times (take b bs) n)) (c.bytes.ensures ∙ wide)
    ∙ filled_painted o p (λ j. sent) v bs (λ x y. puts_given o p (Fill v) c.requires x y tt) few c.to_le_bytes.ensures k n m (λ i h. c.beside.ensures.gapless i (omega arith))
