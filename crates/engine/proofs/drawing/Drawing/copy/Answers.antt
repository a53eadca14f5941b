use Rattle.std.proofs.Common.{◌≡◌, ◌*◌, refl, ap, ◌∙◌, arith}
use Rattle.memory.specs.Spans.{copied}
use Rattle.window.specs.Places.{area_of, place}
use Rattle.source.specs.Origins.{sampled}
use Rattle.rules.specs.declared.values.ValueRule.TheVariants.{First}
use Rattle.engine.specs.Painted.{op_of}
use Rattle.engine.specs.Strips.{ReadFirst}
use Rattle.engine.proofs.Spans.{read_first_as}
use Rattle.engine.proofs.Beside.{puts_given, copied_painted}
use Rattle.engine.proofs.drawing.Drawing.copy.Goals as goal

pub returns-clause-after : goal.returns-clause-after
returns-clause-after g c p sent =
    let o = op_of g.R.PixelRule.yields g.D.Readable.format g.D.Canvas.narrowed c.args.self.now in
    let m = g.M.Memory.bytes c.args.memory.now in
    let k = c.args.k in
    let n = c.min-count.result in
    let w = area_of c.in-Some.window in
    let wide = c.of-size.ensures in
    let x = place w o.format.width k in
    let y = place o.target o.format.width k in
    let from : c.in-Some-address_of.from ≡ x = c.in-Some-address_of.ensures ∙ ap (λ b. place w b k) wide in
    let to : c.in-Some-address_of-2.to ≡ y = c.in-Some-address_of-2.ensures ∙ ap (λ b. place o.target b k) wide in
    let apart : ReadFirst x y o.format.width =
    read_first_as c.in-Some-address_of.from x c.in-Some-address_of-2.to y c.bytes.result o.format.width from to (c.bytes.ensures ∙ wide) (c.if-not-are_read_first.ensures refl) in
    c.copy.ensures
    ∙ ap (λ a. copied m a c.in-Some-address_of-2.to c.in-Some-checked_mul.bytes) from
    ∙ ap (λ a. copied m x a c.in-Some-checked_mul.bytes) to
    ∙ ap (copied m x y) (c.in-Some-checked_mul.ensures.1 ∙ ap (λ b. n * b) (c.bytes-2.ensures ∙ wide))
    ∙ copied_painted o p (λ j. sent) w (λ t s j. ap (λ i. sampled i t s j) c.in-Some.ensures) (λ u v h. puts_given o p First c.requires u v h) k n m (g.M.Memory.sound c.args.memory.now)
    (λ i h. c.beside.ensures.gapless i (omega arith)) (λ i h. c.beside-2.ensures.gapless i (omega arith)) apart
