use Rattle.std.proofs.Common.{◌≡◌, ◌*◌, ap, subst, ◌∙◌, arith}
use Rattle.memory.specs.Spans.{span, overlaid}
use Rattle.window.specs.Places.{place}
use Rattle.source.specs.Origins.{awaited}
use Rattle.source.specs.Strips.{value_bytes, Ahead}
use Rattle.source.proofs.Meanings.{proper}
use Rattle.engine.specs.Painted.{op_of}
use Rattle.engine.specs.Strips.{stripped, made}
use Rattle.engine.proofs.Sent.{sent_worked}
use Rattle.engine.proofs.drawing.Drawing.work_sent.Goals as goal

pub returns-clause-after : goal.returns-clause-after
returns-clause-after g c =
    let o = op_of g.R.PixelRule.yields g.D.Readable.format g.D.Canvas.narrowed c.args.self.now in
    let p = c.args.palette.now in
    let m = g.M.Memory.bytes c.args.memory.now in
    let k = c.args.k in
    let n = c.values-count.result in
    let b = o.format.width in
    let xs = c.args.sent.bytes.now in
    let b1 = c.args.sent.width in
    let b2 = value_bytes o.second in
    let second = c.new-second.result in
    let y = made o.narrow (o.yields p) in
    let at = place o.target b k in
    let ahead : Ahead o.second k n at b =
    subst (λ a. Ahead o.second k n a b) c.requires.address (λ i h. c.ahead_of-most.ensures.ahead i (omega arith)) in
    let none : awaited o.second ≡ 0 = omega (arith, c.awaited.ensures.is, c.if-awaited-gt0.false) in
    c.draw_at.ensures
    ∙ ap (λ a. overlaid m a (stripped y b1 second.width b xs second.bytes.now n (span m a (n * b)))) c.requires.address
    ∙ ap (λ w. overlaid m at (stripped y b1 w b xs second.bytes.now n (span m at (n * b)))) (c.new-second.ensures.width ∙ c.value_bytes.ensures.is)
    ∙ ap (λ x. overlaid m at (stripped y b1 b2 b xs x n (span m at (n * b)))) c.new-second.ensures.bytes
    ∙ sent_worked o p b1 b2 xs c.values-count.new.into k n m c.requires.host (proper c.args.self.now.second) none
    (λ i h. c.requires.gapless i (omega arith)) c.values-count.ensures.values ahead
