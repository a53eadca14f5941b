use Rattle.std.proofs.Common.{◌≡◌, ◌*◌, ◌/◌, ◌≤◌, div-mul-le_self, length, sym, ap, ◌∙◌, arith}
use Rattle.std.proofs.lemmas.Nat.{mul-le}
use Rattle.source.specs.Origins.{origin_of, host}
use Rattle.engine.specs.Painted.{op_of, sent_drawn, painted}
use Rattle.engine.specs.Fed.{waits}
use Rattle.engine.proofs.Bursts.{pixels_drawn}
use Rattle.engine.proofs.drawing.Drawing.take_pixels.Goals as goal

pub returns : goal.returns
returns g c =
    let o = op_of g.R.PixelRule.yields g.D.Readable.format g.D.Canvas.narrowed c.args.self.now in
    let p = c.args.palette.now in
    let b = c.bytes-width.result in
    let k = c.args.progress.now.drawn in
    let m = g.M.Memory.bytes c.args.memory.now in
    let n = c.draw_sent-drawn.result in
    let xs = c.args.sent.now in
    let sends : o.first ≡ host b = ap origin_of c.in-Host.is ∙ ap host (sym c.bytes-width.ensures) in
    let some : 1 ≤ b = omega (arith, c.in-Host.size.some, c.bytes-width.ensures) in
    let long : n * b ≤ length xs =
    omega (arith, mul-le n b (length xs / b) b (omega (arith, c.draw_sent-drawn.ensures.few, c.min-count.ensures)) (omega arith), div-mul-le_self (length xs) b) in
    pixels_drawn o p b sends some (ap waits c.in-None.is) xs n long (omega arith)
    (c.draw_sent-drawn.ensures.after
    ∙ ap (λ w. painted (sent_drawn o p w k c.new-values.result.bytes.now) k n m) c.new-values.ensures.width
    ∙ ap (λ x. painted (sent_drawn o p b k x) k n m) c.new-values.ensures.bytes)
