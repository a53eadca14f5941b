use Rattle.std.proofs.Common.{◌*◌, ap, subst, ◌∙◌, arith}
use Rattle.std.proofs.lemmas.Nat.{mul-le}
use Rattle.memory.specs.Spans.{span, overlaid}
use Rattle.window.specs.Places.{place}
use Rattle.source.specs.Strips.{value_bytes, Ahead}
use Rattle.engine.specs.Painted.{op_of}
use Rattle.engine.specs.Strips.{stripped, made}
use Rattle.engine.proofs.Beside.{put_mapped, strip_painted}
use Rattle.engine.proofs.drawing.Drawing.draw_strip.Goals as goal

pub returns-clause-after : goal.returns-clause-after
returns-clause-after g c =
    let o = op_of g.R.PixelRule.yields g.D.Readable.format g.D.Canvas.narrowed c.args.self.now in
    let p = c.args.palette.now in
    let m = g.M.Memory.bytes c.args.memory.now in
    let k = c.args.k in
    let n = c.values-count.result in
    let b = o.format.width in
    let strip = c.in-Some.ensures in
    let y = made o.narrow (o.yields p) in
    let x1 = c.values-given.new.into in
    let x2 = c.values-count.new.into in
    let b1 = value_bytes o.first in
    let b2 = value_bytes o.second in
    let first = c.new-first.result in
    let second = c.new-second.result in
    let ahead1 : Ahead o.first k n (place o.target b k) b =
    subst (λ a. Ahead o.first k n a b) strip.begins (λ i h. strip.first i (omega arith)) in
    let ahead2 : Ahead o.second k n (place o.target b k) b =
    subst (λ a. Ahead o.second k n a b) strip.begins (λ i h. strip.second i (omega arith)) in
    c.draw_at.ensures
    ∙ ap (λ a. overlaid m a (stripped y first.width second.width b first.bytes.now second.bytes.now n (span m a (n * b)))) strip.begins
    ∙ ap (λ w. overlaid m (place o.target b k) (stripped y w second.width b first.bytes.now second.bytes.now n (span m (place o.target b k) (n * b)))) (c.new-first.ensures.width ∙ c.value_bytes.ensures.is)
    ∙ ap (λ w. overlaid m (place o.target b k) (stripped y b1 w b first.bytes.now second.bytes.now n (span m (place o.target b k) (n * b)))) (c.new-second.ensures.width ∙ c.value_bytes-2.ensures.is)
    ∙ ap (λ x. overlaid m (place o.target b k) (stripped y b1 b2 b x second.bytes.now n (span m (place o.target b k) (n * b)))) c.new-first.ensures.bytes
    ∙ ap (λ x. overlaid m (place o.target b k) (stripped y b1 b2 b x1 x n (span m (place o.target b k) (n * b)))) c.new-second.ensures.bytes
    ∙ strip_painted o p (λ j. c.args.sent) k m y b1 b2 x1 x2 n
    (λ i h. strip.gapless i (omega arith))
    (λ i h. c.values-given.ensures.values i (omega arith))
    c.values-count.ensures.values
    ahead1
    ahead2
    (λ i h a t. put_mapped b o.narrow a (o.yields p _ _) t)

pub draw_at-requires-clause-room : goal.draw_at-requires-clause-room
draw_at-requires-clause-room g c =
    let w = (g.D.Readable.format c.args.self.now.canvas).width in
    let l = mul-le c.values-count.result w c.in-Some.strip.count w (omega (arith, c.values-count.ensures.few, c.values-given.ensures.few)) (omega arith) in
    omega (arith, l, c.in-Some.ensures.room)
