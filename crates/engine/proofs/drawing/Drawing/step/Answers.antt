use Rattle.std.proofs.Common.{◌≡◌, ap, ◌∙◌, arith}
use Rattle.engine.specs.Painted.{op_of, plotted, painted}
use Rattle.engine.proofs.drawing.Drawing.step.Goals as goal

pub returns-then-drawn-gt0-2-clause-after : goal.returns-then-drawn-gt0-2-clause-after
unfolding painted
returns-then-drawn-gt0-2-clause-after g c =
    let d = plotted (op_of g.R.PixelRule.yields g.D.Readable.format g.D.Canvas.narrowed c.args.self.now) c.args.palette.now c.args.sent in
    let m = g.M.Memory.bytes c.args.memory.now in
    let none : c.draw_by_memory-drawn.result ≡ 0 = omega arith in
    let same : g.M.Memory.bytes c.draw_by_memory-drawn.new.memory ≡ m =
    c.draw_by_memory-drawn.ensures.after c.args.palette.now c.args.sent ∙ ap (λ n. painted d c.args.k n m) none in
    c.draw_strips-drawn.ensures.after ∙ ap (painted d c.args.k c.draw_strips-drawn.result) same

pub returns-clause-after : goal.returns-clause-after
unfolding painted
returns-clause-after g c =
    let d = plotted (op_of g.R.PixelRule.yields g.D.Readable.format g.D.Canvas.narrowed c.args.self.now) c.args.palette.now c.args.sent in
    let m = g.M.Memory.bytes c.args.memory.now in
    let k = c.args.k in
    let none : c.draw_by_memory-drawn.result ≡ 0 = omega arith in
    let none' : c.draw_strips-drawn.result ≡ 0 = omega arith in
    let same : g.M.Memory.bytes c.draw_by_memory-drawn.new.memory ≡ m =
    c.draw_by_memory-drawn.ensures.after c.args.palette.now c.args.sent ∙ ap (λ n. painted d k n m) none in
    let same' : g.M.Memory.bytes c.draw_strips-drawn.new.memory ≡ m =
    c.draw_strips-drawn.ensures.after ∙ ap (λ n. painted d k n (g.M.Memory.bytes c.draw_by_memory-drawn.new.memory)) none' ∙ same in
    c.plot_each.ensures ∙ ap (painted d k c.without_strip-rest.result) same'
