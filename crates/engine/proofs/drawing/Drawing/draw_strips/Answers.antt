use Rattle.std.proofs.Common.{◌+◌, refl, sym, ap, ◌∙◌, arith}
use Rattle.engine.specs.Painted.{op_of, plotted, painted}
use Rattle.engine.proofs.Orders.{cut}
use Rattle.engine.proofs.drawing.Drawing.draw_strips.Goals as goal

pub loop-drawn-init : goal.loop-drawn-init
unfolding painted
loop-drawn-init g c = record { few = omega arith; so_far = refl }

pub loop-drawn-preserved : goal.loop-drawn-preserved
loop-drawn-preserved g c =
    let d = plotted (op_of g.R.PixelRule.yields g.D.Readable.format g.D.Canvas.narrowed c.args.self.now) c.args.palette.now c.args.sent in
    let k = c.args.k in
    let i = c.loop-drawn.drawn in
    let n = c.draw_strip-count.result in
    record {
      few = omega arith;
      so_far =
          c.draw_strip-count.ensures.after
          ∙ ap (painted d (k + i) n) c.loop-drawn.invariant.so_far
          ∙ sym (cut d k i n (g.M.Memory.bytes c.args.memory.now));
    }

pub returns-then-count-eq0-clause-after : goal.returns-then-count-eq0-clause-after
returns-then-count-eq0-clause-after g c =
    let d = plotted (op_of g.R.PixelRule.yields g.D.Readable.format g.D.Canvas.narrowed c.args.self.now) c.args.palette.now c.args.sent in
    let k = c.args.k in
    let i = c.loop-drawn.drawn in
    let n = c.draw_strip-count.result in
    c.draw_strip-count.ensures.after
    ∙ ap (painted d (k + i) n) c.loop-drawn.invariant.so_far
    ∙ sym (cut d k i n (g.M.Memory.bytes c.args.memory.now))
