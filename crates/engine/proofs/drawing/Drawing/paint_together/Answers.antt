use Rattle.std.proofs.Common.{◌≡◌, ◌-◌, refl, sym, ◌∙◌, arith}
use Rattle.engine.specs.Painted.{op_of, plotted, painted}
use Rattle.engine.proofs.Beside.{painted_on}
use Rattle.engine.proofs.drawing.Drawing.paint_together.Goals as goal

pub loop-left-init : goal.loop-left-init
unfolding painted
loop-left-init g c =
    let none : c.args.first - c.args.first ≡ 0 = omega arith in
    record { sum = refl; least = omega arith; so_far = rw none refl }

pub overflow_add-k : goal.overflow_add-k
overflow_add-k g c = omega (arith, c.requires)

pub loop-left-preserved : goal.loop-left-preserved
loop-left-preserved g c =
    let o = op_of g.R.PixelRule.yields g.D.Readable.format g.D.Canvas.narrowed c.args.self.now in
    let m = g.M.Memory.bytes c.args.memory.now in
    let l = g.M.Memory.bytes c.loop-left.memory in
    record {
      sum = omega arith;
      least = omega arith;
      so_far =
          c.step-drawn.ensures.after
          ∙ painted_on (plotted o c.args.palette.now c.args.sent) c.args.first c.loop-left.k c.step-drawn.result m l c.loop-left.invariant.least c.loop-left.invariant.so_far;
    }

pub returns : goal.returns
returns g c =
    let all : c.loop-left.k - c.args.first ≡ c.args.count = omega arith in
    rw (sym all) c.loop-left.invariant.so_far
