use Rattle.std.proofs.Common.{◌≡◌, ◌-◌}
use Rattle.engine.specs.Painted.{op_of, plotted, painted}
use Rattle.engine.proofs.drawing.Drawing.plot_each.Given as goal

abbrev pub invariant-loop-pixel : goal.invariant-loop-pixel
invariant-loop-pixel g l =
    g.M.Memory.bytes l.memory
    ≡ painted (plotted (op_of g.R.PixelRule.yields g.D.Readable.format g.D.Canvas.narrowed l.self) l.palette l.sent) l.initial.k (l.pixel - l.initial.k) (g.M.Memory.bytes l.initial.memory)
