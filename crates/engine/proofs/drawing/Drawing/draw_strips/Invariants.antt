use Rattle.std.proofs.Common.{◌≡◌, ◌-◌, ◌≤◌}
use Rattle.engine.specs.Painted.{op_of, plotted, painted}
use Rattle.engine.proofs.drawing.Drawing.draw_strips.Given as goal

abbrev pub invariant-loop-drawn : goal.invariant-loop-drawn
invariant-loop-drawn g l = record {
  few : l.drawn ≤ l.most;
  so_far :
      g.M.Memory.bytes l.memory
      ≡ painted (plotted (op_of g.R.PixelRule.yields g.D.Readable.format g.D.Canvas.narrowed l.self) l.palette l.sent) l.k l.drawn (g.M.Memory.bytes l.initial.memory);
}

abbrev pub decreases-loop-drawn : goal.decreases-loop-drawn
decreases-loop-drawn g l = l.most - l.drawn
