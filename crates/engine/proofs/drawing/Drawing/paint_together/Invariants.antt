use Rattle.std.proofs.Common.{◌≡◌, ◌+◌, ◌-◌, ◌≤◌}
use Rattle.engine.specs.Painted.{op_of, plotted, painted}
use Rattle.engine.proofs.drawing.Drawing.paint_together.Given as goal

abbrev pub invariant-loop-left : goal.invariant-loop-left
invariant-loop-left g l = record {
  sum : l.k + l.left ≡ l.first + l.count;
  least : l.first ≤ l.k;
  so_far :
      g.M.Memory.bytes l.memory
      ≡ painted (plotted (op_of g.R.PixelRule.yields g.D.Readable.format g.D.Canvas.narrowed l.self) l.palette l.sent) l.first (l.k - l.first) (g.M.Memory.bytes l.initial.memory);
}

abbrev pub decreases-loop-left : goal.decreases-loop-left
decreases-loop-left g l = l.left
