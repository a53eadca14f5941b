use Rattle.std.proofs.Common.{length, refl, sym}
use Rattle.engine.proofs.Drawn.{drew_so}
use Rattle.engine.proofs.drawing.Drawing.draw_inside.Goals as goal

pub returns : goal.returns
returns g c =
    let a = c.args in
    let m = g.M.Memory.bytes a.memory.now in
    record {
      count = c.paint.ensures.count;
      after = c.paint.ensures.after;
      inside = λ e. drew_so g.R.PixelRule.yields g.D.Readable.format g.D.Canvas.narrowed a.self.now a.palette.now m (g.M.Memory.sound a.memory.now)
          (length m) refl (sym e) a.sent a.first a.allowance c.paint.result (g.M.Memory.bytes c.paint.new.memory)
          c.paint.ensures.count c.paint.ensures.after;
    }
