use Rattle.std.proofs.Common.{length, refl, sym}
use Rattle.engine.specs.Fed.{stage}
use Rattle.engine.proofs.Drawn.{parts, wholes, in_all, fed_so}
use Rattle.engine.proofs.drawing.Drawing.feed_inside.Goals as goal

pub returns : goal.returns
returns g c =
    let a = c.args in
    let m = g.M.Memory.bytes a.memory.now in
    record {
      fed = c.take.ensures;
      parts = parts g.R.PixelRule.yields g.D.Readable.format g.D.Canvas.narrowed a.self.now a.palette.now;
      wholes = wholes g.R.PixelRule.yields g.D.Readable.format g.D.Canvas.narrowed a.self.now a.palette.now;
      in_all = in_all g.R.PixelRule.yields g.D.Readable.format g.D.Canvas.narrowed a.self.now a.palette.now;
      inside = λ e. fed_so g.R.PixelRule.yields g.D.Readable.format g.D.Canvas.narrowed a.self.now a.palette.now m (g.M.Memory.sound a.memory.now)
          (length m) refl (sym e) (stage m a.progress.now)
          (stage (g.M.Memory.bytes c.take.new.memory) c.take.new.progress) refl a.sent.now c.take.result.0 c.take.result.1 c.take.ensures;
    }
