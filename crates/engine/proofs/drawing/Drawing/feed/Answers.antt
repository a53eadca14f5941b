use Rattle.std.proofs.Common.{rules, refl}
use Rattle.engine.specs.Fed.{stage}
use Rattle.engine.proofs.Drawn.{parts, wholes, in_all, fed_so, never_inside}
use Rattle.engine.proofs.drawing.Drawing.feed.Goals as goal

pub returns-then-not-lies_inside : goal.returns-then-not-lies_inside
returns-then-not-lies_inside g c =
    let a = c.args in
    record {
      answer = search rules;
      after = search rules;
      counts = (refl, never_inside g.R.PixelRule.yields g.D.Readable.format g.D.Canvas.narrowed a.self.now a.palette.now (g.M.Memory.bytes a.memory.now) c.size.result c.size.ensures c.if-not-lies_inside.ensures.is);
      only = refl;
      parts = parts g.R.PixelRule.yields g.D.Readable.format g.D.Canvas.narrowed a.self.now a.palette.now;
      wholes = wholes g.R.PixelRule.yields g.D.Readable.format g.D.Canvas.narrowed a.self.now a.palette.now;
      in_all = in_all g.R.PixelRule.yields g.D.Readable.format g.D.Canvas.narrowed a.self.now a.palette.now;
      rest = refl;
      history = refl;
    }

pub returns : goal.returns
returns g c =
    let a = c.args in
    let m = g.M.Memory.bytes a.memory.now in
    let fed = fed_so g.R.PixelRule.yields g.D.Readable.format g.D.Canvas.narrowed a.self.now a.palette.now m (g.M.Memory.sound a.memory.now)
    c.size.result c.size.ensures c.if-not-lies_inside.ensures.is (stage m a.progress.now)
    (stage (g.M.Memory.bytes c.feed_inside.new.memory) c.feed_inside.new.progress) refl a.sent.now c.feed_inside.result.0 c.feed_inside.result.1 c.feed_inside.ensures.fed in
    record {
      answer = fed.answer;
      after = fed.after;
      counts = fed.counts;
      only = fed.only;
      parts = parts g.R.PixelRule.yields g.D.Readable.format g.D.Canvas.narrowed a.self.now a.palette.now;
      wholes = wholes g.R.PixelRule.yields g.D.Readable.format g.D.Canvas.narrowed a.self.now a.palette.now;
      in_all = in_all g.R.PixelRule.yields g.D.Readable.format g.D.Canvas.narrowed a.self.now a.palette.now;
      rest = fed.rest;
      history = fed.history;
    }
