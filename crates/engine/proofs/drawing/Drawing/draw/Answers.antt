use Rattle.std.proofs.Common.{refl}
use Rattle.engine.proofs.Drawn.{drew_so, never_inside}
use Rattle.engine.proofs.drawing.Drawing.draw.Goals as goal

pub returns : goal.returns
returns g c =
    let a = c.args in
    let m = g.M.Memory.bytes a.memory.now in
    let drew = drew_so g.R.PixelRule.yields g.D.Readable.format g.D.Canvas.narrowed a.self.now a.palette.now m (g.M.Memory.sound a.memory.now)
    c.size.result c.size.ensures c.if-not-lies_inside.ensures.is a.sent a.first a.allowance c.draw_inside.result (g.M.Memory.bytes c.draw_inside.new.memory)
    c.draw_inside.ensures.count c.draw_inside.ensures.after in
    record { answer = drew.answer; after = drew.after; accepts = drew.accepts; drew = drew.drew; history = drew.history }

pub returns-then-not-lies_inside-clause-accepts : goal.returns-then-not-lies_inside-clause-accepts
returns-then-not-lies_inside-clause-accepts g c =
    (refl, never_inside g.R.PixelRule.yields g.D.Readable.format g.D.Canvas.narrowed c.args.self.now c.args.palette.now (g.M.Memory.bytes c.args.memory.now) c.size.result c.size.ensures c.if-not-lies_inside.ensures.is)
