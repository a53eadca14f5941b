use Rattle.window.proofs.Limits.{limits_of}
use Rattle.engine.specs.Painted.{op_of}
use Rattle.engine.specs.Fed.{waits}
use Rattle.complete.proofs.Completing.{drawn_inside}
use Rattle.complete.proofs.parts.PartedDrawingCompleteOperation.draw.Goals as goal

pub returns : goal.returns
returns g c =
    let w = c.args.self.now in
    let l = limits_of w.drawing.target in
    let far = c.draw_parts-progress.result in
    drawn_inside (op_of g.R.PixelRule.yields g.D.Readable.format g.D.Canvas.narrowed w.drawing) w.palette w.parts.now
    (g.M.Memory.bytes c.args.memory) l.width_some l.height_some l.inside
    c.size.result c.size.ensures c.if-not-lies_inside.ensures.is
    (g.M.Memory.bytes c.draw_parts-progress.new.memory) far.drawn (waits far.waiting) c.draw_parts-progress.ensures
    c.is_complete.result c.is_complete.ensures
