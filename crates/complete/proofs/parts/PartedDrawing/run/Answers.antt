use Rattle.std.proofs.Common.{arith}
use Rattle.window.proofs.Limits.{pixels_few}
use Rattle.complete.proofs.parts.PartedDrawing.run.Goals as goal

pub overflow_add-progress : goal.overflow_add-progress
overflow_add-progress g c = omega (arith, c.in-Ok.ensures.accepts.1, pixels_few c.args.self.now.drawing.target)
