use Rattle.std.proofs.Common.{◌-◌, length}
use Rattle.feeding.proofs.Feeding.{SoFar}
use Rattle.engine.specs.Painted.{op_of}
use Rattle.engine.specs.Fed.{stage, takes_at, byte_come}
use Rattle.engine.proofs.drawing.Drawing.take_together.Given as goal

abbrev pub invariant-loop-taken : goal.invariant-loop-taken
invariant-loop-taken g l =
    let o = op_of g.R.PixelRule.yields g.D.Readable.format g.D.Canvas.narrowed l.self in
    SoFar (takes_at o) (byte_come o l.palette) (stage (g.M.Memory.bytes l.initial.memory) l.initial.progress) l.sent l.taken
    (stage (g.M.Memory.bytes l.memory) l.progress)

abbrev pub decreases-loop-taken : goal.decreases-loop-taken
decreases-loop-taken g l = length l.sent - l.taken
