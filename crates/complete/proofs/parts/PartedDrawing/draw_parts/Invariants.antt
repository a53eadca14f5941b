use Rattle.std.proofs.Common.{◌≡◌, map, length, take}
use Rattle.engine.specs.Painted.{op_of}
use Rattle.engine.specs.Fed.{stage}
use Rattle.complete.specs.Parts.{portion_of, parted}
use Rattle.complete.specs.Complete.{begun}
use Rattle.complete.proofs.parts.PartedDrawing.draw_parts.Given as goal

abbrev pub invariant-loop-part : goal.invariant-loop-part
invariant-loop-part g l =
    let o = op_of g.R.PixelRule.yields g.D.Readable.format g.D.Canvas.narrowed l.self.drawing in
    record {
      far : stage (g.M.Memory.bytes l.memory) l.progress
          ≡ parted o l.self.palette (begun (g.M.Memory.bytes l.initial.memory)) (map portion_of (take l.part-index l.self.parts.now));
      size : length (g.M.Memory.bytes l.memory) ≡ length (g.M.Memory.bytes l.initial.memory);
    }
