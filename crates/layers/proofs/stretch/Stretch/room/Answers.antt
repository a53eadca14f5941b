use Rattle.std.proofs.Common.{arith}
use Rattle.layers.specs.Part.{part_length}
use Rattle.layers.proofs.stretch.Stretch.room.Goals as goal

pub overflow_add-result : goal.overflow_add-result
overflow_add-result g c =
    let s = c.args.self.now in
    record { fits = omega (arith, part_length (g.M.Memory.bytes s.below) s.start s.length, (g.M.Memory.sound s.below).short) }
