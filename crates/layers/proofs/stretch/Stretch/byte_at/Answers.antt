use Rattle.std.proofs.Common.{◌<◌, length, arith}
use Rattle.std.proofs.lemmas.Grind.{common_steps}
use Rattle.layers.specs.Part.{part, part_length}
use Rattle.layers.proofs.stretch.Stretch.byte_at.Goals as goal

pub returns : goal.returns
returns g c =
    let s = c.args.self.now in
    let m = g.M.Memory.bytes s.below in
    let short : length (part m s.start s.length) < 4294967296 = omega (arith, part_length m s.start s.length, (g.M.Memory.sound s.below).short) in
    grind (arith, common_steps)
