use Rattle.std.proofs.Common.{rules}
use Rattle.layers.specs.Part.{part_length}
use Rattle.layers.proofs.stretch.StretchMemory.size.Goals as goal

pub returns : goal.returns
returns g c =
    let s = c.args.self.now in
    let long = part_length (g.M.Memory.bytes s.below) s.start s.length in
    search rules
