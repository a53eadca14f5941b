use Rattle.std.proofs.Common.{refl, arith}
use Rattle.layers.proofs.Parts.{within, part_read}
use Rattle.layers.proofs.stretch.Stretch.place.Goals as goal

pub overflow_add-result : goal.overflow_add-result
overflow_add-result g c =
    let s = c.args.self.now in
    record { fits = omega (arith, within (g.M.Memory.bytes s.below) s.start s.length c.args.address c.requires, (g.M.Memory.sound s.below).short) }

pub returns : goal.returns
returns g c =
    let s = c.args.self.now in
    record { place = refl; reads = part_read (g.M.Memory.bytes s.below) s.start s.length c.args.address c.requires }
