use Rattle.std.proofs.Common.{◌<◌, length, arith}
use Rattle.std.proofs.lemmas.Grind.{common_steps}
use Rattle.layers.specs.Laid.{laid}
use Rattle.layers.proofs.Lays.{length_laid}
use Rattle.layers.proofs.queue.WriteQueue.byte_at.Goals as goal

pub returns : goal.returns
returns g c =
    let q = c.args.self.now in
    let m = g.M.Memory.bytes q.below in
    let short : length (laid m q.pending) < 4294967296 = omega (arith, length_laid m q.pending, (g.M.Memory.sound q.below).short) in
    grind (arith, common_steps)
