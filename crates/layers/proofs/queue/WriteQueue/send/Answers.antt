use Rattle.std.proofs.Common.{◌≡◌, ◌%◌, mod-eq_of_lt, arith}
use Rattle.layers.proofs.Queues.{laid_oldest}
use Rattle.layers.proofs.queue.WriteQueue.send.Goals as goal

pub returns-clause-oldest : goal.returns-clause-oldest
returns-clause-oldest g c =
    let q = c.args.self.now in
    let oldest = laid_oldest (g.M.Memory.bytes q.below) q.pending c.requires in
    let byte : c.shift-oldest.result.value % 256 ≡ c.shift-oldest.result.value = mod-eq_of_lt (omega arith) in
    cc
