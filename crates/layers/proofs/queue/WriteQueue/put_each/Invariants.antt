use Rattle.std.proofs.Common.{◌≡◌, take}
use Rattle.layers.specs.Queue.{queue, queued_all}
use Rattle.layers.proofs.queue.WriteQueue.put_each.Given as goal

abbrev pub invariant-loop-i : goal.invariant-loop-i
invariant-loop-i g l =
    queue (g.M.Memory.bytes l.self.below) l.self.pending ≡ queued_all (queue (g.M.Memory.bytes l.initial.self.below) l.initial.self.pending) l.address (take l.i l.bytes)
