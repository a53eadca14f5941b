use Rattle.std.proofs.Common.{◌≡◌}
use Rattle.memory.specs.Spans.{times}
use Rattle.layers.specs.Queue.{queue, queued_all}
use Rattle.layers.proofs.queue.WriteQueue.fill_each.Given as goal

abbrev pub invariant-loop-k : goal.invariant-loop-k
invariant-loop-k g l =
    queue (g.M.Memory.bytes l.self.below) l.self.pending ≡ queued_all (queue (g.M.Memory.bytes l.initial.self.below) l.initial.self.pending) l.address (times l.pixel l.k)
