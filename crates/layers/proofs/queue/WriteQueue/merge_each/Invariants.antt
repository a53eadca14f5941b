use Rattle.std.proofs.Common.{◌≡◌, ◌+◌, ◌-◌}
use Rattle.layers.specs.Queue.{queue, queued_merged}
use Rattle.layers.proofs.queue.WriteQueue.merge_each.Given as goal

abbrev pub invariant-loop-i : goal.invariant-loop-i
invariant-loop-i g l =
    queue (g.M.Memory.bytes l.self.below) l.self.pending
    ≡ queued_merged (g.F.ByteRule.gives l.rule) (queue (g.M.Memory.bytes l.initial.self.below) l.initial.self.pending) (l.first + l.done) (l.second + l.done) (l.to + l.done) (l.i - l.done)
