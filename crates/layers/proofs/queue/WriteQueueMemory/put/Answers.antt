use Rattle.std.proofs.Common.{arith, rules, ◌∙◌}
use Rattle.layers.specs.Queue.{queue}
use Rattle.layers.proofs.Lays.{length_laid}
use Rattle.layers.proofs.Queues.{over_after, queued_in, queued_past}
use Rattle.layers.proofs.Onces.{once_after}
use Rattle.layers.proofs.queue.WriteQueueMemory.put.Goals as goal

pub returns-then-address-size-clause-kept : goal.returns-then-address-size-clause-kept
returns-then-address-size-clause-kept g c =
    let q = c.args.self.now in
    let m = g.M.Memory.bytes q.below in
    queued_past (queue m q.pending) c.args.address c.args.value (omega (arith, length_laid m q.pending))

pub returns-clause-after : goal.returns-clause-after
returns-clause-after g c =
    let q = c.args.self.now in
    over_after (queue (g.M.Memory.bytes q.below) q.pending) c.args.address c.args.value _ (omega arith) (search rules)

pub returns-clause-kept : goal.returns-clause-kept
returns-clause-kept g c =
    let q = c.args.self.now in
    let m = g.M.Memory.bytes q.below in
    let in' = queued_in (queue m q.pending) c.args.address c.args.value (omega (arith, length_laid m q.pending)) in
    cc

pub returns-clause-once : goal.returns-clause-once
returns-clause-once g c =
    let q = c.args.self.now in
    let m = g.M.Memory.bytes q.below in
    let in' = queued_in (queue m q.pending) c.args.address c.args.value (omega (arith, length_laid m q.pending)) in
    once_after (queue m q.pending) (queue (g.M.Memory.bytes c.keep.new.self.below) c.keep.new.self.pending) c.args.address c.args.value (c.keep.ensures ∙ in')
