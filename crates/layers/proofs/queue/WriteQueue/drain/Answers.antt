use Rattle.std.proofs.Common.{[], ap, ◌∙◌, arith}
use Rattle.layers.specs.Queue.{queue, over}
use Rattle.layers.proofs.Queues.{emptied, laid_sent}
use Rattle.layers.proofs.queue.WriteQueue.drain.Goals as goal

pub loop-self-preserved : goal.loop-self-preserved
loop-self-preserved g c =
    let q = c.loop-self.self in
    ap over c.send.ensures.oldest ∙ laid_sent (g.M.Memory.bytes q.below) q.pending ∙ c.loop-self.invariant

pub returns : goal.returns
returns g c =
    let q = c.loop-self.self in
    emptied (g.M.Memory.bytes q.below) q.pending (omega arith) ∙ ap (λ m. queue m []) c.loop-self.invariant
