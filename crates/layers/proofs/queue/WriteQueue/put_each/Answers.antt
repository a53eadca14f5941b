use Rattle.std.proofs.Common.{◌≡◌, ◌+◌, get_or, ◌∙◌, ap, refl, arith}
use Rattle.std.proofs.lemmas.Grind.{common_steps}
use Rattle.layers.specs.Queue.{queue, queued, queued_all}
use Rattle.layers.proofs.Queues.{queued_past}
use Rattle.layers.proofs.QueueSpans.{queued_more}
use Rattle.layers.proofs.queue.WriteQueue.put_each.Goals as goal

pub loop-i-init : goal.loop-i-init
unfolding queued_all
loop-i-init g c = refl

pub loop-i-preserved : goal.loop-i-preserved
loop-i-preserved g c =
    let b = g.M.Memory.bytes in
    let q = queue (b c.loop-i.self.below) c.loop-i.self.pending in
    let xs = c.args.bytes.now in
    let a = c.args.address + c.loop-i.i in
    let x = get_or xs c.loop-i.i 0 in
    let sound = (g.M.Memory.sound c.loop-i.self.below).short in
    let past = queued_past q a x in
    let put : queue (b c.match-try_from.self.below) c.match-try_from.self.pending ≡ queued q a x = grind (arith, common_steps) in
    put ∙ ap (λ p. queued p a x) c.loop-i.invariant
    ∙ queued_more (queue (b c.args.self.now.below) c.args.self.now.pending) c.args.address xs c.loop-i.i (omega arith)
