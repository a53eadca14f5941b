use Rattle.std.proofs.Common.{◌≡◌, ◌+◌, ◌*◌, length, ◌∙◌, ap, refl, rules}
use Rattle.memory.specs.Spans.{times}
use Rattle.layers.specs.Queue.{queue, queued_all}
use Rattle.layers.proofs.QueueSpans.{queued_all_past, queued_times}
use Rattle.layers.proofs.queue.WriteQueue.fill_each.Goals as goal

pub loop-k-init : goal.loop-k-init
unfolding queued_all times
loop-k-init g c = refl

pub loop-k-preserved : goal.loop-k-preserved
loop-k-preserved g c =
    let b = g.M.Memory.bytes in
    let q = queue (b c.loop-k.self.below) c.loop-k.self.pending in
    let xs = c.args.pixel.now in
    let a = c.args.address + c.loop-k.k * length xs in
    let few = (g.M.Memory.sound c.loop-k.self.below).short in
    let put : queue (b c.match-try_from.self.below) c.match-try_from.self.pending ≡ queued_all q a xs = search (rules, queued_all_past) in
    put ∙ ap (λ p. queued_all p a xs) c.loop-k.invariant
    ∙ queued_times (queue (b c.args.self.now.below) c.args.self.now.pending) c.args.address xs c.loop-k.k
