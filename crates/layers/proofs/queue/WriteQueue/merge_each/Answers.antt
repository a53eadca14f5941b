use Rattle.std.proofs.Common.{◌≡◌, ◌+◌, ◌-◌, get_or, ◌∙◌, ap, refl, arith}
use Rattle.std.proofs.lemmas.Grind.{common_steps}
use Rattle.layers.specs.Queue.{queue, over, queued, queued_merged}
use Rattle.layers.proofs.Queues.{queued_past}
use Rattle.layers.proofs.QueueMerges.{queued_merged_more}
use Rattle.layers.proofs.queue.WriteQueue.merge_each.Goals as goal

pub loop-i-init : goal.loop-i-init
unfolding queued_merged
loop-i-init g c = let none : c.args.done - c.args.done ≡ 0 = omega arith in rw none refl

pub loop-i-preserved : goal.loop-i-preserved
loop-i-preserved g c =
    let b = g.M.Memory.bytes in
    let f = g.F.ByteRule.gives c.args.rule in
    let old = queue (b c.args.self.now.below) c.args.self.now.pending in
    let q = queue (b c.loop-i.self.below) c.loop-i.self.pending in
    let i = c.loop-i.i in
    let d = c.args.done in
    let first = c.args.first in
    let second = c.args.second in
    let to = c.args.to in
    let v = c.byte-byte.result in
    let sound = (g.M.Memory.sound c.loop-i.self.below).short in
    let past = queued_past q (to + i) v in
    let made : v ≡ f (get_or (over q) (first + i) 0) (get_or (over q) (second + i) 0) =
    c.byte-byte.ensures ∙ ap (λ x. f x c.byte_at-in-loop-i.result) c.byte_at.ensures ∙ ap (f (get_or (over q) (first + i) 0)) c.byte_at-in-loop-i.ensures in
    let put : queue (b c.match-checked_add.self.below) c.match-checked_add.self.pending ≡ queued q (to + i) v = grind (arith, common_steps) in
    let at : (s : _) → s + i ≡ s + d + (i - d) = λ s. omega arith in
    let next : i - d + 1 ≡ i + 1 - d = omega arith in
    put ∙ ap (queued q (to + i)) made
    ∙ ap (λ k. queued q (to + i) (f (get_or (over q) k 0) (get_or (over q) (second + i) 0))) (at first)
    ∙ ap (λ k. queued q (to + i) (f (get_or (over q) (first + d + (i - d)) 0) (get_or (over q) k 0))) (at second)
    ∙ ap (λ k. queued q k (f (get_or (over q) (first + d + (i - d)) 0) (get_or (over q) (second + d + (i - d)) 0))) (at to)
    ∙ ap (λ p. queued p (to + d + (i - d)) (f (get_or (over p) (first + d + (i - d)) 0) (get_or (over p) (second + d + (i - d)) 0))) c.loop-i.invariant
    ∙ queued_merged_more f old (first + d) (second + d) (to + d) (i - d)
    ∙ ap (queued_merged f old (first + d) (second + d) (to + d)) next

pub returns : goal.returns
returns g c =
    let old = queue (g.M.Memory.bytes c.args.self.now.below) c.args.self.now.pending in
    let d = c.args.done in
    c.loop-i.invariant ∙ ap (queued_merged (g.F.ByteRule.gives c.args.rule) old (c.args.first + d) (c.args.second + d) (c.args.to + d)) (omega arith)
