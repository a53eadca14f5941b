use Rattle.std.proofs.Common.{◌≡◌, ap, ◌∙◌, rules}
use Rattle.layers.specs.Queue.{queue, pushed, taken}
use Rattle.layers.proofs.Queues.{taken_changed, taken_room, taken_full}
use Rattle.layers.proofs.queue.WriteQueue.keep.Goals as goal
use Rattle.layers.proofs.queue.WriteQueue.keep.Goals.{then-is_full, else-is_full}

pub returns-in-Some : goal.returns-in-Some
returns-in-Some g c =
    let q = c.args.self.now in
    let m = g.M.Memory.bytes q.below in
    let put = c.args.put in
    ap (queue m) c.change.ensures ∙ taken_changed (queue m q.pending) put.address put.value c.in-Some.place c.in-Some.ensures

pub returns-after-is_full : goal.returns-after-is_full
returns-after-is_full g c =
    let q = c.args.self.now in
    let b = g.M.Memory.bytes in
    let old = queue (b q.below) q.pending in
    let a = c.args.put.address in
    let v = c.args.put.value in
    let came : pushed (queue (b c.if-is_full.self.below) c.if-is_full.self.pending) a v ≡ taken old a v =
    elim c.if-is_full.branch [
      | then-is_full w ↦
          ap (λ x. pushed (queue (b x.below) x.pending) a v) w.self-is ∙ ap (λ x. pushed x a v) w.send.ensures.oldest
          ∙ taken_full old a v c.in-None.ensures (search rules)
      | else-is_full w ↦
          ap (λ x. pushed (queue (b x.below) x.pending) a v) w.self-is ∙ taken_room old a v c.in-None.ensures (search rules)
    ] in
    ap (queue (b c.if-is_full.self.below)) c.push.ensures ∙ came
