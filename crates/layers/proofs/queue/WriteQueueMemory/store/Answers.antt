use Rattle.std.proofs.Common.{◌≡◌, ◌+◌, ◌-◌, ◌<◌, ℕ, [], min, length, get_or, take, drop, ap, ◌∙◌, arith, sym, subst}
use Rattle.memory.specs.Spans.{overlaid}
use Rattle.layers.specs.Queue.{queue, over, queued_all, Once}
use Rattle.layers.proofs.Lays.{length_laid}
use Rattle.layers.proofs.QueueSpans.{queued_some, queued_none, over_queued_all}
use Rattle.layers.proofs.Onces.{once_all}
use Rattle.layers.proofs.queue.WriteQueueMemory.store.Goals as goal
use Rattle.layers.proofs.queue.WriteQueueMemory.store.Goals.{then-through-gt0, else-through-gt0}

bytes : (g : _) (c : goal.After-put_each g) → (k : ℕ) → get_or c.args.from.now k 0 < 256
bytes g c k = let fits = c.type_inv.from k in omega arith

kept : (g : _) (c : goal.After-put_each g) → queue (g.M.Memory.bytes c.put_each.new.self.below) c.put_each.new.self.pending
    ≡ queued_all (queue (g.M.Memory.bytes c.args.self.now.below) c.args.self.now.pending) c.args.address c.args.from.now
kept g c =
    let b = g.M.Memory.bytes in
    let old = queue (b c.args.self.now.below) c.args.self.now.pending in
    let a = c.args.address in
    let xs = c.args.from.now in
    let n = c.min.result in
    let t = c.through-through.result in
    let cut : n ≡ min (length xs) (length old.below - a) = omega (arith, length_laid old.below old.entries) in
    c.put_each.ensures ∙ ap (queued_all (queue (b c.if-through-gt0.self.below) c.if-through-gt0.self.pending) (a + t)) c.split_at.ensures.back
    ∙ elim c.if-through-gt0.branch [
      | then-through-gt0 w ↦
          let first = c.split_at.result.0.now in
          let now : queue (b c.if-through-gt0.self.below) c.if-through-gt0.self.pending ≡ queue (overlaid (over old) a (take t (take n xs))) [] =
          ap (λ x. queue (b x.below) x.pending) w.self-is
          ∙ ap (queue (b w.store.new.self)) (ap (λ q. q.entries) w.drain.ensures)
          ∙ ap (λ m. queue m []) (w.store.ensures ∙ ap (λ q. overlaid q.below a first) w.drain.ensures ∙ ap (overlaid (over old) a) c.split_at.ensures.front) in
          ap (λ q. queued_all q (a + t) (drop t (take n xs))) now
          ∙ queued_some old a xs n t cut c.through-through.ensures.through (c.through-through.ensures.most (omega arith)) (bytes g c) (omega arith)
      | else-through-gt0 w ↦
          ap (λ x. queued_all (queue (b x.below) x.pending) (a + t) (drop t (take n xs))) w.self-is ∙ queued_none old a xs n t cut (omega arith)
    ]

pub returns-clause-after : goal.returns-clause-after
returns-clause-after g c =
    ap over (kept g c) ∙ over_queued_all (queue (g.M.Memory.bytes c.args.self.now.below) c.args.self.now.pending) c.args.address c.args.from.now (bytes g c)

pub returns-clause-kept : goal.returns-clause-kept
returns-clause-kept g c = kept g c

pub returns-clause-once : goal.returns-clause-once
returns-clause-once g c o =
    let old = queue (g.M.Memory.bytes c.args.self.now.below) c.args.self.now.pending in
    subst (λ q. Once q.entries) (sym (kept g c)) (once_all old c.args.address c.args.from.now o)
