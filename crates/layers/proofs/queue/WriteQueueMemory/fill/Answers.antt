use Rattle.std.proofs.Common.{◌≡◌, ◌+◌, ◌-◌, ◌*◌, ◌/◌, ◌<◌, ◌≤◌, ℕ, [], min, length, get_or, sym, ap, ◌∙◌, arith, rules, tests, subst}
use Rattle.std.proofs.Math.Nat.{div-le_self, div-mul-le_self}
use Rattle.std.proofs.lemmas.Grind.{div_ceil_times}
use Rattle.memory.specs.Spans.{overlaid, times}
use Rattle.memory.proofs.Pieces.{overlaid_none}
use Rattle.layers.specs.Laid.{laid}
use Rattle.layers.specs.Queue.{queue, over, queued_all, Once}
use Rattle.layers.proofs.Lays.{length_laid}
use Rattle.layers.proofs.QueueSpans.{queued_pixels, queued_no_pixels, queued_nothing, no_bytes, over_queued_all, bytes_times}
use Rattle.layers.proofs.Onces.{once_all}
use Rattle.layers.proofs.queue.WriteQueueMemory.fill.Goals as goal
use Rattle.layers.proofs.queue.WriteQueueMemory.fill.Goals.{then-through-gt0, else-through-gt0}

pub returns-then-is_empty-clause-kept : goal.returns-then-is_empty-clause-kept
returns-then-is_empty-clause-kept g c =
    let xs = c.args.pixel.now in
    sym (queued_nothing (queue (g.M.Memory.bytes c.args.self.now.below) c.args.self.now.pending) c.args.address (times xs c.args.count) (no_bytes xs c.args.count (search (rules, tests))))

pub returns-then-is_empty-clause-after : goal.returns-then-is_empty-clause-after
returns-then-is_empty-clause-after g c =
    let xs = c.args.pixel.now in
    sym (overlaid_none (laid (g.M.Memory.bytes c.args.self.now.below) c.args.self.now.pending) c.args.address (times xs c.args.count) (no_bytes xs c.args.count (search (rules, tests))))

bytes : (g : _) (c : goal.After-fill_each g) → (k : ℕ) → get_or c.args.pixel.now k 0 < 256
bytes g c k = let fits = c.type_inv.pixel k in omega arith

kept : (g : _) (c : goal.After-fill_each g) → queue (g.M.Memory.bytes c.fill_each.new.self.below) c.fill_each.new.self.pending
    ≡ queued_all (queue (g.M.Memory.bytes c.args.self.now.below) c.args.self.now.pending) c.args.address (times c.args.pixel.now c.args.count)
kept g c =
    let b = g.M.Memory.bytes in
    let old = queue (b c.args.self.now.below) c.args.self.now.pending in
    let a = c.args.address in
    let xs = c.args.pixel.now in
    let w = length xs in
    let n = c.min-inside.result in
    let t = c.through.result in
    let j = t / w in
    let k = c.div_ceil.result in
    let some : 0 < w = search (rules, tests) in
    let cut : n ≡ min (c.args.count * w) (length old.below - a) = omega (arith, length_laid old.below old.entries, (g.M.Memory.sound c.args.self.now.below).short) in
    let bounds = div_ceil_times n w some in
    let up : n ≤ k * w = rw c.div_ceil.ensures bounds.0 in
    let near : k * w < n + w = rw c.div_ceil.ensures bounds.1 in
    c.fill_each.ensures
    ∙ elim c.if-through-gt0.branch [
      | then-through-gt0 w' ↦
          let passed : 0 < t = omega (arith, div-le_self t w) in
          let now : queue (b c.if-through-gt0.self.below) c.if-through-gt0.self.pending ≡ queue (overlaid (over old) a (times xs j)) [] =
          ap (λ x. queue (b x.below) x.pending) w'.self-is
          ∙ ap (queue (b w'.fill.new.self)) (ap (λ q. q.entries) w'.drain.ensures)
          ∙ ap (λ m. queue m []) (w'.fill.ensures ∙ ap (λ q. overlaid q.below a (times xs j)) w'.drain.ensures) in
          ap (λ q. queued_all q (a + j * w) (times xs (k - j))) now
          ∙ queued_pixels old a xs c.args.count n j k cut up near t c.through.ensures.through (div-mul-le_self t w) passed (c.through.ensures.most passed) (bytes g c)
      | else-through-gt0 w' ↦
          let none : j ≡ 0 = omega arith in
          ap (λ x. queued_all (queue (b x.below) x.pending) (a + j * w) (times xs (k - j))) w'.self-is ∙ queued_no_pixels old a xs c.args.count n j k cut up near none
    ]

pub returns-clause-after : goal.returns-clause-after
returns-clause-after g c =
    ap over (kept g c)
    ∙ over_queued_all (queue (g.M.Memory.bytes c.args.self.now.below) c.args.self.now.pending) c.args.address (times c.args.pixel.now c.args.count)
    (bytes_times c.args.pixel.now c.args.count (bytes g c))

pub returns-clause-kept : goal.returns-clause-kept
returns-clause-kept g c = kept g c

pub returns-clause-once : goal.returns-clause-once
returns-clause-once g c o =
    let old = queue (g.M.Memory.bytes c.args.self.now.below) c.args.self.now.pending in
    subst (λ q. Once q.entries) (sym (kept g c)) (once_all old c.args.address (times c.args.pixel.now c.args.count) o)
