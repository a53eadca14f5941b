use Rattle.std.proofs.Common.{◌≡◌, ◌+◌, ◌-◌, [], min, length, ap, ◌∙◌, arith, sym, subst}
use Rattle.pixel.specs.Rasters.{raster_channel}
use Rattle.memory.specs.Rasters.{raster_fits}
use Rattle.memory.specs.Spans.{merged}
use Rattle.layers.specs.Laid.{laid_sound}
use Rattle.layers.specs.Queue.{queue, over, queued_merged, Once}
use Rattle.layers.proofs.Lays.{length_laid}
use Rattle.layers.proofs.QueueMerges.{queued_merged_some, queued_merged_none, over_queued_merged}
use Rattle.layers.proofs.Onces.{once_merged}
use Rattle.layers.proofs.queue.WriteQueueMemory.raster.Goals as goal
use Rattle.layers.proofs.queue.WriteQueueMemory.raster.Goals.{then-through-gt0, else-through-gt0}

kept : (g : _) (c : goal.After-merge_each g) → queue (g.M.Memory.bytes c.merge_each.new.self.below) c.merge_each.new.self.pending
    ≡ queued_merged (raster_channel c.args.rule) (queue (g.M.Memory.bytes c.args.self.now.below) c.args.self.now.pending) c.args.first c.args.second c.args.to c.args.count
kept g c =
    let b = g.M.Memory.bytes in
    let f = raster_channel c.args.rule in
    let fits = raster_fits c.args.rule in
    let old = queue (b c.args.self.now.below) c.args.self.now.pending in
    let first = c.args.first in
    let second = c.args.second in
    let to = c.args.to in
    let n = c.min-inside.result in
    let t = c.through-through.result in
    let cut : n ≡ min c.args.count (length old.below - to) = omega (arith, length_laid old.below old.entries) in
    let bytes = (laid_sound old.below old.entries (g.M.Memory.sound c.args.self.now.below)).bytes in
    c.merge_each.ensures
    ∙ ap (λ r. queued_merged (raster_channel r) (queue (b c.if-through-gt0.self.below) c.if-through-gt0.self.pending) (first + t) (second + t) (to + t) (n - t)) c.of.ensures
    ∙ elim c.if-through-gt0.branch [
      | then-through-gt0 w ↦
          let now : queue (b c.if-through-gt0.self.below) c.if-through-gt0.self.pending ≡ queue (merged f (over old) first second to t) [] =
          ap (λ x. queue (b x.below) x.pending) w.self-is
          ∙ ap (queue (b w.raster.new.self)) (ap (λ q. q.entries) w.drain.ensures)
          ∙ ap (λ m. queue m []) (w.raster.ensures ∙ ap (λ q. merged f q.below first second to t) w.drain.ensures) in
          ap (λ q. queued_merged f q (first + t) (second + t) (to + t) (n - t)) now
          ∙ queued_merged_some f fits old first second to c.args.count n t cut c.through-through.ensures.through (omega arith) (c.through-through.ensures.most (omega arith)) bytes
      | else-through-gt0 w ↦
          ap (λ x. queued_merged f (queue (b x.below) x.pending) (first + t) (second + t) (to + t) (n - t)) w.self-is
          ∙ queued_merged_none f fits old first second to c.args.count n t cut (omega arith)
    ]

pub returns-clause-after : goal.returns-clause-after
returns-clause-after g c =
    let old = queue (g.M.Memory.bytes c.args.self.now.below) c.args.self.now.pending in
    ap over (kept g c)
    ∙ over_queued_merged (raster_channel c.args.rule) (raster_fits c.args.rule) old c.args.first c.args.second c.args.to c.args.count
    (laid_sound old.below old.entries (g.M.Memory.sound c.args.self.now.below)).bytes

pub returns-clause-kept : goal.returns-clause-kept
returns-clause-kept g c = kept g c

pub returns-clause-once : goal.returns-clause-once
returns-clause-once g c o =
    let f = raster_channel c.args.rule in
    let old = queue (g.M.Memory.bytes c.args.self.now.below) c.args.self.now.pending in
    subst (λ q. Once q.entries) (sym (kept g c)) (once_merged f old c.args.first c.args.second c.args.to c.args.count o)
