use Rattle.std.proofs.Common.{◌≡◌, ◌+◌, ◌-◌, ap, ◌∙◌, sym, subst, arith}
use Rattle.layers.specs.Laid.{laid_sound}
use Rattle.layers.specs.Queue.{queue, over, queued_merged, Once}
use Rattle.layers.proofs.QueueMerges.{over_queued_merged}
use Rattle.layers.proofs.Onces.{once_merged}
use Rattle.layers.proofs.queue.WriteQueue.merge.Goals as goal

kept : (g : _) (c : goal.After-merge_each g) → queue (g.M.Memory.bytes c.merge_each.new.self.below) c.merge_each.new.self.pending
    ≡ queued_merged (g.F.ByteRule.gives c.args.rule) (queue (g.M.Memory.bytes c.args.self.now.below) c.args.self.now.pending) c.args.first c.args.second c.args.to c.args.count
kept g c =
    let f = g.F.ByteRule.gives c.args.rule in
    let old = queue (g.M.Memory.bytes c.args.self.now.below) c.args.self.now.pending in
    let first : c.args.first + 0 ≡ c.args.first = omega arith in
    let second : c.args.second + 0 ≡ c.args.second = omega arith in
    let to : c.args.to + 0 ≡ c.args.to = omega arith in
    let count : c.args.count - 0 ≡ c.args.count = omega arith in
    c.merge_each.ensures
    ∙ ap (λ a. queued_merged f old a (c.args.second + 0) (c.args.to + 0) (c.args.count - 0)) first
    ∙ ap (λ a. queued_merged f old c.args.first a (c.args.to + 0) (c.args.count - 0)) second
    ∙ ap (λ a. queued_merged f old c.args.first c.args.second a (c.args.count - 0)) to
    ∙ ap (queued_merged f old c.args.first c.args.second c.args.to) count

pub returns-clause-after : goal.returns-clause-after
returns-clause-after g c =
    let old = queue (g.M.Memory.bytes c.args.self.now.below) c.args.self.now.pending in
    ap over (kept g c)
    ∙ over_queued_merged (g.F.ByteRule.gives c.args.rule) (g.F.ByteRule.fits c.args.rule) old c.args.first c.args.second c.args.to c.args.count
    (laid_sound old.below old.entries (g.M.Memory.sound c.args.self.now.below)).bytes

pub returns-clause-kept : goal.returns-clause-kept
returns-clause-kept g c = kept g c

pub returns-clause-once : goal.returns-clause-once
returns-clause-once g c o =
    let f = g.F.ByteRule.gives c.args.rule in
    let old = queue (g.M.Memory.bytes c.args.self.now.below) c.args.self.now.pending in
    subst (λ q. Once q.entries) (sym (kept g c)) (once_merged f old c.args.first c.args.second c.args.to c.args.count o)
