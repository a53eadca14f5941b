use Rattle.std.proofs.Common.{◌+◌, set, get_or, ◌∙◌, ap, refl}
use Rattle.memory.specs.Spans.{merged}
use Rattle.memory.proofs.Spans.{merged_more}
use Rattle.memory.proofs.bytes.merge_any.Goals as goal

pub loop-i-init : goal.loop-i-init
unfolding merged
loop-i-init g c = refl

pub loop-i-preserved : goal.loop-i-preserved
loop-i-preserved g c =
    let f = g.F.ByteRule.gives c.args.rule in
    let i = c.loop-i.i in
    ap (set c.loop-i.memory (c.args.to + i)) (c.byte.ensures ∙ ap (λ x. f x c.byte_at-in-loop-i.result) c.byte_at.ensures ∙ ap (f (get_or c.loop-i.memory (c.args.first + i) 0)) c.byte_at-in-loop-i.ensures)
    ∙ ap (λ l. set l (c.args.to + i) (f (get_or l (c.args.first + i) 0) (get_or l (c.args.second + i) 0))) c.loop-i.invariant
    ∙ merged_more f c.args.memory.now c.args.first c.args.second c.args.to i
