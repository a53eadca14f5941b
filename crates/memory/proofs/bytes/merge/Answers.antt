use Rattle.std.proofs.Common.{ap, sym, ◌∙◌}
use Rattle.memory.specs.Spans.{merged}
use Rattle.memory.proofs.Spans.{merged_past, merged_clip}
use Rattle.memory.proofs.bytes.merge.Goals as goal

pub returns-then-to-size : goal.returns-then-to-size
returns-then-to-size g c =
    merged_past (g.F.ByteRule.gives c.args.rule) c.args.memory.now c.args.first c.args.second c.args.to c.args.count c.if-to-size.true

pub returns-then-first-count : goal.returns-then-first-count
returns-then-first-count g c =
    c.merge_any.ensures
    ∙ merged_clip (g.F.ByteRule.gives c.args.rule) c.args.memory.now c.args.first c.args.second c.args.to c.args.count c.min-count.result c.min-count.ensures

pub returns-then-second-to : goal.returns-then-second-to
returns-then-second-to g c =
    c.merge_inside.ensures
    ∙ ap (λ b. merged (g.F.ByteRule.gives c.args.rule) c.args.memory.now c.args.first b c.args.to c.min-count.result) (sym c.if-second-to.true)
    ∙ merged_clip (g.F.ByteRule.gives c.args.rule) c.args.memory.now c.args.first c.args.second c.args.to c.args.count c.min-count.result c.min-count.ensures

pub returns-else-second-to : goal.returns-else-second-to
returns-else-second-to g c =
    c.merge_inside-else-second-to.ensures
    ∙ merged_clip (g.F.ByteRule.gives c.args.rule) c.args.memory.now c.args.first c.args.second c.args.to c.args.count c.min-count.result c.min-count.ensures
