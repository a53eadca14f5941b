use Rattle.std.proofs.Common.{◌∙◌}
use Rattle.memory.proofs.Spans.{merged_past, merged_clip}
use Rattle.memory.proofs.bytes.copy.Goals as goal

pub returns-then-to-size : goal.returns-then-to-size
returns-then-to-size c = merged_past (λ x _. x) c.args.memory.now c.args.from c.args.from c.args.to c.args.count c.if-to-size.true

pub returns-then-from-count : goal.returns-then-from-count
returns-then-from-count c =
    c.merge_any.ensures
    ∙ merged_clip (λ x _. x) c.args.memory.now c.args.from c.args.from c.args.to c.args.count c.min-count.result c.min-count.ensures

pub returns : goal.returns
returns c =
    c.copy_inside.ensures
    ∙ merged_clip (λ x _. x) c.args.memory.now c.args.from c.args.from c.args.to c.args.count c.min-count.result c.min-count.ensures
