use Rattle.std.proofs.Common.{◌≡◌, length, ap, ◌∙◌, arith}
use Rattle.std.proofs.lemmas.List.{length-take-le}
use Rattle.memory.specs.Spans.{merged}
use Rattle.memory.proofs.WordSpans.{words_shown, words_replaced, past_replaced}
use Rattle.memory.proofs.words.merge.Goals as goal

pub returns-clause-after : goal.returns-clause-after
returns-clause-after g c =
    let ws = c.args.block.now in
    let n = c.min-shown.result in
    let long : length c.merge_at.new.block ≡ n = c.merge_at.auto.block ∙ length-take-le n ws (omega arith) in
    words_replaced ws c.merge_at.new.block n c.min-shown.ensures long
    ∙ c.merge_at.ensures
    ∙ ap (λ m. merged (g.F.ByteRule.gives c.args.rule) m c.args.first c.args.second c.args.to c.args.count) (words_shown ws n c.min-shown.ensures)

pub returns-clause-rest : goal.returns-clause-rest
returns-clause-rest g c =
    let ws = c.args.block.now in
    let n = c.min-shown.result in
    past_replaced ws c.merge_at.new.block n c.min-shown.ensures (c.merge_at.auto.block ∙ length-take-le n ws (omega arith))
