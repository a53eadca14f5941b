use Rattle.std.proofs.Common.{◌≡◌, length, ap, ◌∙◌, arith}
use Rattle.std.proofs.lemmas.List.{length-take-le}
use Rattle.memory.specs.Spans.{copied}
use Rattle.memory.proofs.WordSpans.{words_shown, words_replaced, past_replaced}
use Rattle.memory.proofs.words.copy.Goals as goal

pub returns-clause-after : goal.returns-clause-after
returns-clause-after c =
    let ws = c.args.block.now in
    let n = c.min-shown.result in
    let long : length c.copy_at.new.block ≡ n = c.copy_at.auto.block ∙ length-take-le n ws (omega arith) in
    words_replaced ws c.copy_at.new.block n c.min-shown.ensures long
    ∙ c.copy_at.ensures
    ∙ ap (λ m. copied m c.args.from c.args.to c.args.count) (words_shown ws n c.min-shown.ensures)

pub returns-clause-rest : goal.returns-clause-rest
returns-clause-rest c =
    let ws = c.args.block.now in
    let n = c.min-shown.result in
    past_replaced ws c.copy_at.new.block n c.min-shown.ensures (c.copy_at.auto.block ∙ length-take-le n ws (omega arith))
