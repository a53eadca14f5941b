use Rattle.std.proofs.Common.{◌≡◌, length, ap, ◌∙◌, arith}
use Rattle.std.proofs.lemmas.List.{length-take-le}
use Rattle.memory.specs.Spans.{overlaid}
use Rattle.memory.proofs.WordSpans.{words_shown, words_replaced, past_replaced}
use Rattle.memory.proofs.words.store.Goals as goal

pub returns-clause-after : goal.returns-clause-after
returns-clause-after c =
    let ws = c.args.block.now in
    let n = c.min-shown.result in
    let long : length c.store_at.new.block ≡ n = c.store_at.auto.block ∙ length-take-le n ws (omega arith) in
    words_replaced ws c.store_at.new.block n c.min-shown.ensures long
    ∙ c.store_at.ensures
    ∙ ap (λ m. overlaid m c.args.address c.args.from.now) (words_shown ws n c.min-shown.ensures)

pub returns-clause-rest : goal.returns-clause-rest
returns-clause-rest c =
    let ws = c.args.block.now in
    let n = c.min-shown.result in
    past_replaced ws c.store_at.new.block n c.min-shown.ensures (c.store_at.auto.block ∙ length-take-le n ws (omega arith))
