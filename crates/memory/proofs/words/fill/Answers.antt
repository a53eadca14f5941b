use Rattle.std.proofs.Common.{◌≡◌, length, ap, ◌∙◌, arith}
use Rattle.std.proofs.lemmas.List.{length-take-le}
use Rattle.memory.specs.Spans.{overlaid, times}
use Rattle.memory.proofs.WordSpans.{words_shown, words_replaced, past_replaced}
use Rattle.memory.proofs.words.fill.Goals as goal

pub returns-clause-after : goal.returns-clause-after
returns-clause-after c =
    let ws = c.args.block.now in
    let n = c.min-shown.result in
    let long : length c.fill_at.new.block ≡ n = c.fill_at.auto.block ∙ length-take-le n ws (omega arith) in
    words_replaced ws c.fill_at.new.block n c.min-shown.ensures long
    ∙ c.fill_at.ensures
    ∙ ap (λ m. overlaid m c.args.address (times c.args.pixel.now c.args.count)) (words_shown ws n c.min-shown.ensures)

pub returns-clause-rest : goal.returns-clause-rest
returns-clause-rest c =
    let ws = c.args.block.now in
    let n = c.min-shown.result in
    past_replaced ws c.fill_at.new.block n c.min-shown.ensures (c.fill_at.auto.block ∙ length-take-le n ws (omega arith))
