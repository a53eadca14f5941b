use Rattle.std.proofs.Common.{◌≡◌, ◌+◌, ◌*◌, ◌/◌, length, get_or, set, take, ap, ◌∙◌, arith}
use Rattle.std.proofs.lemmas.List.{take_all}
use Rattle.memory.specs.Boards.{of_words}
use Rattle.memory.specs.Spans.{overlaid}
use Rattle.memory.proofs.Spans.{length_overlaid, overlaid_more}
use Rattle.memory.proofs.WordSpans.{words_length}
use Rattle.memory.proofs.words.store_even.Goals as goal

pub overflow_add-address : goal.overflow_add-address
overflow_add-address c = omega (arith, words_length c.args.block.now)

pub put-requires : goal.put-requires
put-requires c =
    let whole = length c.args.from.now / 2 * 2 in
    omega (arith, ap length c.store_words.ensures, length_overlaid (of_words c.args.block.now) (2 * (c.args.address / 2)) (take whole c.args.from.now))

pub returns-then-whole-from : goal.returns-then-whole-from
returns-then-whole-from c =
    let m = of_words c.args.block.now in
    let a = c.args.address in
    let xs = c.args.from.now in
    let whole = length xs / 2 * 2 in
    let e : 2 * (a / 2) ≡ a = omega arith in
    c.put.ensures
    ∙ ap (λ l. set l (a + whole) (get_or xs whole 0)) (c.store_words.ensures ∙ ap (λ q. overlaid m q (take whole xs)) e)
    ∙ overlaid_more m a xs whole (omega arith)
    ∙ ap (overlaid m a) (take_all (whole + 1) xs (omega arith))
