use Rattle.std.proofs.Common.{◌≡◌, ◌<◌, ◌+◌, length, take, sym, ap, ◌∙◌, arith}
use Rattle.std.specs.List.{between}
use Rattle.std.proofs.lemmas.List.{length-take}
use Rattle.std.proofs.lemmas.Bool.Decides.{nat_tests}
use Rattle.memory.specs.Boards.{of_words}
use Rattle.memory.specs.Spans.{overlaid}
use Rattle.memory.proofs.Pieces.{overlaid_cut, overlaid_none, overlaid_first}
use Rattle.memory.proofs.WordSpans.{words_length}
use Rattle.memory.proofs.words.store_at.Goals as goal

pub returns-then-is_empty : goal.returns-then-is_empty
returns-then-is_empty c =
    let m = of_words c.args.block.now in
    let xs = c.args.from.now in
    let n = c.min.result in
    let none : length (take n xs) ≡ 0 = grind (arith, nat_tests) in
    sym (overlaid_none m c.args.address (take n xs) none) ∙ overlaid_cut m c.args.address xs n (omega arith)

pub returns-then-address-eq0 : goal.returns-then-address-eq0
returns-then-address-eq0 c = c.store_even.ensures ∙ overlaid_cut (of_words c.args.block.now) c.args.address c.args.from.now c.min.result (omega arith)

pub overflow_add-address : goal.overflow_add-address
overflow_add-address c =
    let some : 0 < length (take c.min.result c.args.from.now) = grind (arith, nat_tests) in
    omega (arith, length-take c.min.result c.args.from.now, words_length c.args.block.now)

pub returns : goal.returns
returns c =
    let m = of_words c.args.block.now in
    let a = c.args.address in
    let xs = c.args.from.now in
    let n = c.min.result in
    let some : 0 < length (take n xs) = grind (arith, nat_tests) in
    c.store_even-2.ensures
    ∙ ap (λ l. overlaid l (a + 1) (between 1 (length (take n xs)) (take n xs))) c.put.ensures
    ∙ overlaid_first m a (take n xs) some
    ∙ overlaid_cut m a xs n (omega arith)
