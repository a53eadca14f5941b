use Rattle.std.proofs.Common.{◌≡◌, ◌*◌, ◌/◌, length, take, drop, ap, ◌∙◌, arith}
use Rattle.std.proofs.lemmas.List.{length-take, length-drop}
use Rattle.memory.specs.Boards.{of_words}
use Rattle.memory.specs.Spans.{span}
use Rattle.memory.proofs.Pieces.{span_last}
use Rattle.memory.proofs.WordSpans.{words_length}
use Rattle.memory.proofs.words.load_even.Goals as goal

pub overflow_add-address : goal.overflow_add-address
overflow_add-address c = omega (arith, words_length c.args.block.now)

pub returns-then-whole-into : goal.returns-then-whole-into
returns-then-whole-into c =
    let m = of_words c.args.block.now in
    let a = c.args.address in
    let xs = c.args.into.now in
    let whole = length xs / 2 * 2 in
    let e : 2 * (a / 2) ≡ a = omega arith in
    let n : length (take whole xs) ≡ whole = omega (arith, length-take whole xs) in
    let words : c.load_words.new.into ≡ span m a whole = c.load_words.ensures ∙ ap (λ q. span m q (length (take whole xs))) e ∙ ap (span m a) n in
    span_last m a c.load_words.new.into (drop whole xs) whole c.byte_at.result (length xs) words (omega arith) (omega (arith, length-drop whole xs)) c.byte_at.ensures
