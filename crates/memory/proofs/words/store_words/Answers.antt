use Rattle.std.proofs.Common.{◌≡◌, ◌<◌, ◌+◌, ◌*◌, length, get_or, set, take, refl, ap, ◌∙◌, arith}
use Rattle.memory.specs.Boards.{of_words}
use Rattle.memory.specs.Spans.{overlaid}
use Rattle.memory.proofs.Spans.{length_overlaid}
use Rattle.memory.proofs.WordSpans.{words_put, word_within, word_below, overlaid_word}
use Rattle.memory.proofs.words.store_words.Goals as goal

pub loop-i-init : goal.loop-i-init
unfolding overlaid
loop-i-init c = refl

pub overflow_add-block : goal.overflow_add-block
overflow_add-block c = omega (arith, word_below c.args.block.now (c.args.place + c.loop-i.i) (omega arith))

pub offset_bounds-block-place : goal.offset_bounds-block-place
offset_bounds-block-place c = omega (arith, word_below c.args.block.now (c.args.place + c.loop-i.i) (omega arith))

pub bounds-block-place : goal.bounds-block-place
bounds-block-place c = omega (arith, word_within c.args.block.now (c.args.place + c.loop-i.i) (omega arith))

pub loop-i-preserved : goal.loop-i-preserved
loop-i-preserved c =
    let i = c.loop-i.i in
    let p = c.args.place + i in
    let xs = c.args.from.now in
    let x = get_or xs (2 * i) 0 in
    let y = get_or xs (2 * i + 1) 0 in
    let m = of_words c.args.block.now in
    let so_far = c.loop-i.invariant in
    let long : 2 * p + 1 < length (of_words c.loop-i.block) = omega (arith, ap length so_far, length_overlaid m (2 * c.args.place) (take (2 * i) xs)) in
    let e : 2 * p ≡ 2 * c.args.place + 2 * i = omega arith in
    let word : c.from_le_bytes.result ≡ x + 256 * y = omega arith in
    rw word
    (words_put c.loop-i.block p x y long (omega (arith, c.type_inv.from (2 * i))) (omega (arith, c.type_inv.from (2 * i + 1)))
    ∙ ap (λ l. set (set l (2 * p) x) (2 * p + 1) y) so_far
    ∙ ap (λ q. set (set (overlaid m (2 * c.args.place) (take (2 * i) xs)) q x) (q + 1) y) e
    ∙ overlaid_word m (2 * c.args.place) xs i (omega arith))
