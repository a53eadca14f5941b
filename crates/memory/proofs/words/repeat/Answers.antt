use Rattle.std.proofs.Common.{◌≡◌, ◌+◌, ◌*◌, length, refl, ap, ◌∙◌, arith}
use Rattle.memory.specs.Boards.{of_words}
use Rattle.memory.specs.Spans.{overlaid, times}
use Rattle.memory.proofs.Spans.{length_overlaid, times_more}
use Rattle.memory.proofs.WordSpans.{words_length}
use Rattle.memory.proofs.words.repeat.Goals as goal

pub loop-i-init : goal.loop-i-init
unfolding overlaid times
loop-i-init c = refl

pub overflow_mul-i : goal.overflow_mul-i
overflow_mul-i c = omega (arith, words_length c.args.block.now)

pub overflow_add-place : goal.overflow_add-place
overflow_add-place c = omega (arith, words_length c.args.block.now)

pub store_words-requires : goal.store_words-requires
store_words-requires c =
    let so_far = ap length c.loop-i.invariant ∙ length_overlaid (of_words c.args.block.now) (2 * c.args.place) (times c.args.bytes.now c.loop-i.i) in
    record { whole = rw c.told-bytes refl; room = omega (arith, c.told-bytes, so_far) }

pub loop-i-preserved : goal.loop-i-preserved
loop-i-preserved c =
    let m = of_words c.args.block.now in
    let i = c.loop-i.i in
    let xs = c.args.bytes.now in
    let width : length xs ≡ 48 = c.told-bytes in
    let at : 2 * (c.args.place + i * 24) ≡ 2 * c.args.place + i * length xs = omega (arith, ap (λ n. i * n) width) in
    c.store_words.ensures
    ∙ ap (λ a. overlaid (of_words c.loop-i.block) a xs) at
    ∙ ap (λ l. overlaid l (2 * c.args.place + i * length xs) xs) c.loop-i.invariant
    ∙ times_more m (2 * c.args.place) xs i
