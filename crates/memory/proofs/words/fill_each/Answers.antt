use Rattle.std.proofs.Common.{◌+◌, ◌*◌, length, refl, ap, ◌∙◌, arith}
use Rattle.memory.specs.Boards.{of_words}
use Rattle.memory.specs.Spans.{overlaid, times}
use Rattle.memory.proofs.Spans.{times_more}
use Rattle.memory.proofs.Fills.{one_more}
use Rattle.memory.proofs.WordSpans.{words_length}
use Rattle.memory.proofs.words.fill_each.Goals as goal

pub loop-i-init : goal.loop-i-init
unfolding overlaid times
loop-i-init c = refl

pub overflow_mul-i : goal.overflow_mul-i
overflow_mul-i c = omega (arith, one_more c.loop-i.i c.args.count (length c.args.pixel.now) c.loop-i-test.true, words_length c.args.block.now)

pub overflow_add-address : goal.overflow_add-address
overflow_add-address c = omega (arith, one_more c.loop-i.i c.args.count (length c.args.pixel.now) c.loop-i-test.true, words_length c.args.block.now)

pub loop-i-preserved : goal.loop-i-preserved
loop-i-preserved c =
    let m = of_words c.args.block.now in
    let a = c.args.address in
    let i = c.loop-i.i in
    let xs = c.args.pixel.now in
    c.store_at.ensures ∙ ap (λ l. overlaid l (a + i * length xs) xs) c.loop-i.invariant ∙ times_more m a xs i
