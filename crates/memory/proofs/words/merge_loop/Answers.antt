use Rattle.std.proofs.Common.{◌≡◌, ◌+◌, ◌*◌, length, refl, ap, ◌∙◌, arith}
use Rattle.memory.specs.Boards.{of_words}
use Rattle.memory.specs.Spans.{merged}
use Rattle.memory.proofs.Spans.{length_merged}
use Rattle.memory.proofs.WordSpans.{words_length, word_within, word_made, word_merged, merged_word, set_word}
use Rattle.memory.proofs.words.merge_loop.Goals as goal

pub loop-i-init : goal.loop-i-init
unfolding merged
loop-i-init g c = record { made = refl; words = λ k. omega (arith, c.type_inv.block k) }

pub overflow_add-first : goal.overflow_add-first
overflow_add-first g c = omega (arith, words_length c.args.block.now)

pub offset_bounds-block-first : goal.offset_bounds-block-first
offset_bounds-block-first g c = omega (arith, words_length c.args.block.now)

pub bounds-block-first : goal.bounds-block-first
bounds-block-first g c = omega (arith, word_within c.args.block.now (c.args.first + c.loop-i.i) (omega arith))

pub overflow_add-second : goal.overflow_add-second
overflow_add-second g c = omega (arith, words_length c.args.block.now)

pub offset_bounds-block-second : goal.offset_bounds-block-second
offset_bounds-block-second g c = omega (arith, words_length c.args.block.now)

pub bounds-block-second : goal.bounds-block-second
bounds-block-second g c = omega (arith, word_within c.args.block.now (c.args.second + c.loop-i.i) (omega arith))

pub overflow_add-block : goal.overflow_add-block
overflow_add-block g c = omega (arith, words_length c.args.block.now)

pub offset_bounds-block-to : goal.offset_bounds-block-to
offset_bounds-block-to g c = omega (arith, words_length c.args.block.now)

pub bounds-block-to : goal.bounds-block-to
bounds-block-to g c = omega (arith, word_within c.args.block.now (c.args.to + c.loop-i.i) (omega arith))

pub loop-i-preserved : goal.loop-i-preserved
loop-i-preserved g c =
    let f = g.F.ByteRule.gives c.args.rule in
    let i = c.loop-i.i in
    let m = of_words c.args.block.now in
    let so_far = c.loop-i.invariant.made in
    let long : length (of_words c.loop-i.block) ≡ length m = ap length so_far ∙ length_merged f m (2 * c.args.first) (2 * c.args.second) (2 * c.args.to) (2 * i) in
    record {
      made =
          word_merged f c.loop-i.block (c.args.first + i) (c.args.second + i) (c.args.to + i) c.word.result (omega arith) (omega arith) (omega arith)
          (c.loop-i.invariant.words (c.args.first + i)) (c.loop-i.invariant.words (c.args.second + i)) c.word.type_inv c.word.ensures.low c.word.ensures.high
          ∙ ap (word_made f (c.args.first + i) (c.args.second + i) (c.args.to + i)) so_far
          ∙ merged_word f m c.args.first c.args.second c.args.to i;
      words = set_word c.loop-i.block c.loop-i.invariant.words (c.args.to + i) c.word.result c.word.type_inv;
    }
