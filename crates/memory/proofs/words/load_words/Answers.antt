use Rattle.std.proofs.Common.{◌≡◌, ◌+◌, ◌-◌, ◌*◌, ◌%◌, ◌/◌, [], ◌∷◌, ◌++◌, get_or, refl, ap, ◌∙◌, arith}
use Rattle.std.proofs.lemmas.Slice.{take-put_mid}
use Rattle.memory.specs.Boards.{of_words}
use Rattle.memory.specs.Spans.{span}
use Rattle.memory.proofs.WordSpans.{word_within, word_below, word_low, word_high, span_word}
use Rattle.memory.proofs.words.load_words.Goals as goal

pub loop-i-init : goal.loop-i-init
unfolding span
loop-i-init c = refl

pub overflow_add-place : goal.overflow_add-place
overflow_add-place c = omega (arith, word_below c.args.block.now (c.args.place + c.loop-i.i) (omega arith))

pub offset_bounds-block-place : goal.offset_bounds-block-place
offset_bounds-block-place c = omega (arith, word_below c.args.block.now (c.args.place + c.loop-i.i) (omega arith))

pub bounds-block-place : goal.bounds-block-place
bounds-block-place c = word_within c.args.block.now (c.args.place + c.loop-i.i) (omega arith)

pub loop-i-preserved : goal.loop-i-preserved
loop-i-preserved c =
    let i = c.loop-i.i in
    let p = c.args.place + i in
    let m = of_words c.args.block.now in
    let ys = c.copy_from_slice.new.self in
    let w = get_or c.args.block.now p 0 in
    let fits = c.type_inv.block p in
    let low = word_low c.args.block.now p 0 (omega arith) in
    let high = word_high c.args.block.now p 0 (omega arith) (omega arith) in
    let e : 2 * p ≡ 2 * c.args.place + 2 * i = omega arith in
    let low' : w % 256 ≡ get_or m (2 * c.args.place + 2 * i) 0 = rw e at low in
    let small : w / 256 % 256 ≡ w / 256 = omega arith in
    let high' : w / 256 % 256 ≡ get_or m (2 * c.args.place + 2 * i + 1) 0 = small ∙ rw e at high in
    let read : ys ≡ get_or m (2 * c.args.place + 2 * i) 0 ∷ get_or m (2 * c.args.place + 2 * i + 1) 0 ∷ [] =
    c.copy_from_slice.ensures.after ∙ c.to_le_bytes.ensures ∙ ap (λ v. v ∷ w / 256 % 256 ∷ []) low' ∙ ap (λ v. get_or m (2 * c.args.place + 2 * i) 0 ∷ v ∷ []) high' in
    take-put_mid (2 * i) (2 * i + 2 - 2 * i) c.loop-i.into ys (2 * (i + 1)) (omega arith) (omega arith)
    ∙ ap (λ l. l ++ ys) c.loop-i.invariant
    ∙ ap (λ l. span m (2 * c.args.place) (2 * i) ++ l) read
    ∙ span_word m (2 * c.args.place) i
