use Rattle.std.proofs.Common.{◌≡◌, ◌+◌, ◌*◌, ◌-◌, ◌++◌, length, take, drop, ap, ◌∙◌, arith}
use Rattle.std.specs.List.{between}
use Rattle.memory.specs.Boards.{of_words}
use Rattle.memory.specs.Spans.{overlaid, times}
use Rattle.memory.proofs.Fills.{one_more, fill_turned}
use Rattle.memory.proofs.WordSpans.{words_length}
use Rattle.memory.proofs.words.fill_odd.Goals as goal

pub overflow_add-address : goal.overflow_add-address
overflow_add-address c = omega (arith, one_more (c.args.count - 1) c.args.count (length c.args.pixel.now) (omega arith), words_length c.args.block.now)

pub overflow_add-address-2 : goal.overflow_add-address-2
overflow_add-address-2 c = omega (arith, one_more (c.args.count - 1) c.args.count (length c.args.pixel.now) (omega arith), words_length c.args.block.now)

pub overflow_mul-count : goal.overflow_mul-count
overflow_mul-count c = omega (arith, one_more (c.args.count - 1) c.args.count (length c.args.pixel.now) (omega arith), words_length c.args.block.now)

pub overflow_add-address-3 : goal.overflow_add-address-3
overflow_add-address-3 c = omega (arith, one_more (c.args.count - 1) c.args.count (length c.args.pixel.now) (omega arith), words_length c.args.block.now)

pub returns : goal.returns
returns c =
    let m = of_words c.args.block.now in
    let a = c.args.address in
    let xs = c.args.pixel.now in
    let n = c.args.count - 1 in
    let ys = between 1 (length xs) xs in
    let all : n + 1 ≡ c.args.count = omega arith in
    let turned : c.rotate_left.new.self ≡ drop 1 xs ++ take 1 xs =
    c.rotate_left.ensures.after ∙ ap (λ l. drop 1 l ++ take 1 l) c.copy_from_slice.ensures.after in
    c.store_at.ensures
    ∙ ap (λ l. overlaid l (a + 1 + n * length xs) ys) (c.fill_even.ensures ∙ ap (λ l. overlaid (of_words c.put.new.block) (a + 1) (times l n)) turned ∙ ap (λ l. overlaid l (a + 1) (times (drop 1 xs ++ take 1 xs) n)) c.put.ensures)
    ∙ fill_turned m a xs n (omega arith)
    ∙ ap (λ k. overlaid m a (times xs k)) all
