use Rattle.std.proofs.Common.{◌≡◌, ◌+◌, ◌-◌, ap, ◌∙◌, arith}
use Rattle.memory.specs.Boards.{of_words}
use Rattle.memory.specs.Spans.{merged}
use Rattle.memory.proofs.Pieces.{merged_none, merged_append, merged_size}
use Rattle.memory.proofs.WordSpans.{words_length}
use Rattle.memory.proofs.words.merge_alike.Goals as goal

pub returns-then-count-eq0 : goal.returns-then-count-eq0
returns-then-count-eq0 g c =
    merged_none (g.F.ByteRule.gives c.args.rule) (of_words c.args.block.now) c.args.first c.args.second c.args.to c.args.count c.if-count-eq0.true

pub overflow_add-first : goal.overflow_add-first
overflow_add-first g c = omega (arith, words_length c.args.block.now)

pub overflow_add-second : goal.overflow_add-second
overflow_add-second g c = omega (arith, words_length c.args.block.now)

pub overflow_add-to : goal.overflow_add-to
overflow_add-to g c = omega (arith, words_length c.args.block.now)

pub merge_even-requires-2-clause-first : goal.merge_even-requires-2-clause-first
merge_even-requires-2-clause-first g c = omega (arith, merged_size _ _ _ _ _ _ _ c.merge_byte.ensures)

pub merge_even-requires-2-clause-second : goal.merge_even-requires-2-clause-second
merge_even-requires-2-clause-second g c = omega (arith, merged_size _ _ _ _ _ _ _ c.merge_byte.ensures)

pub merge_even-requires-2-clause-to : goal.merge_even-requires-2-clause-to
merge_even-requires-2-clause-to g c = omega (arith, merged_size _ _ _ _ _ _ _ c.merge_byte.ensures)

pub returns : goal.returns
returns g c =
    let f = g.F.ByteRule.gives c.args.rule in
    let m = of_words c.args.block.now in
    let a = c.args.first in
    let b = c.args.second in
    let d = c.args.to in
    let n = c.args.count - 1 in
    let e : 1 + n ≡ c.args.count = omega arith in
    c.merge_even-2.ensures
    ∙ ap (λ l. merged f l (a + 1) (b + 1) (d + 1) n) c.merge_byte.ensures
    ∙ merged_append f m a b d 1 n
    ∙ ap (merged f m a b d) e
