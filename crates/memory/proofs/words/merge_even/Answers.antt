use Rattle.std.proofs.Common.{◌≡◌, ◌+◌, ◌-◌, ◌*◌, ◌/◌, ◌%◌, ℕ, List, ap, ◌∙◌, arith}
use Rattle.memory.specs.Boards.{of_words}
use Rattle.memory.specs.Spans.{merged}
use Rattle.memory.proofs.Pieces.{merged_append, merged_size}
use Rattle.memory.proofs.WordSpans.{words_length}
use Rattle.memory.proofs.words.merge_even.Goals as goal

-- what the words made, in bytes
words_made : (f : ℕ → ℕ → ℕ) (m l : List ℕ) (a b c n : ℕ) → a % 2 ≡ 0 → b % 2 ≡ 0 → c % 2 ≡ 0 → n % 2 ≡ 1
    → l ≡ merged f m (2 * (a / 2)) (2 * (b / 2)) (2 * (c / 2)) (2 * (n / 2)) → l ≡ merged f m a b c (n - 1)
words_made f m l a b c n ea eb ec odd is =
    let pa : 2 * (a / 2) ≡ a = omega arith in
    let pb : 2 * (b / 2) ≡ b = omega arith in
    let pc : 2 * (c / 2) ≡ c = omega arith in
    let pn : 2 * (n / 2) ≡ n - 1 = omega arith in
    rw (pa, pb, pc, pn) at is

pub overflow_add-first : goal.overflow_add-first
overflow_add-first g c = omega (arith, words_length c.args.block.now)

pub overflow_add-second : goal.overflow_add-second
overflow_add-second g c = omega (arith, words_length c.args.block.now)

pub overflow_add-to : goal.overflow_add-to
overflow_add-to g c = omega (arith, words_length c.args.block.now)

pub merge_byte-requires-clause-first : goal.merge_byte-requires-clause-first
merge_byte-requires-clause-first g c = omega (arith, merged_size _ _ _ _ _ _ _ c.merge_words.ensures)

pub merge_byte-requires-clause-second : goal.merge_byte-requires-clause-second
merge_byte-requires-clause-second g c = omega (arith, merged_size _ _ _ _ _ _ _ c.merge_words.ensures)

pub merge_byte-requires-clause-to : goal.merge_byte-requires-clause-to
merge_byte-requires-clause-to g c = omega (arith, merged_size _ _ _ _ _ _ _ c.merge_words.ensures)

pub returns-then-count-eq1 : goal.returns-then-count-eq1
returns-then-count-eq1 g c =
    let f = g.F.ByteRule.gives c.args.rule in
    let m = of_words c.args.block.now in
    let a = c.args.first in
    let b = c.args.second in
    let d = c.args.to in
    let n = c.args.count - 1 in
    let e : n + 1 ≡ c.args.count = omega arith in
    let so_far : of_words c.merge_words.new.block ≡ merged f m a b d n =
    words_made f m (of_words c.merge_words.new.block) a b d c.args.count c.requires.even_first c.requires.even_second c.requires.even_to c.if-count-eq1.true c.merge_words.ensures in
    c.merge_byte.ensures
    ∙ ap (λ l. merged f l (a + n) (b + n) (d + n) 1) so_far
    ∙ merged_append f m a b d n 1
    ∙ ap (merged f m a b d) e
