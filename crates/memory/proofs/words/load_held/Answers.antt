use Rattle.std.proofs.Common.{◌≡◌, List, ℕ, take, drop, ◌<◌, ◌+◌, ◌-◌, length, set, ap, ◌∙◌, arith}
use Rattle.std.proofs.lemmas.List.{length-set, length-take, length-drop}
use Rattle.std.proofs.lemmas.Bool.Decides.{nat_tests}
use Rattle.memory.specs.Boards.{of_words}
use Rattle.memory.specs.Spans.{span}
use Rattle.memory.proofs.Pieces.{span_none, span_first}
use Rattle.memory.proofs.WordSpans.{words_length}
use Rattle.memory.proofs.words.load_held.Goals as goal

length_tail : (xs : List ℕ) (x : ℕ) → length (take (length (set xs 0 x) - 1) (drop 1 (set xs 0 x))) ≡ length (set xs 0 x) - 1
length_tail xs x = omega (arith, length-take (length (set xs 0 x) - 1) (drop 1 (set xs 0 x)), length-drop 1 (set xs 0 x))

pub returns-then-is_empty : goal.returns-then-is_empty
returns-then-is_empty c =
    let none : length c.args.into.now ≡ 0 = grind (arith, nat_tests) in
    span_none (of_words c.args.block.now) c.args.address c.args.into.now none

pub overflow_add-address : goal.overflow_add-address
overflow_add-address c =
    let some : 0 < length c.args.into.now = grind (arith, nat_tests) in
    omega (arith, words_length c.args.block.now)

pub returns : goal.returns
returns c =
    let xs = c.args.into.now in
    let x = c.byte_at.result in
    let k = length (set xs 0 x) - 1 in
    let long = length-set xs 0 x in
    let some : 0 < length xs = grind (arith, nat_tests) in
    span_first (of_words c.args.block.now) c.args.address xs c.load_even-2.new.into x k some (omega arith)
    (c.load_even-2.ensures ∙ ap (span (of_words c.args.block.now) (c.args.address + 1)) (length_tail xs x)) c.byte_at.ensures
