use Rattle.std.proofs.Common.{◌≡◌, ◌*◌, take}
use Rattle.memory.specs.Boards.{of_words}
use Rattle.memory.specs.Spans.{overlaid}
use Rattle.memory.proofs.words.store_words.Given as goal

abbrev pub invariant-loop-i : goal.invariant-loop-i
invariant-loop-i l =
    of_words l.block ≡ overlaid (of_words l.initial.block) (2 * l.place) (take (2 * l.i) l.from)
