use Rattle.std.proofs.Common.{◌≡◌, ◌*◌}
use Rattle.memory.specs.Boards.{of_words}
use Rattle.memory.specs.Spans.{overlaid, times}
use Rattle.memory.proofs.words.repeat.Given as goal

abbrev pub invariant-loop-i : goal.invariant-loop-i
invariant-loop-i l =
    of_words l.block ≡ overlaid (of_words l.initial.block) (2 * l.place) (times l.bytes l.i)
