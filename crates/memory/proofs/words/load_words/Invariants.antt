use Rattle.std.proofs.Common.{◌≡◌, ◌*◌, take}
use Rattle.memory.specs.Boards.{of_words}
use Rattle.memory.specs.Spans.{span}
use Rattle.memory.proofs.words.load_words.Given as goal

abbrev pub invariant-loop-i : goal.invariant-loop-i
invariant-loop-i l = take (2 * l.i) l.into ≡ span (of_words l.block) (2 * l.place) (2 * l.i)
