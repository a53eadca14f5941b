use Rattle.std.proofs.Common.{◌-◌, ◌≡◌, ◌≤◌}
use Rattle.memory.specs.Boards.{of_words}
use Rattle.memory.specs.Spans.{copied}
use Rattle.memory.proofs.words.copy_pieces.Given as goal

abbrev pub invariant-loop-done : goal.invariant-loop-done
invariant-loop-done l = record {
  made : of_words l.block ≡ copied (of_words l.initial.block) l.from l.to l.done;
  within : l.done ≤ l.count;
}

abbrev pub decreases-loop-done : goal.decreases-loop-done
decreases-loop-done l = l.count - l.done
