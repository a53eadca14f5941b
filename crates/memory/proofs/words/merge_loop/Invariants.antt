use Rattle.std.proofs.Common.{◌≡◌, ◌*◌, ℕ, ◌<◌, slice_index}
use Rattle.memory.specs.Boards.{of_words}
use Rattle.memory.specs.Spans.{merged}
use Rattle.memory.proofs.words.merge_loop.Given as goal

abbrev pub invariant-loop-i : goal.invariant-loop-i
invariant-loop-i g l = record {
  made : of_words l.block ≡ merged (g.F.ByteRule.gives l.rule) (of_words l.initial.block) (2 * l.first) (2 * l.second) (2 * l.to) (2 * l.i);
  words : (k : ℕ) → slice_index l.block k < 65536;
}
