use Rattle.std.proofs.Common.{◌≡◌, ◌<◌, ◌≤◌, ℕ, slice_index}
use Rattle.memory.proofs.words.merge_piece.Given as goal

abbrev pub invariant-loop-i : goal.invariant-loop-i
invariant-loop-i g l = record {
  made : (k : ℕ) → k < l.i → slice_index l.firsts k ≡ g.F.ByteRule.gives l.rule (slice_index l.initial.firsts k) (slice_index l.seconds k);
  other : (k : ℕ) → l.i ≤ k → slice_index l.firsts k ≡ slice_index l.initial.firsts k;
}
