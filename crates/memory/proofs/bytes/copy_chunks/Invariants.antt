use Rattle.std.proofs.Common.{◌≡◌, ◌*◌}
use Rattle.memory.specs.Spans.{copied}
use Rattle.memory.proofs.bytes.copy_chunks.Given as goal

abbrev pub invariant-loop-k : goal.invariant-loop-k
invariant-loop-k l = l.memory ≡ copied l.initial.memory l.from l.to (64 * l.k)
