use Rattle.std.proofs.Common.{◌≡◌, ℕ, ◌+◌, ◌<◌, length, get_or}
use Rattle.memory.proofs.Memory.load.Given as goal

abbrev pub invariant-loop-i : goal.invariant-loop-i
invariant-loop-i g l = record {
  long : length l.into ≡ length l.initial.into;
  read : (k : ℕ) → k < l.i → get_or l.into k 0 ≡ get_or (g.Self.Memory.bytes l.self) (l.address + k) 0;
}
