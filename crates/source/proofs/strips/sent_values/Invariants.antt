use Rattle.std.proofs.Common.{◌≡◌, ℕ, ◌*◌, ◌<◌}
use Rattle.window.specs.Values.{value_at}
use Rattle.source.proofs.strips.sent_values.Given as goal

abbrev pub invariant-loop-i : goal.invariant-loop-i
invariant-loop-i l = (j : ℕ) → j < l.i → value_at l.into (j * 4) 4 ≡ l.sent
