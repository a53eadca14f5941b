use Rattle.std.proofs.Common.{◌≡◌, ◌+◌, ◌-◌}
use Rattle.window.specs.Values.{value_at}
use Rattle.window.proofs.window.Window.value.Given as goal

abbrev pub invariant-loop-done : goal.invariant-loop-done
invariant-loop-done g l = l.value ≡ value_at (g.M.Memory.bytes l.memory) (l.from + (l.size.bytes - l.done)) l.done
