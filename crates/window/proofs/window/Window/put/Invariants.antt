use Rattle.std.proofs.Common.{◌≡◌, ◌+◌, ◌-◌, ◌/◌, ◌^◌}
use Rattle.window.specs.Values.{stored}
use Rattle.window.proofs.window.Window.put.Given as goal

abbrev pub invariant-loop-i : goal.invariant-loop-i
invariant-loop-i g l =
    stored (g.M.Memory.bytes l.memory) (l.to + l.i) (l.fn.size.bytes - l.i) (l.value / 256 ^ l.i)
    ≡ stored (g.M.Memory.bytes l.initial.memory) l.to l.fn.size.bytes l.value
