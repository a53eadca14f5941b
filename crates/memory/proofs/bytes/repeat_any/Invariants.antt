use Rattle.std.proofs.Common.{◌≡◌, ◌+◌, ◌*◌, take}
use Rattle.memory.specs.Spans.{overlaid, times}
use Rattle.memory.proofs.bytes.repeat_any.Given as goal

abbrev pub invariant-loop-k : goal.invariant-loop-k
invariant-loop-k l = l.memory ≡ overlaid l.initial.memory l.start (times l.pixel l.k)

abbrev pub invariant-loop-j : goal.invariant-loop-j
invariant-loop-j l = l.memory ≡ overlaid l.initial.memory (l.start + l.k * l.width) (take l.j l.pixel)
