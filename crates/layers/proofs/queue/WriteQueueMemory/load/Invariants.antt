use Rattle.std.proofs.Common.{◌≡◌, length, take}
use Rattle.memory.specs.Spans.{span}
use Rattle.layers.specs.Laid.{laid}
use Rattle.layers.proofs.queue.WriteQueueMemory.load.Given as goal

abbrev pub invariant-loop-i : goal.invariant-loop-i
invariant-loop-i g l = l.into ≡ span (laid (g.M.Memory.bytes l.self.below) (take l.i l.self.pending)) l.address (length l.initial.into)
