use Rattle.samples.proofs.Feeding.{Feeding}
use Rattle.samples.proofs.feed.Given as goal

abbrev pub invariant-loop-i : goal.invariant-loop-i
invariant-loop-i g l =
    Feeding g.B.AsSlice.items l.initial.begun l.palette (g.M.Memory.bytes l.initial.memory) l.bursts l.i l.answers l.begun (g.M.Memory.bytes l.memory)
