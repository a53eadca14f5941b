use Rattle.std.proofs.Common.{◌≡◌, length}
use Rattle.layers.specs.Laid.{laid}
use Rattle.layers.proofs.queue.WriteQueue.drain.Given as goal

abbrev pub invariant-loop-self : goal.invariant-loop-self
invariant-loop-self g l =
    laid (g.M.Memory.bytes l.self.below) l.self.pending ≡ laid (g.M.Memory.bytes l.initial.self.below) l.initial.self.pending

abbrev pub decreases-loop-self : goal.decreases-loop-self
decreases-loop-self g l = length l.self.pending
