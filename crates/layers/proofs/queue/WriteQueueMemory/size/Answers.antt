use Rattle.std.proofs.Common.{sym, ◌∙◌}
use Rattle.layers.proofs.Lays.{length_laid}
use Rattle.layers.proofs.queue.WriteQueueMemory.size.Goals as goal

pub returns : goal.returns
returns g c = let q = c.args.self.now in c.size.ensures ∙ sym (length_laid (g.M.Memory.bytes q.below) q.pending)
