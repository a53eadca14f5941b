use Rattle.std.proofs.Common.{length, arith}
use Rattle.memory.proofs.Spans.{is_span}
use Rattle.memory.proofs.Memory.load.Goals as goal

pub returns : goal.returns
returns g c =
    is_span (g.Self.Memory.bytes c.args.self.now) c.args.address (length c.args.into.now) c.loop-i.into c.loop-i.invariant.long
    (λ k h. c.loop-i.invariant.read k (omega arith))
