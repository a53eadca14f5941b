use Rattle.std.proofs.Common.{subst, refl}
use Rattle.source.specs.Origins.{origin_of}
use Rattle.source.specs.Strips.{Ahead}
use Rattle.engine.proofs.drawing.Drawing.keeps_ahead.Goals as goal

pub returns-then-keeps_ahead-clause-first : goal.returns-then-keeps_ahead-clause-first
returns-then-keeps_ahead-clause-first g c = λ _.
    subst (Ahead (origin_of c.args.self.now.first) c.args.k c.args.count c.args.at) c.bytes_per_pixel-bytes.ensures (c.if-keeps_ahead.ensures refl)

pub returns-then-keeps_ahead-clause-second : goal.returns-then-keeps_ahead-clause-second
returns-then-keeps_ahead-clause-second g c = λ e.
    subst (Ahead (origin_of c.args.self.now.second) c.args.k c.args.count c.args.at) c.bytes_per_pixel-bytes.ensures (c.keeps_ahead-then-keeps_ahead.ensures e)
