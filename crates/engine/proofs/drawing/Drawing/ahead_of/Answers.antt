use Rattle.std.proofs.Common.{subst, refl}
use Rattle.source.specs.Origins.{origin_of}
use Rattle.source.specs.Strips.{Ahead}
use Rattle.engine.proofs.drawing.Drawing.ahead_of.Goals as goal

pub returns-then-keeps_ahead-clause-ahead : goal.returns-then-keeps_ahead-clause-ahead
returns-then-keeps_ahead-clause-ahead g c =
    subst (Ahead (origin_of c.args.self.now.second) c.args.k c.args.most c.args.at) c.bytes_per_pixel-bytes.ensures (c.if-keeps_ahead.ensures refl)

pub returns-then-keeps_ahead-2-clause-ahead : goal.returns-then-keeps_ahead-2-clause-ahead
returns-then-keeps_ahead-2-clause-ahead g c =
    subst (Ahead (origin_of c.args.self.now.second) c.args.k c.min-row.result c.args.at) c.bytes_per_pixel-bytes.ensures (c.if-keeps_ahead-2.ensures refl)
