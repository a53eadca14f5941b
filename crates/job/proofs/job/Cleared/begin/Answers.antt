use Rattle.formats.specs.Depths.{depth_format, depth_narrow}
use Rattle.rules.specs.Chosen.{rule_yields}
use Rattle.engine.proofs.Histories.{begun}
use Rattle.job.proofs.job.Cleared.begin.Goals as goal

pub returns-clause-history : goal.returns-clause-history
returns-clause-history c = λ p m.
    rw (c.default.ensures.0, c.default.ensures.1) (begun rule_yields depth_format depth_narrow c.self.inside.drawing c.self.inside.size c.self.invariant p m)
