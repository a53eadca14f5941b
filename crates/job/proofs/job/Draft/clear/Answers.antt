use Rattle.job.proofs.Bounds.{lies, accepted_stays}
use Rattle.job.proofs.job.Draft.clear.Goals as goal

pub invariant_of-result : goal.invariant_of-result
invariant_of-result g c = lies c.self.inside.settings c.size-size.result c.in-Ok.drawing c.in-Ok.ensures

pub returns-in-Ok-clause-inside : goal.returns-in-Ok-clause-inside
returns-in-Ok-clause-inside g c = accepted_stays c.self.inside.settings c.size-size.result c.in-Ok.drawing c.in-Ok.ensures
