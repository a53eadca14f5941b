use Rattle.std.proofs.Common.{rules, tests}
use Rattle.std.proofs.lemmas.Iterator.{YieldsList-from_slice}
use Rattle.std.proofs.lemmas.Iterator.Search.{any_from_yields_List}
use Rattle.layers.proofs.pending.Pending.waits_within.Goals as goal

pub returns-clause-waits : goal.returns-clause-waits
returns-clause-waits c = any_from_yields_List _ _ _ _ c.any.ensures.ran (YieldsList-from_slice c.args.self.now cc) (λ x b q k. search (rules, tests))
