use Rattle.complete.proofs.Undoing.{undo, exclusive_or_undoes_itself}
use Rattle.complete.proofs.laws.twice.Goals as goal

pub returns-clause-undone : goal.returns-clause-undone
returns-clause-undone g c = undo _ _ _ _ _ (g.M.Memory.sound c.args.memory) c.both.ensures.whole

pub returns-clause-law : goal.returns-clause-law
returns-clause-law g c = exclusive_or_undoes_itself
