use Rattle.complete_jobs.proofs.Undoing.{settings_undone, settings_undo_themselves}
use Rattle.complete_jobs.proofs.settings_twice.Goals as goal

pub returns-clause-undone : goal.returns-clause-undone
returns-clause-undone g c = settings_undone _ _ _ _ _ c.twice.ensures.undone

pub returns-clause-law : goal.returns-clause-law
returns-clause-law g c = settings_undo_themselves c.twice.ensures.law
