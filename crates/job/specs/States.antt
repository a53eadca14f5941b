-- What the states of a job are as plain values.
use Rattle.engine.specs.Fed.{waits}
use Rattle.job.specs.declared.job.Begun.TheInside as begun
use Rattle.job.specs.declared.job.Cleared.TheInside as cleared
use Rattle.job.specs.Plans.{plan_of}
use Rattle.job.specs.Works.{Work, fresh_work}

abbrev pub work_of : begun.Inside → Work
work_of b = record { plan = plan_of b.drawing; size = b.size; drawn = b.progress.drawn; waiting = waits b.progress.waiting }

-- nothing is drawn of a cleared job
abbrev pub cleared_work : cleared.Inside → Work
cleared_work c = fresh_work (plan_of c.drawing) c.size
