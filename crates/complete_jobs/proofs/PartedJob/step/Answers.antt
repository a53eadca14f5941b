use Rattle.complete_jobs.proofs.Stepping.{feed_steps, run_steps}
use Rattle.complete_jobs.proofs.PartedJob.step.Goals as goal

pub returns-in-Feed : goal.returns-in-Feed
returns-in-Feed g c =
    let same = feed_steps c.args.begun.now c.args.self.now.palette (g.M.Memory.bytes c.args.memory.now) c.requires c.in-Feed.bytes.now in
    rw (c.in-Feed.is, ← same) (record { job = c.feed.ensures.job; memory = c.feed.ensures.memory })

pub returns-in-Run : goal.returns-in-Run
returns-in-Run g c =
    let same = run_steps c.args.begun.now c.args.self.now.palette (g.M.Memory.bytes c.args.memory.now) c.requires c.in-Run.allowance in
    rw (c.in-Run.is, ← same) (record { job = c.run.ensures.job; memory = c.run.ensures.memory })
