use Rattle.std.proofs.Common.{ap, ◌∙◌}
use Rattle.job.specs.Works.{at_stage}
use Rattle.speed.proofs.Feeding.{feed_is, still_serves}
use Rattle.speed.proofs.by_job.feed_burst.Goals as goal

pub returns : goal.returns
returns g c =
    let w = c.args.begun.now in
    let p = c.args.palette.now in
    let m = g.M.Memory.bytes c.args.memory.now in
    let xs = c.args.bytes.now in
    let same = feed_is w p m c.requires xs in
    let job = c.feed.ensures.job ∙ ap (at_stage w) same in
    let memory = c.feed.ensures.memory ∙ ap (λ s. s.memory) same in
    record { job = job; memory = memory; fits = still_serves w p m c.requires xs _ _ job memory }
