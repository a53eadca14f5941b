use Rattle.std.proofs.Common.{map, take}
use Rattle.complete.specs.Parts.{portion_of}
use Rattle.complete.proofs.Framing.{parted_only}
use Rattle.job.specs.Plans.{op_at}
use Rattle.job.specs.Works.{stage_of}
use Rattle.complete_jobs.proofs.PartedJob.draw_parts.Goals as goal

-- memory is as long as it was
pub step-requires : goal.step-requires
step-requires g c =
    let w = c.args.begun in
    let parts = map portion_of (take c.loop-part.part-index c.args.self.now.parts.now) in
    let kept = parted_only (op_at w.plan) c.args.self.now.palette (stage_of w (g.M.Memory.bytes c.args.memory.now)) parts in
    rw (c.loop-part.invariant.job, c.loop-part.invariant.memory, kept.size) c.requires
