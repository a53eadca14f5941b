use Rattle.std.proofs.Common.{◌≡◌, map, take}
use Rattle.complete.specs.Parts.{portion_of, parted}
use Rattle.job.specs.Plans.{op_at}
use Rattle.job.specs.Works.{stage_of, at_stage}
use Rattle.complete_jobs.proofs.PartedJob.draw_parts.Given as goal

abbrev pub invariant-loop-part : goal.invariant-loop-part
invariant-loop-part g l =
    let so_far = parted (op_at l.initial.begun.plan) l.self.palette (stage_of l.initial.begun (g.M.Memory.bytes l.initial.memory)) (map portion_of (take l.part-index l.self.parts.now)) in
    record { job : l.begun ≡ at_stage l.initial.begun so_far; memory : g.M.Memory.bytes l.memory ≡ so_far.memory }
