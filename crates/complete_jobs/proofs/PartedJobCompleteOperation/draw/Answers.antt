use Rattle.std.proofs.Common.{length, ap, ◌∙◌}
use Rattle.job.specs.Works.{cleared, clearing}
use Rattle.complete_jobs.proofs.Clearing.{drawn_refused, serves_fresh, drawn_job}
use Rattle.complete_jobs.proofs.PartedJobCompleteOperation.draw.Goals as goal
use Rattle.complete_jobs.proofs.PartedJobCompleteOperation.draw.Goals.{in-Ok, in-Err}

pub draw_parts-complete-requires : goal.draw_parts-complete-requires
draw_parts-complete-requires g c =
    let m = g.M.Memory.bytes c.args.memory in
    serves_fresh c.args.self.now.settings m c.begin.result (ap cleared c.begin.ensures.work ∙ c.in-Ok.ensures.answer ∙ ap (λ s. clearing s (length m)) c.new.ensures)

pub returns : goal.returns
returns g c =
    let self = c.args.self.now in
    let m = g.M.Memory.bytes c.args.memory in
    let set = ap (λ s. clearing s (length m)) c.new.ensures in
    elim c.match-clear.branch [
      | in-Ok w ↦
          drawn_job self.settings m self.palette self.parts.now _ _ w.begin.result (ap cleared w.begin.ensures.work ∙ w.in-Ok.ensures.answer ∙ set)
          (ap g.M.Memory.bytes w.memory-is ∙ w.draw_parts-complete.ensures.memory) (w.complete-is ∙ w.draw_parts-complete.ensures.ended)
      | in-Err w ↦
          drawn_refused self.settings m self.palette self.parts.now _ _ _ _ (w.in-Err.ensures.answer ∙ set) (ap g.M.Memory.bytes w.memory-is) w.complete-is
    ]
