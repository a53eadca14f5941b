use Rattle.std.proofs.Common.{ap, ◌∙◌}
use Rattle.speed.specs.Jobs.{ended}
use Rattle.speed.proofs.Clearing.{blank_is}
use Rattle.speed.proofs.by_job.draw.Goals as goal

pub returns : goal.returns
returns g c =
    let m = g.M.Memory.bytes c.args.memory.now in
    let new = blank_is c.new-palette.result c.new-palette.ensures in
    let done = ap (λ p. ended c.args.begun p m c.args.sent.now) new in
    record {
      pixels = c.drawn.ensures ∙ c.close.ensures ∙ ap (λ w. w.drawn) c.finish.ensures.job ∙ ap (λ s. s.drawn) done;
      memory = c.finish.ensures.memory ∙ ap (λ s. s.memory) done;
    }
