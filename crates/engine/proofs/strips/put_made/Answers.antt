use Rattle.std.proofs.Common.{ap, ◌∙◌}
use Rattle.std.specs.Option.{unwrap_or}
use Rattle.window.specs.Values.{stored}
use Rattle.engine.proofs.Buffers.{put_always}
use Rattle.engine.proofs.strips.put_made.Goals as goal

pub returns-clause-after : goal.returns-clause-after
returns-clause-after c =
    let t = c.args.bytes.now in
    c.put-2.ensures.after
    ∙ ap (λ v. stored t c.args.place c.args.width v) (c.unwrap_or.ensures ∙ ap (unwrap_or c.args.made) c.value-old.ensures.is)
    ∙ put_always t c.value-old.ensures.bytes c.args.place c.args.width c.args.made
