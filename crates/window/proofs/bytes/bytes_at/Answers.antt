use Rattle.std.proofs.Common.{length, ◌∙◌, arith}
use Rattle.window.proofs.Spans.{zeros_past}
use Rattle.window.proofs.bytes.bytes_at.Goals as goal

pub returns-in-Err : goal.returns-in-Err
returns-in-Err g c =
    let past = c.in-Err.ensures in
    c.fill.ensures.after (λ y e. e)
    ∙ zeros_past (g.M.Memory.bytes c.args.memory.now) (g.M.Memory.sound c.args.memory.now) c.args.address (length c.args.into.now) (omega arith)
