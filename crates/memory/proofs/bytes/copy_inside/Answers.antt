use Rattle.std.proofs.Common.{◌≡◌, ◌+◌, ◌-◌, ◌*◌, ◌/◌, ◌∙◌, ap, arith}
use Rattle.memory.specs.Spans.{copied}
use Rattle.memory.proofs.Spans.{merged_append}
use Rattle.memory.proofs.bytes.copy_inside.Goals as goal

pub returns : goal.returns
returns c =
    let m = c.args.memory.now in
    let a = c.args.from in
    let t = c.args.to in
    let done = 64 * (c.args.count / 64) in
    let all : done + (c.args.count - done) ≡ c.args.count = omega arith in
    c.merge_inside-2.ensures
    ∙ ap (λ l. copied l (a + done) (t + done) (c.args.count - done)) c.copy_chunks.ensures
    ∙ merged_append (λ x _. x) m a a t done (c.args.count - done)
    ∙ ap (copied m a t) all
