use Rattle.std.proofs.Common.{◌≡◌, ◌+◌, ◌*◌, ◌∙◌, ap, refl, arith}
use Rattle.memory.specs.Spans.{merged, copied}
use Rattle.memory.proofs.Spans.{merged_append}
use Rattle.memory.proofs.bytes.copy_chunks.Goals as goal

pub loop-k-init : goal.loop-k-init
unfolding merged
loop-k-init c = refl

pub loop-k-preserved : goal.loop-k-preserved
loop-k-preserved c =
    let m = c.args.memory.now in
    let a = c.args.from in
    let t = c.args.to in
    let done = 64 * c.loop-k.k in
    let more : done + 64 ≡ 64 * (c.loop-k.k + 1) = omega arith in
    c.copy_chunk.ensures
    ∙ ap (λ l. copied l (a + done) (t + done) 64) c.loop-k.invariant
    ∙ merged_append (λ x _. x) m a a t done 64
    ∙ ap (copied m a t) more
