use Rattle.std.proofs.Common.{◌+◌, ◌*◌, length, set, get_or, ◌∙◌, ap, refl, arith}
use Rattle.std.proofs.lemmas.List.{take_all}
use Rattle.memory.specs.Spans.{overlaid, times}
use Rattle.memory.proofs.Spans.{overlaid_more, times_more}
use Rattle.memory.proofs.bytes.repeat_any.Goals as goal

pub loop-k-init : goal.loop-k-init
unfolding overlaid times
loop-k-init c = refl

pub loop-j-init : goal.loop-j-init
unfolding overlaid
loop-j-init c = refl

pub loop-j-preserved : goal.loop-j-preserved
loop-j-preserved c =
    let at = c.args.start + c.loop-k.k * length c.args.pixel.now in
    ap (λ m. set m (at + c.loop-j.j) (get_or c.args.pixel.now c.loop-j.j 0)) c.loop-j.invariant
    ∙ overlaid_more c.loop-k.memory at c.args.pixel.now c.loop-j.j (omega arith)

pub loop-k-preserved : goal.loop-k-preserved
loop-k-preserved c =
    let xs = c.args.pixel.now in
    let at = c.args.start + c.loop-k.k * length xs in
    c.loop-j.invariant
    ∙ ap (overlaid c.loop-k.memory at) (take_all c.loop-j.j xs (omega arith))
    ∙ ap (λ m. overlaid m at xs) c.loop-k.invariant
    ∙ times_more c.args.memory.now c.args.start xs c.loop-k.k
