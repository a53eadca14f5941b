use Rattle.std.proofs.Common.{◌≡◌, ◌+◌, ◌*◌, length, ◌∙◌, ap, refl, rules}
use Rattle.memory.specs.Spans.{overlaid, times}
use Rattle.memory.proofs.Spans.{overlaid_past, times_more}
use Rattle.memory.proofs.Memory.fill.Goals as goal

pub loop-k-init : goal.loop-k-init
unfolding overlaid times
loop-k-init g c = refl

pub loop-k-preserved : goal.loop-k-preserved
loop-k-preserved g c =
    let bytes = g.Self.Memory.bytes in
    let xs = c.args.pixel.now in
    let stored : bytes c.match-try_from.self ≡ overlaid (bytes c.loop-k.self) (c.args.address + c.loop-k.k * length xs) xs = search (rules, overlaid_past) in
    stored
    ∙ ap (λ m. overlaid m (c.args.address + c.loop-k.k * length xs) xs) c.loop-k.invariant
    ∙ times_more (bytes c.args.self.now) c.args.address xs c.loop-k.k
