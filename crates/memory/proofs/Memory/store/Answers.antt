use Rattle.std.proofs.Common.{◌≡◌, ◌+◌, set, get_or, ◌∙◌, ap, refl, arith}
use Rattle.std.proofs.lemmas.Grind.{common_steps}
use Rattle.memory.specs.Spans.{overlaid}
use Rattle.memory.proofs.Spans.{overlaid_more}
use Rattle.memory.proofs.Memory.store.Goals as goal

pub loop-i-init : goal.loop-i-init
unfolding overlaid
loop-i-init g c = refl

pub loop-i-preserved : goal.loop-i-preserved
loop-i-preserved g c =
    let bytes = g.Self.Memory.bytes in
    let xs = c.args.from.now in
    let put : bytes c.match-try_from.self ≡ set (bytes c.loop-i.self) (c.args.address + c.loop-i.i) (get_or xs c.loop-i.i 0) = grind (arith, common_steps) in
    put
    ∙ ap (λ m. set m (c.args.address + c.loop-i.i) (get_or xs c.loop-i.i 0)) c.loop-i.invariant
    ∙ overlaid_more (bytes c.args.self.now) c.args.address xs c.loop-i.i (omega arith)
