use Rattle.std.proofs.Common.{set, arith}
use Rattle.std.proofs.lemmas.Grind.{common_steps}
use Rattle.std.proofs.lemmas.List.{length-set}
use Rattle.arrayvec.proofs.ArrayVecLemmas.{items-with_items}
use Rattle.layers.proofs.pending.Pending.change.Goals as goal

pub invariant_of-self : goal.invariant_of-self
invariant_of-self c =
    let v = c.self.inside.table in
    let i = c.args.i in
    let put = c.args.put in
    rw (c.deref_mut.ensures.value, items-with_items v (set v.items i put) (length-set v.items i put), c.self.view_is)
    (grind (arith, common_steps), λ j k d h in'. grind (arith, common_steps))
