use Rattle.std.proofs.Common.{◌≡◌, ◌+◌, ◌/◌, set, get_or, drop, ◌∙◌, ap, refl, arith}
use Rattle.std.proofs.lemmas.Grind.{common_steps}
use Rattle.memory.specs.Cells.{of_cells}
use Rattle.memory.specs.Spans.{overlaid}
use Rattle.memory.proofs.Cells.{cells_few}
use Rattle.memory.proofs.Spans.{overlaid_more}
use Rattle.memory.proofs.Cell.store.Goals as goal

pub loop-i-init : goal.loop-i-init
unfolding overlaid
loop-i-init g c = record { put = refl; rest = refl }

pub loop-i-preserved : goal.loop-i-preserved
loop-i-preserved g c =
    let t = g.Self.Cell in
    let bytes = of_cells t.BYTES t.byte in
    let xs = c.args.from.now in
    let few = cells_few t.BYTES t.byte c.loop-i.block in
    let put : bytes c.match-try_from.block ≡ set (bytes c.loop-i.block) (c.args.address + c.loop-i.i) (get_or xs c.loop-i.i 0) = grind (arith, common_steps) in
    let rest : drop (16777216 / t.BYTES) c.match-try_from.block ≡ drop (16777216 / t.BYTES) c.loop-i.block = grind (arith, common_steps) in
    record {
      put =
          put
          ∙ ap (λ m. set m (c.args.address + c.loop-i.i) (get_or xs c.loop-i.i 0)) c.loop-i.invariant.put
          ∙ overlaid_more (bytes c.args.block.now) c.args.address xs c.loop-i.i (omega arith);
      rest = rest ∙ c.loop-i.invariant.rest;
    }
