use Rattle.std.proofs.Common.{◌≡◌, ◌+◌, ◌*◌, ◌/◌, length, drop, ◌∙◌, ap, refl, rules}
use Rattle.memory.specs.Cells.{of_cells}
use Rattle.memory.specs.Spans.{overlaid, times}
use Rattle.memory.proofs.Cells.{cells_few}
use Rattle.memory.proofs.Spans.{overlaid_past, times_more}
use Rattle.memory.proofs.Cell.fill.Goals as goal

pub loop-k-init : goal.loop-k-init
unfolding overlaid times
loop-k-init g c = record { put = refl; rest = refl }

pub loop-k-preserved : goal.loop-k-preserved
loop-k-preserved g c =
    let t = g.Self.Cell in
    let bytes = of_cells t.BYTES t.byte in
    let xs = c.args.pixel.now in
    let few = cells_few t.BYTES t.byte c.loop-k.block in
    let stored : bytes c.match-try_from.block ≡ overlaid (bytes c.loop-k.block) (c.args.address + c.loop-k.k * length xs) xs = search (rules, overlaid_past) in
    let rest : drop (16777216 / t.BYTES) c.match-try_from.block ≡ drop (16777216 / t.BYTES) c.loop-k.block = search rules in
    record {
      put =
          stored
          ∙ ap (λ m. overlaid m (c.args.address + c.loop-k.k * length xs) xs) c.loop-k.invariant.put
          ∙ times_more (bytes c.args.block.now) c.args.address xs c.loop-k.k;
      rest = rest ∙ c.loop-k.invariant.rest;
    }
