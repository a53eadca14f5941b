use Rattle.std.proofs.Common.{◌≡◌, ◌+◌, length, get_or, arith}
use Rattle.std.proofs.lemmas.Grind.{common_steps}
use Rattle.memory.specs.Cells.{of_cells}
use Rattle.memory.proofs.Cells.{cells_few}
use Rattle.memory.proofs.Spans.{is_span}
use Rattle.memory.proofs.Cell.load.Goals as goal

pub loop-i-preserved : goal.loop-i-preserved
loop-i-preserved g c =
    let m = of_cells g.Self.Cell.BYTES g.Self.Cell.byte c.args.block.now in
    let few = cells_few g.Self.Cell.BYTES g.Self.Cell.byte c.args.block.now in
    let byte : c.map_or.result ≡ get_or m (c.args.address + c.loop-i.i) 0 = grind (arith, common_steps) in
    record {
      long = grind (arith, common_steps);
      read = λ k h. grind (arith, common_steps);
    }

pub returns : goal.returns
returns g c =
    is_span (of_cells g.Self.Cell.BYTES g.Self.Cell.byte c.args.block.now) c.args.address (length c.args.into.now) c.loop-i.into c.loop-i.invariant.long
    (λ k h. c.loop-i.invariant.read k (omega arith))
