use Rattle.memory.proofs.Cells.{cells_size}
use Rattle.memory.proofs.Cell.size.Goals as goal

pub returns : goal.returns
returns g c = rw (c.min-cells.ensures, c.BYTES-2.ensures, c.BYTES.ensures) (cells_size g.met.Self.Cell.laws c.args.block.now)
