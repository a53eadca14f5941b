use Rattle.std.proofs.Common.{arith}
use Rattle.memory.specs.Boards.{half_laws}
use Rattle.memory.proofs.Cells.{cell_within, cells_at}
use Rattle.memory.proofs.WordSpans.{words_length}
use Rattle.memory.proofs.words.byte_at.Goals as goal

pub overflow_cast-address : goal.overflow_cast-address
overflow_cast-address c = omega (arith, words_length c.args.block.now)

pub bounds-block-address : goal.bounds-block-address
bounds-block-address c = cell_within half_laws c.args.block.now c.args.address c.requires

pub returns : goal.returns
returns c = cells_at half_laws c.args.block.now c.args.address c.byte.result 0 c.requires c.byte.ensures c.byte.type_inv
