use Rattle.memory.specs.Boards.{of_words}
use Rattle.memory.proofs.Fills.{fill_zero}
use Rattle.memory.proofs.words.fill_held.Goals as goal

pub returns-then-count-eq0 : goal.returns-then-count-eq0
returns-then-count-eq0 c = fill_zero (of_words c.args.block.now) c.args.address c.args.pixel.now c.args.count c.if-count-eq0.true
