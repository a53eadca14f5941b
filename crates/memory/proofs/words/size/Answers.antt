use Rattle.std.proofs.Common.{arith}
use Rattle.memory.proofs.WordSpans.{words_length}
use Rattle.memory.proofs.words.size.Goals as goal

pub returns : goal.returns
returns c = omega (arith, words_length c.args.block.now)
