use Rattle.std.proofs.Common.{◌≡◌, ◌*◌, take}
use Rattle.memory.specs.Spans.{times}
use Rattle.memory.proofs.words.tile.Given as goal

abbrev pub invariant-loop-i : goal.invariant-loop-i
invariant-loop-i g l = take (l.i * g.row.W) l.bytes ≡ times l.pixel l.i
