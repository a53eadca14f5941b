use Rattle.memory.proofs.SpanBytes.{merged_bytes}
use Rattle.memory.proofs.Board.merge.Goals as goal

pub returns-clause-bytes : goal.returns-clause-bytes
returns-clause-bytes g c = merged_bytes (g.F.ByteRule.gives c.args.rule) _ _ _ _ _ _ c.merge.ensures.after
