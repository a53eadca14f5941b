use Rattle.memory.proofs.SpanBytes.{filled_bytes}
use Rattle.memory.proofs.BoardMemory.fill.Goals as goal

pub returns-clause-bytes : goal.returns-clause-bytes
returns-clause-bytes g c = filled_bytes _ _ _ _ _ c.fill.ensures.after
