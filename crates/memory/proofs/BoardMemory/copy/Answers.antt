use Rattle.memory.proofs.SpanBytes.{merged_bytes}
use Rattle.memory.proofs.BoardMemory.copy.Goals as goal

pub returns-clause-bytes : goal.returns-clause-bytes
returns-clause-bytes g c = merged_bytes (λ x _. x) _ _ _ _ _ _ c.copy.ensures.after
