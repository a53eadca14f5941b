use Rattle.memory.proofs.SpanBytes.{stored_bytes}
use Rattle.memory.proofs.BoardMemory.store.Goals as goal

pub returns-clause-bytes : goal.returns-clause-bytes
returns-clause-bytes g c = stored_bytes _ _ _ _ c.store.ensures.after
