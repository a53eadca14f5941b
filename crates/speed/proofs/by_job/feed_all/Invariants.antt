use Rattle.std.specs.Slice.Iter.{chunks_rest}
use Rattle.speed.proofs.Feeding.{Going}
use Rattle.speed.proofs.by_job.feed_all.Given as goal

abbrev pub invariant-loop-bytes : goal.invariant-loop-bytes
invariant-loop-bytes g l =
    record {
      can : (goal.iterator-loop-bytes g).can_next l.bytes-iterator;
      finite : (goal.iterator-loop-bytes g).is_finite l.bytes-iterator;
      going : Going l.initial.begun l.palette (g.M.Memory.bytes l.initial.memory) l.fn.sent l.begun (g.M.Memory.bytes l.memory) (chunks_rest l.bytes-iterator);
    }
