use Rattle.std.specs.Slice.Iter.{chunks_rest}
use Rattle.panel.specs.State.{seen}
use Rattle.speed.proofs.Sending.{Sending}
use Rattle.speed.proofs.by_panel.send_all.Given as goal

abbrev pub invariant-loop-bytes : goal.invariant-loop-bytes
invariant-loop-bytes g l =
    record {
      can : (goal.iterator-loop-bytes g).can_next l.bytes-iterator;
      finite : (goal.iterator-loop-bytes g).is_finite l.bytes-iterator;
      sending : Sending (seen g.M.Memory.bytes l.initial.panel) l.fn.sent (seen g.M.Memory.bytes l.panel) (chunks_rest l.bytes-iterator) l.pixels;
    }
