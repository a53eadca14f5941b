use Rattle.std.proofs.Common.{◌≡◌, ◌+◌, ◌≤◌, map, drop, vec_items, vec_len, vec_capacity}
use Rattle.panel_calls.specs.Calls.{call_of}
use Rattle.panel_calls.specs.Replies.{reply_of}
use Rattle.panel.specs.State.{seen}
use Rattle.replay.proofs.Making.{DoneSoFar}
use Rattle.replay.proofs.lists.make_all.Given as goal

abbrev pub invariant-loop-call : goal.invariant-loop-call
invariant-loop-call g l =
    let bytes = g.M.Memory.bytes in
    let left = map call_of (drop l.call-index l.calls) in
    record {
      so_far : DoneSoFar (seen bytes l.initial.panel) (map call_of l.calls) (map reply_of (vec_items l.initial.answers)) (seen bytes l.panel) (map reply_of (vec_items l.answers)) left;
      length_is : vec_len l.answers ≡ vec_len l.initial.answers + l.call-index;
      capacity : vec_capacity l.initial.answers ≤ vec_capacity l.answers;
    }
