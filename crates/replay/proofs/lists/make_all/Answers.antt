use Rattle.std.proofs.Common.{◌+◌, ◌<◌, [], ◌∷◌, ◌++◌, length, map, drop, ap, ◌∙◌, arith}
use Rattle.std.proofs.lemmas.List.{map-append}
use Rattle.panel_calls.specs.Calls.{call_of}
use Rattle.panel_calls.specs.Replies.{reply_of}
use Rattle.replay.proofs.Making.{rest_from, made}
use Rattle.replay.proofs.lists.make_all.Goals as goal

pub loop-call-preserved : goal.loop-call-preserved
loop-call-preserved g c =
    let next = map call_of (drop (c.loop-call.call-index + 1) c.args.calls.now) in
    let here : c.loop-call.call-index < length c.args.calls.now = omega arith in
    let left = rest_from call_of c.args.calls.now c.loop-call.call-index _ here in
    let answers = map reply_of c.loop-call.answers.items in
    let kept = ap (map reply_of) c.in_ok-push.ensures.items ∙ map-append reply_of c.loop-call.answers.items (c.make.result ∷ []) ∙ ap (λ r. answers ++ r ∷ []) c.make.ensures.answer in
    record {
      so_far = rw (c.make.ensures.after, kept) (made _ next (rw left at c.loop-call.invariant.so_far));
      length_is = omega (arith, c.in_ok-push.ensures.len, c.loop-call.invariant.length_is);
      capacity = omega (arith, c.push.ensures.capacity, c.loop-call.invariant.capacity);
    }
