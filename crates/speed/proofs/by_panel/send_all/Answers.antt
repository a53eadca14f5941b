use Rattle.std.proofs.Common.{rules}
use Rattle.speed.proofs.Sending.{sending_starts, sending_more, after_ends, pixels_end}
use Rattle.speed.proofs.by_panel.send_all.Goals as goal

pub loop-bytes-init : goal.loop-bytes-init
loop-bytes-init g c = record {
  can = search rules;
  finite = tt;
  sending = sending_starts _ _ _ (search rules);
}

pub loop-bytes-preserved : goal.loop-bytes-preserved
loop-bytes-preserved g c =
    let sent = c.send_burst.ensures in
    let steps = c.in-Some.ensures.steps in
    record {
      can = search rules;
      finite = tt;
      sending = sending_more c.loop-bytes.invariant.sending c.in-Some.bytes.now _ _ _ _ steps.1.0 (search rules) sent.after sent.pixels c.saturating_add-pixels.ensures;
    }

pub returns : goal.returns
returns g c =
    let none = c.in-None.ensures.steps.1.0 in
    record { pixels = pixels_end c.loop-bytes.invariant.sending none; after = after_ends c.loop-bytes.invariant.sending none }
