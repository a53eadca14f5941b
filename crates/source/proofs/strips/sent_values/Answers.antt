use Rattle.std.proofs.Common.{◌∙◌, arith}
use Rattle.source.proofs.Repeating.{sent_more}
use Rattle.source.proofs.strips.sent_values.Goals as goal

pub loop-i-preserved : goal.loop-i-preserved
loop-i-preserved c =
    sent_more c.args.sent c.loop-i.i c.loop-i.into c.copy_from_slice.new.self _ (omega arith) (omega arith) (c.copy_from_slice.ensures.after ∙ c.to_le_bytes-bytes.ensures)
    c.loop-i.invariant
