use Rattle.std.proofs.Common.{arith}
use Rattle.feeding.proofs.Feeding.{in_parts, one_more, all_come, ended}
use Rattle.palette_load.specs.Loads.{loading, takes, come}
use Rattle.palette_load.proofs.load.PaletteLoad.feed.Goals as goal

pub loop-taken-preserved : goal.loop-taken-preserved
loop-taken-preserved c =
    one_more takes come c.loop-taken.invariant (loading c.accept.new.palette c.accept.new.self) (omega arith) c.if-not-awaits.ensures.is c.accept.ensures

pub returns : goal.returns
returns c =
    let all = all_come takes come c.loop-taken.invariant (omega arith) in
    record { after = all.0; taken = omega arith; parts = in_parts takes come }

pub returns-then-not-awaits : goal.returns-then-not-awaits
returns-then-not-awaits c =
    let all = ended takes come c.loop-taken.invariant c.if-not-awaits.ensures.is in
    record { after = all.0; taken = omega arith; parts = in_parts takes come }
