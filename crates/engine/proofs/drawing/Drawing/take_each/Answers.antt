use Rattle.std.proofs.Common.{refl, arith}
use Rattle.feeding.proofs.Feeding.{one_more, all_come, ended}
use Rattle.engine.specs.Painted.{op_of}
use Rattle.engine.specs.Fed.{stage, takes_at, byte_come}
use Rattle.engine.proofs.Laws.{so_far_grew}
use Rattle.engine.proofs.drawing.Drawing.take_each.Goals as goal

pub loop-taken-preserved : goal.loop-taken-preserved
loop-taken-preserved g c =
    let o = op_of g.R.PixelRule.yields g.D.Readable.format g.D.Canvas.narrowed c.args.self.now in
    let p = c.args.palette.now in
    let t = stage (g.M.Memory.bytes c.accept.new.memory) c.accept.new.progress in
    let so_far = one_more (takes_at o) (byte_come o p) c.loop-taken.invariant.so_far t c.loop-taken-test.true c.if-not-takes.ensures c.accept.ensures in
    record { so_far = so_far; grew = so_far_grew o p so_far }

pub returns-then-not-takes : goal.returns-then-not-takes
returns-then-not-takes g c =
    let o = op_of g.R.PixelRule.yields g.D.Readable.format g.D.Canvas.narrowed c.args.self.now in
    let all = ended (takes_at o) (byte_come o c.args.palette.now) c.loop-taken.invariant.so_far c.if-not-takes.ensures in
    record { after = all.0; taken_is = all.1; drawn_is = refl }

pub returns : goal.returns
returns g c =
    let o = op_of g.R.PixelRule.yields g.D.Readable.format g.D.Canvas.narrowed c.args.self.now in
    let all = all_come (takes_at o) (byte_come o c.args.palette.now) c.loop-taken.invariant.so_far (omega arith) in
    record { after = all.0; taken_is = all.1; drawn_is = refl }
