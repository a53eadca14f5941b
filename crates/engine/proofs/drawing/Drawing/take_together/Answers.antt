use Rattle.std.proofs.Common.{sym, refl, arith}
use Rattle.engine.specs.Painted.{op_of}
use Rattle.engine.specs.Fed.{stage, takes_at, byte_come}
use Rattle.engine.proofs.Laws.{so_far_grew}
use Rattle.engine.proofs.Bursts.{slice_more, one_instead, so_far_within, feed_first, feed_all, feed_stopped}
use Rattle.engine.proofs.drawing.Drawing.take_together.Goals as goal
use Rattle.engine.proofs.drawing.Drawing.take_together.Goals.{then-loop-taken-test+else-takes, else-loop-taken-test}

pub loop-taken-init : goal.loop-taken-init
loop-taken-init g c = record { after = refl; count = refl }

pub loop-taken-preserved-then-whole-eq0 : goal.loop-taken-preserved-then-whole-eq0
loop-taken-preserved-then-whole-eq0 g c =
    let o = op_of g.R.PixelRule.yields g.D.Readable.format g.D.Canvas.narrowed c.args.self.now in
    let p = c.args.palette.now in
    let v = stage (g.M.Memory.bytes c.accept.new.memory) c.accept.new.progress in
    one_instead (takes_at o) (byte_come o p) c.loop-taken.invariant (feed_first o p c.take_pixels-whole.ensures) v
    c.if-whole-eq0.true c.loop-taken-test.true c.if-takes.ensures c.accept.ensures

pub overflow_add-taken-else-whole-eq0 : goal.overflow_add-taken-else-whole-eq0
overflow_add-taken-else-whole-eq0 g c =
    let o = op_of g.R.PixelRule.yields g.D.Readable.format g.D.Canvas.narrowed c.args.self.now in
    let p = c.args.palette.now in
    let so_far = slice_more (takes_at o) (byte_come o p) c.loop-taken.invariant (feed_first o p c.take_pixels-whole.ensures) in
    omega (arith, so_far_within (takes_at o) (byte_come o p) so_far)

pub loop-taken-preserved : goal.loop-taken-preserved
loop-taken-preserved g c =
    let o = op_of g.R.PixelRule.yields g.D.Readable.format g.D.Canvas.narrowed c.args.self.now in
    let p = c.args.palette.now in
    slice_more (takes_at o) (byte_come o p) c.loop-taken.invariant (feed_first o p c.take_pixels-whole.ensures)

pub overflow_sub-result : goal.overflow_sub-result
overflow_sub-result g c =
    let o = op_of g.R.PixelRule.yields g.D.Readable.format g.D.Canvas.narrowed c.args.self.now in
    so_far_grew o c.args.palette.now c.loop-taken.invariant

pub returns : goal.returns
returns g c =
    let o = op_of g.R.PixelRule.yields g.D.Readable.format g.D.Canvas.narrowed c.args.self.now in
    let p = c.args.palette.now in
    elim c.loop-taken-test.branch [
      | then-loop-taken-test+else-takes w ↦ feed_stopped o p c.loop-taken.invariant (sym w.if-takes.ensures)
      | else-loop-taken-test w ↦ feed_all o p c.loop-taken.invariant (omega (arith, w.loop-taken-test.false))
    ]
