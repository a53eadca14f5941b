use Rattle.std.proofs.Common.{◌≡◌, ◌-◌, sym, arith}
use Rattle.engine.proofs.drawing.Drawing.plot_each.Goals as goal

pub returns : goal.returns
returns g c =
    let all : c.loop-pixel.pixel - c.args.k ≡ c.args.count = omega arith in
    rw (sym all) c.loop-pixel.invariant
