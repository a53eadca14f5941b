use Rattle.std.proofs.Common.{◌*◌, refl, ap, ◌∙◌}
use Rattle.window.specs.Values.{value_at}
use Rattle.engine.specs.Strips.{put_value, stripped}
use Rattle.engine.proofs.Buffers.{stripped_more}
use Rattle.engine.proofs.strips.draw_each.Goals as goal

pub loop-i-init : goal.loop-i-init
unfolding stripped
loop-i-init g c = record { drawn = refl; long = refl }

pub loop-i-preserved : goal.loop-i-preserved
loop-i-preserved g c =
    let f = g.F.OnValues.gives c.args.rule.now in
    let x = c.args.first.bytes.now in
    let y = c.args.second.bytes.now in
    let b1 = c.args.first.width in
    let b2 = c.args.second.width in
    let b = c.args.width in
    let i = c.loop-i.i in
    let t = c.loop-i.target in
    record {
      drawn =
          c.put_made.ensures.after
          ∙ ap (λ o. put_value (i * b) b o t) c.value.ensures
          ∙ ap (λ u. put_value (i * b) b (f u c.value-y.result) t) c.value-x.ensures.is
          ∙ ap (λ u. put_value (i * b) b (f (value_at x (i * b1) b1) u) t) c.value-y.ensures.is
          ∙ ap (put_value (i * b) b (f (value_at x (i * b1) b1) (value_at y (i * b2) b2))) c.loop-i.invariant.drawn
          ∙ stripped_more f b1 b2 b x y i c.args.target.now;
      long = c.put_made.ensures.long ∙ c.loop-i.invariant.long;
    }
