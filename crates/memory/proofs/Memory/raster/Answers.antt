use Rattle.std.proofs.Common.{◌≡◌, ◌+◌, set, get_or, ◌∙◌, ap, refl, arith}
use Rattle.std.proofs.lemmas.Grind.{common_steps}
use Rattle.memory.specs.Spans.{merged}
use Rattle.pixel.specs.Rasters.{raster_channel}
use Rattle.memory.proofs.Spans.{merged_more}
use Rattle.memory.proofs.Memory.raster.Goals as goal

pub loop-i-init : goal.loop-i-init
unfolding merged
loop-i-init g c = refl

pub loop-i-preserved : goal.loop-i-preserved
loop-i-preserved g c =
    let bytes = g.Self.Memory.bytes in
    let f = raster_channel c.args.rule in
    let m = bytes c.loop-i.self in
    let one : c.map_or-one.result ≡ get_or m (c.args.first + c.loop-i.i) 0 = grind (arith, common_steps) in
    let other : c.map_or-other.result ≡ get_or m (c.args.second + c.loop-i.i) 0 = grind (arith, common_steps) in
    let put : bytes c.match-checked_add.self ≡ set m (c.args.to + c.loop-i.i) (f c.map_or-one.result c.map_or-other.result) = grind (arith, common_steps) in
    put
    ∙ ap (λ x. set m (c.args.to + c.loop-i.i) (f x c.map_or-other.result)) one
    ∙ ap (λ y. set m (c.args.to + c.loop-i.i) (f (get_or m (c.args.first + c.loop-i.i) 0) y)) other
    ∙ ap (λ l. set l (c.args.to + c.loop-i.i) (f (get_or l (c.args.first + c.loop-i.i) 0) (get_or l (c.args.second + c.loop-i.i) 0))) c.loop-i.invariant
    ∙ merged_more f (bytes c.args.self.now) c.args.first c.args.second c.args.to c.loop-i.i
