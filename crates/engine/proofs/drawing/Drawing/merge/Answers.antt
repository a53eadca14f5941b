use Rattle.std.proofs.Common.{◌≡◌, ◌*◌, refl, ap, ◌∙◌, arith}
use Rattle.memory.specs.Spans.{merged}
use Rattle.window.specs.Places.{area_of, place}
use Rattle.source.specs.Origins.{sampled}
use Rattle.pixel.specs.Rasters.{raster_channel}
use Rattle.rules.specs.declared.values.ValueRule.TheVariants.{Raster}
use Rattle.engine.specs.Painted.{op_of}
use Rattle.memory.specs.Rasters.{raster_fits}
use Rattle.engine.specs.Strips.{ReadFirst}
use Rattle.engine.proofs.Spans.{read_first_as}
use Rattle.engine.proofs.Beside.{puts_given, merged_painted}
use Rattle.engine.proofs.drawing.Drawing.merge.Goals as goal

pub returns-clause-after : goal.returns-clause-after
returns-clause-after g c p sent =
    let o = op_of g.R.PixelRule.yields g.D.Readable.format g.D.Canvas.narrowed c.args.self.now in
    let m = g.M.Memory.bytes c.args.memory.now in
    let f = raster_channel c.args.rule in
    let k = c.args.k in
    let n = c.min-count.result in
    let u = area_of c.in-Some.first_window in
    let v = area_of c.in-Some-window_of.second_window in
    let wide = c.of-size.ensures in
    let b = o.format.width in
    let x = place u b k in
    let y = place v b k in
    let t = place o.target b k in
    let first : c.in-Some-address_of.first ≡ x = c.in-Some-address_of.ensures ∙ ap (λ w. place u w k) wide in
    let second : c.in-Some-address_of-2.second ≡ y = c.in-Some-address_of-2.ensures ∙ ap (λ w. place v w k) wide in
    let to : c.in-Some-address_of-3.to ≡ t = c.in-Some-address_of-3.ensures ∙ ap (λ w. place o.target w k) wide in
    let first_apart : ReadFirst x t b =
    read_first_as c.in-Some-address_of.first x c.in-Some-address_of-3.to t c.bytes.result b first to (c.bytes.ensures ∙ wide) (c.if-not-are_read_first.ensures refl) in
    let second_apart : ReadFirst y t b =
    read_first_as c.in-Some-address_of-2.second y c.in-Some-address_of-3.to t c.bytes-2.result b second to (c.bytes-2.ensures ∙ wide) (c.if-not-are_read_first-2.ensures refl) in
    c.raster.ensures
    ∙ ap (λ a. merged f m a c.in-Some-address_of-2.second c.in-Some-address_of-3.to c.in-Some-checked_mul.bytes) first
    ∙ ap (λ a. merged f m x a c.in-Some-address_of-3.to c.in-Some-checked_mul.bytes) second
    ∙ ap (λ a. merged f m x y a c.in-Some-checked_mul.bytes) to
    ∙ ap (merged f m x y t) (c.in-Some-checked_mul.ensures.1 ∙ ap (λ w. n * w) (c.bytes-3.ensures ∙ wide))
    ∙ merged_painted o p (λ j. sent) f (raster_fits c.args.rule) u v
    (λ q s j. ap (λ i. sampled i q s j) c.in-Some.ensures)
    (λ q s j. ap (λ i. sampled i q s j) c.in-Some-window_of.ensures)
    (λ a d h i. puts_given o p (Raster c.args.rule) c.requires a d (h, i))
    k n m (g.M.Memory.sound c.args.memory.now)
    (λ i h. c.beside-3.ensures.gapless i (omega arith)) (λ i h. c.beside.ensures.gapless i (omega arith)) (λ i h. c.beside-2.ensures.gapless i (omega arith))
    first_apart second_apart
