use Rattle.std.proofs.Common.{ℕ, ◌+◌, ◌-◌, ◌∙◌, ap, arith}
use Rattle.pixel.specs.Rasters.{raster_channel}
use Rattle.memory.specs.Spans.{overlaid, merged}
use Rattle.layers.specs.Part.{part, part_length}
use Rattle.layers.proofs.PartSpans.{both_part, both_under}
use Rattle.layers.proofs.stretch.StretchMemory.raster.Goals as goal

pub overflow_add-first : goal.overflow_add-first
overflow_add-first g c =
    let s = c.args.self.now in
    record { fits = omega (arith, part_length (g.M.Memory.bytes s.below) s.start s.length, (g.M.Memory.sound s.below).short) }

pub overflow_add-second : goal.overflow_add-second
overflow_add-second g c =
    let s = c.args.self.now in
    record { fits = omega (arith, part_length (g.M.Memory.bytes s.below) s.start s.length, (g.M.Memory.sound s.below).short) }

pub overflow_add-to : goal.overflow_add-to
overflow_add-to g c =
    let s = c.args.self.now in
    record { fits = omega (arith, part_length (g.M.Memory.bytes s.below) s.start s.length, (g.M.Memory.sound s.below).short) }

pub returns-clause-after : goal.returns-clause-after
returns-clause-after g c =
    let s = c.args.self.now in
    let f : ℕ → ℕ → ℕ = raster_channel c.args.rule in
    let n = c.min-whole.result in
    c.merge.ensures.after
    ∙ ap (λ r. merged (raster_channel r) (part (g.M.Memory.bytes c.raster.new.self) s.start s.length) (c.args.first + n) (c.args.second + n) (c.args.to + n) (c.args.count - n)) c.of.ensures
    ∙ ap (λ l. merged f (part l s.start s.length) (c.args.first + n) (c.args.second + n) (c.args.to + n) (c.args.count - n)) c.raster.ensures
    ∙ both_part f (g.M.Memory.bytes s.below) s.start s.length c.args.first c.args.second c.args.to c.room-first_place.result.0 c.room-second_place.result.0 c.room-to_place.result.0 c.args.count n
    c.room-first_place.ensures.place c.room-second_place.ensures.place c.room-to_place.ensures.place (omega arith) (omega arith) (omega arith) (omega arith)

pub returns-clause-under : goal.returns-clause-under
returns-clause-under g c =
    let s = c.args.self.now in
    let f : ℕ → ℕ → ℕ = raster_channel c.args.rule in
    let n = c.min-whole.result in
    c.merge.ensures.under
    ∙ ap (λ r. overlaid (g.M.Memory.bytes c.raster.new.self) s.start (merged (raster_channel r) (part (g.M.Memory.bytes c.raster.new.self) s.start s.length) (c.args.first + n) (c.args.second + n) (c.args.to + n) (c.args.count - n))) c.of.ensures
    ∙ ap (λ l. overlaid l s.start (merged f (part l s.start s.length) (c.args.first + n) (c.args.second + n) (c.args.to + n) (c.args.count - n))) c.raster.ensures
    ∙ both_under f (g.M.Memory.bytes s.below) s.start s.length c.args.first c.args.second c.args.to c.room-first_place.result.0 c.room-second_place.result.0 c.room-to_place.result.0 c.args.count n
    c.room-first_place.ensures.place c.room-second_place.ensures.place c.room-to_place.ensures.place (omega arith) (omega arith) (omega arith) (omega arith)
