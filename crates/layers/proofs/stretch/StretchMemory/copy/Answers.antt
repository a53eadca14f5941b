use Rattle.std.proofs.Common.{ℕ, ◌+◌, ◌-◌, ◌∙◌, ap, arith}
use Rattle.memory.specs.Spans.{overlaid, merged}
use Rattle.layers.specs.Part.{part, part_length}
use Rattle.layers.proofs.PartSpans.{both_part, both_under}
use Rattle.layers.proofs.stretch.StretchMemory.copy.Goals as goal

pub overflow_add-next : goal.overflow_add-next
overflow_add-next g c =
    let s = c.args.self.now in
    record { fits = omega (arith, part_length (g.M.Memory.bytes s.below) s.start s.length, (g.M.Memory.sound s.below).short) }

pub overflow_add-to : goal.overflow_add-to
overflow_add-to g c =
    let s = c.args.self.now in
    record { fits = omega (arith, part_length (g.M.Memory.bytes s.below) s.start s.length, (g.M.Memory.sound s.below).short) }

pub returns-clause-after : goal.returns-clause-after
returns-clause-after g c =
    let s = c.args.self.now in
    let f : ℕ → ℕ → ℕ = λ x _. x in
    let n = c.min-whole.result in
    c.merge.ensures.after
    ∙ ap (λ l. merged f (part l s.start s.length) (c.args.from + n) (c.args.from + n) (c.args.to + n) (c.args.count - n)) c.copy.ensures
    ∙ both_part f (g.M.Memory.bytes s.below) s.start s.length c.args.from c.args.from c.args.to c.room-from_place.result.0 c.room-from_place.result.0 c.room-to_place.result.0 c.args.count n
    c.room-from_place.ensures.place c.room-from_place.ensures.place c.room-to_place.ensures.place (omega arith) (omega arith) (omega arith) (omega arith)

pub returns-clause-under : goal.returns-clause-under
returns-clause-under g c =
    let s = c.args.self.now in
    let f : ℕ → ℕ → ℕ = λ x _. x in
    let n = c.min-whole.result in
    c.merge.ensures.under
    ∙ ap (λ l. overlaid l s.start (merged f (part l s.start s.length) (c.args.from + n) (c.args.from + n) (c.args.to + n) (c.args.count - n))) c.copy.ensures
    ∙ both_under f (g.M.Memory.bytes s.below) s.start s.length c.args.from c.args.from c.args.to c.room-from_place.result.0 c.room-from_place.result.0 c.room-to_place.result.0 c.args.count n
    c.room-from_place.ensures.place c.room-from_place.ensures.place c.room-to_place.ensures.place (omega arith) (omega arith) (omega arith) (omega arith)
