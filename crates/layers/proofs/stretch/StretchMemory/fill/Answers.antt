use Rattle.std.proofs.Common.{◌≡◌, ◌+◌, ◌*◌, length, ◌∙◌, ap, arith}
use Rattle.memory.specs.Spans.{overlaid, times}
use Rattle.memory.proofs.Spans.{length_overlaid}
use Rattle.memory.proofs.Repeats.{fill_none}
use Rattle.layers.specs.Part.{part, part_length}
use Rattle.layers.proofs.PartSpans.{none_under, pixels_fit, filled_part, filled_under, filled_all, twice_under}
use Rattle.layers.proofs.stretch.StretchMemory.fill.Goals as goal

pub returns-then-width-eq0-clause-after : goal.returns-then-width-eq0-clause-after
returns-then-width-eq0-clause-after g c =
    let s = c.args.self.now in
    fill_none (part (g.M.Memory.bytes s.below) s.start s.length) c.args.address c.args.pixel.now c.args.count c.if-width-eq0.true

pub returns-then-width-eq0-clause-under : goal.returns-then-width-eq0-clause-under
returns-then-width-eq0-clause-under g c =
    let s = c.args.self.now in
    let m = g.M.Memory.bytes s.below in
    none_under m s.start s.length
    ∙ ap (overlaid m s.start) (fill_none (part m s.start s.length) c.args.address c.args.pixel.now c.args.count c.if-width-eq0.true)

pub overflow_cast-rest-then-whole-count-2 : goal.overflow_cast-rest-then-whole-count-2
overflow_cast-rest-then-whole-count-2 g c =
    let s = c.args.self.now in
    let m = g.M.Memory.bytes s.below in
    let found = c.room-place in
    let fit = pixels_fit m s.start s.length c.args.address c.args.pixel.now c.args.count found.result.0 found.result.1 c.min-whole.result found.ensures.place found.ensures.room c.min-whole.ensures in
    record { fits = omega (arith, fit, part_length m s.start s.length, (g.M.Memory.sound s.below).short) }

pub returns-then-whole-count-clause-after : goal.returns-then-whole-count-clause-after
returns-then-whole-count-clause-after g c =
    let s = c.args.self.now in
    let m = g.M.Memory.bytes s.below in
    let a = c.args.address in
    let xs = c.args.pixel.now in
    let n = c.min-whole.result in
    let found = c.room-place in
    c.store.ensures.after
    ∙ ap (λ l. overlaid (part l s.start s.length) (a + n * length xs) xs) c.fill.ensures
    ∙ ap (λ p. overlaid p (a + n * length xs) xs) (filled_part m s.start s.length a xs c.args.count found.result.0 found.result.1 n found.ensures.place found.ensures.room c.min-whole.ensures)
    ∙ filled_all m s.start s.length a xs c.args.count found.result.0 found.result.1 n found.ensures.place found.ensures.room c.min-whole.ensures (omega arith) c.if-whole-count.true

pub returns-then-whole-count-clause-under : goal.returns-then-whole-count-clause-under
returns-then-whole-count-clause-under g c =
    let s = c.args.self.now in
    let m = g.M.Memory.bytes s.below in
    let a = c.args.address in
    let xs = c.args.pixel.now in
    let n = c.min-whole.result in
    let found = c.room-place in
    c.store.ensures.under
    ∙ twice_under m (g.M.Memory.bytes c.fill.new.self) s.start s.length (overlaid (part m s.start s.length) a (times xs n)) (λ p. overlaid p (a + n * length xs) xs)
    (λ l. length_overlaid l (a + n * length xs) xs)
    (ap (λ l. part l s.start s.length) c.fill.ensures ∙ filled_part m s.start s.length a xs c.args.count found.result.0 found.result.1 n found.ensures.place found.ensures.room c.min-whole.ensures)
    (c.fill.ensures ∙ filled_under m s.start s.length a xs c.args.count found.result.0 found.result.1 n found.ensures.place found.ensures.room c.min-whole.ensures)
    ∙ ap (overlaid m s.start)
    (filled_all m s.start s.length a xs c.args.count found.result.0 found.result.1 n found.ensures.place found.ensures.room c.min-whole.ensures (omega arith) c.if-whole-count.true)

pub returns-else-whole-count-clause-after : goal.returns-else-whole-count-clause-after
returns-else-whole-count-clause-after g c =
    let s = c.args.self.now in
    let m = g.M.Memory.bytes s.below in
    let a = c.args.address in
    let xs = c.args.pixel.now in
    let found = c.room-place in
    let all : c.min-whole.result ≡ c.args.count = omega arith in
    ap (λ l. part l s.start s.length) c.fill.ensures
    ∙ filled_part m s.start s.length a xs c.args.count found.result.0 found.result.1 c.min-whole.result found.ensures.place found.ensures.room c.min-whole.ensures
    ∙ ap (λ k. overlaid (part m s.start s.length) a (times xs k)) all

pub returns-else-whole-count-clause-under : goal.returns-else-whole-count-clause-under
returns-else-whole-count-clause-under g c =
    let s = c.args.self.now in
    let m = g.M.Memory.bytes s.below in
    let a = c.args.address in
    let xs = c.args.pixel.now in
    let found = c.room-place in
    let all : c.min-whole.result ≡ c.args.count = omega arith in
    c.fill.ensures
    ∙ filled_under m s.start s.length a xs c.args.count found.result.0 found.result.1 c.min-whole.result found.ensures.place found.ensures.room c.min-whole.ensures
    ∙ ap (λ k. overlaid m s.start (overlaid (part m s.start s.length) a (times xs k))) all
