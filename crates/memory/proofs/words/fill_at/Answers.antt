use Rattle.std.proofs.Common.{◌≡◌, ◌+◌, ◌-◌, ◌*◌, ◌/◌, min, length, ap, ◌∙◌, arith}
use Rattle.memory.specs.Boards.{of_words}
use Rattle.memory.specs.Spans.{overlaid}
use Rattle.memory.proofs.Repeats.{fill_none, fill_part}
use Rattle.memory.proofs.words.fill_at.Goals as goal

pub returns-then-width-eq0 : goal.returns-then-width-eq0
returns-then-width-eq0 c = fill_none (of_words c.args.block.now) c.args.address c.args.pixel.now c.args.count c.if-width-eq0.true

pub returns-then-whole-count : goal.returns-then-whole-count
returns-then-whole-count c =
    let m = of_words c.args.block.now in
    let a = c.args.address in
    let xs = c.args.pixel.now in
    let n = c.min-whole.result in
    let room : c.saturating_sub-room.result ≡ length m - a = c.saturating_sub-room.ensures ∙ ap (λ s. s - a) c.size.ensures in
    let whole : n ≡ min c.args.count ((length m - a) / length xs) = c.min-whole.ensures ∙ ap (λ r. min c.args.count (r / length xs)) room in
    c.store_at.ensures ∙ ap (λ l. overlaid l (a + n * length xs) xs) c.fill_held.ensures ∙ fill_part m a xs n c.args.count whole (omega arith) (omega arith)
