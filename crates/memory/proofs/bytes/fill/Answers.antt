use Rattle.std.proofs.Common.{◌+◌, ◌*◌, length, ◌∙◌, sym, ap, ⊎_elim, arith}
use Rattle.memory.specs.Spans.{overlaid, times}
use Rattle.memory.proofs.Spans.{overlaid_past}
use Rattle.memory.proofs.Repeats.{fill_none, fill_part}
use Rattle.memory.proofs.bytes.fill.Goals as goal

pub returns-then-width-eq0 : goal.returns-then-width-eq0
returns-then-width-eq0 c =
    let m = c.args.memory.now in
    ⊎_elim
    (λ none. fill_none m c.args.start c.args.pixel.now c.args.count none)
    (λ past. sym (overlaid_past m c.args.start (times c.args.pixel.now c.args.count) past.1))
    c.then-width-eq0.either

pub returns-then-whole-count : goal.returns-then-whole-count
returns-then-whole-count c =
    let xs = c.args.pixel.now in
    let w = c.min-whole.result in
    c.store.ensures
    ∙ ap (λ l. overlaid l (c.args.start + w * length xs) xs) c.repeat.ensures
    ∙ fill_part c.args.memory.now c.args.start xs w c.args.count c.min-whole.ensures (omega arith) c.if-whole-count.true
