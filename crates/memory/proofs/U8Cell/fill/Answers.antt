use Rattle.std.proofs.Common.{◌≡◌, ℕ, ◌<◌, length, get_or, take, sym, ap, ◌∙◌, length-take, arith, rules}
use Rattle.std.proofs.lemmas.Slice.{drop-append-drop}
use Rattle.memory.specs.Spans.{overlaid, times}
use Rattle.memory.proofs.Boards.{bytes_shown, bytes_replaced}
use Rattle.memory.proofs.Spans.{length_overlaid}
use Rattle.memory.proofs.U8Cell.fill.Goals as goal

pub returns-clause-after : goal.returns-clause-after
returns-clause-after c =
    let bs = c.args.block.now in
    let n = c.min-size.result in
    let fits : (k : ℕ) → get_or bs k 0 < 256 = search rules in
    let long : length c.fill.new.memory ≡ n = omega (arith, ap length c.fill.ensures, length_overlaid (take n bs) c.args.address (times c.args.pixel.now c.args.count), length-take n bs) in
    bytes_replaced bs c.fill.new.memory n c.min-size.ensures long (λ k. omega (arith, c.type_inv.block k))
    ∙ c.fill.ensures
    ∙ ap (λ m. overlaid m c.args.address (times c.args.pixel.now c.args.count)) (sym (bytes_shown bs n c.min-size.ensures fits))

pub returns-clause-rest : goal.returns-clause-rest
returns-clause-rest c =
    let bs = c.args.block.now in
    let n = c.min-size.result in
    let long : length c.fill.new.memory ≡ n = omega (arith, ap length c.fill.ensures, length_overlaid (take n bs) c.args.address (times c.args.pixel.now c.args.count), length-take n bs) in
    drop-append-drop n bs c.fill.new.memory 16777216 (omega arith) long
