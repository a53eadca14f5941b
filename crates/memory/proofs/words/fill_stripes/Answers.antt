use Rattle.std.proofs.Common.{◌≡◌, ◌<◌, ◌+◌, ◌*◌, ◌/◌, ◌%◌, length, take, sym, ap, ◌∙◌, arith}
use Rattle.memory.specs.Boards.{of_words}
use Rattle.memory.specs.Spans.{overlaid, times}
use Rattle.memory.proofs.Repeats.{fill_groups}
use Rattle.memory.proofs.Fills.{stripes_some, stripes_fit, take_times}
use Rattle.memory.proofs.WordSpans.{words_length}
use Rattle.memory.proofs.words.fill_stripes.Goals as goal

pub repeat-requires : goal.repeat-requires
repeat-requires g c =
    let some : 0 < 48 / g.row.W = stripes_some (48 / g.row.W) g.row.W 48 c.requires.whole (omega arith) in
    omega (arith, stripes_fit c.args.count (48 / g.row.W) g.row.W 48 some c.requires.whole, ap (λ w. c.args.count * w) c.requires.width)

pub overflow_mul-stripes : goal.overflow_mul-stripes
overflow_mul-stripes g c =
    let some : 0 < 48 / g.row.W = stripes_some (48 / g.row.W) g.row.W 48 c.requires.whole (omega arith) in
    omega (arith, stripes_fit c.args.count (48 / g.row.W) g.row.W 48 some c.requires.whole, ap (λ w. c.args.count * w) c.requires.width, words_length c.args.block.now)

pub overflow_add-address : goal.overflow_add-address
overflow_add-address g c =
    let some : 0 < 48 / g.row.W = stripes_some (48 / g.row.W) g.row.W 48 c.requires.whole (omega arith) in
    omega (arith, stripes_fit c.args.count (48 / g.row.W) g.row.W 48 some c.requires.whole, ap (λ w. c.args.count * w) c.requires.width, words_length c.args.block.now)

pub returns : goal.returns
returns g c =
    let m = of_words c.args.block.now in
    let a = c.args.address in
    let xs = c.args.pixel.now in
    let w = g.row.W in
    let k = 48 / w in
    let n = c.args.count in
    let some : 0 < k = stripes_some k w 48 c.requires.whole (omega arith) in
    let even : 2 * (a / 2) ≡ a = omega arith in
    let long : 48 ≡ k * length xs = sym (ap (λ l. k * l) c.requires.width ∙ c.requires.whole) in
    let part : take (n % k * w) c.tile.new.bytes ≡ times xs (n % k) =
    ap (take (n % k * w)) c.tile.ensures ∙ ap (λ l. take (n % k * l) (times xs k)) (sym c.requires.width) ∙ take_times xs (n % k) k (omega arith) in
    let stripes : of_words c.repeat.new.block ≡ overlaid m a (times (times xs k) (n / k)) =
    c.repeat.ensures ∙ ap (λ p. overlaid m p (times c.tile.new.bytes (n / k))) even ∙ ap (λ l. overlaid m a (times l (n / k))) c.tile.ensures in
    c.store_at.ensures
    ∙ ap (overlaid (of_words c.repeat.new.block) (a + n / k * 48)) part
    ∙ ap (λ l. overlaid (of_words c.repeat.new.block) (a + n / k * l) (times xs (n % k))) long
    ∙ ap (λ l. overlaid l (a + n / k * (k * length xs)) (times xs (n % k))) stripes
    ∙ fill_groups m a xs k n
