use Rattle.std.proofs.Common.{◌≡◌, ◌+◌, ◌*◌, ◌/◌, ◌%◌, length, ◌∙◌, sym, ap, arith}
use Rattle.memory.specs.Spans.{overlaid, times}
use Rattle.memory.proofs.Spans.{length_times}
use Rattle.memory.proofs.Repeats.{overlaid_all, fill_groups}
use Rattle.memory.proofs.bytes.repeat_threes.Goals as goal

pub returns : goal.returns
returns c =
    let m = c.args.memory.now in
    let a = c.args.start in
    let xs = c.args.pixel.now in
    let n = c.args.count in
    let width : 16 * length xs ≡ 48 = ap (λ w. 16 * w) c.requires.width in
    let group : c.repeat_exactly.new.memory ≡ times xs 16 = c.repeat_exactly.ensures ∙ overlaid_all _ (times xs 16) (omega (arith, length_times xs 16)) in
    c.repeat_exactly-3.ensures
    ∙ ap (λ l. overlaid l (a + n / 16 * 48) (times xs (n % 16))) c.repeat_exactly-2.ensures
    ∙ ap (λ l. overlaid (overlaid m a (times l (n / 16))) (a + n / 16 * 48) (times xs (n % 16))) group
    ∙ ap (λ w. overlaid (overlaid m a (times (times xs 16) (n / 16))) (a + n / 16 * w) (times xs (n % 16))) (sym width)
    ∙ fill_groups m a xs 16 n
