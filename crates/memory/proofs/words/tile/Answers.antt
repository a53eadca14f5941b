use Rattle.std.proofs.Common.{◌≡◌, ◌≤◌, ◌+◌, ◌*◌, ◌-◌, ◌/◌, ◌++◌, length, take, sym, ap, ◌∙◌, add-one, arith}
use Rattle.std.proofs.lemmas.List.{take_all}
use Rattle.std.proofs.lemmas.Slice.{take-put_mid}
use Rattle.memory.specs.Spans.{times}
use Rattle.memory.proofs.Fills.{one_more, once_more}
use Rattle.memory.proofs.words.tile.Goals as goal

pub loop-i-init : goal.loop-i-init
unfolding times
loop-i-init g c =
    let none : 0 * g.row.W ≡ 0 = omega arith in
    ap (λ n. take n c.args.bytes.now) none

pub loop-i-preserved : goal.loop-i-preserved
unfolding times
loop-i-preserved g c =
    let i = c.loop-i.i in
    let w = g.row.W in
    let xs = c.args.pixel.now in
    let ys = c.copy_from_slice.new.self in
    let fits = one_more i (length c.args.bytes.now / w) w c.loop-i-test.true in
    let next = once_more i w in
    let is : ys ≡ xs = c.copy_from_slice.ensures.after in
    let long : length ys ≡ w = ap length is ∙ c.requires.width in
    take-put_mid (i * w) ((i + 1) * w - i * w) c.loop-i.bytes ys ((i + 1) * w) (omega arith) (omega arith)
    ∙ ap (λ l. l ++ ys) c.loop-i.invariant
    ∙ ap (λ l. times xs i ++ l) is
    ∙ ap (times xs) (sym (add-one i))

pub returns : goal.returns
returns g c =
    let n = length c.args.bytes.now / g.row.W in
    let all : c.loop-i.i ≡ n = omega arith in
    let whole : length c.loop-i.bytes ≤ n * g.row.W = omega (arith, c.loop-i.auto.bytes, c.requires.whole) in
    sym (take_all (n * g.row.W) c.loop-i.bytes whole)
    ∙ ap (λ i. take (i * g.row.W) c.loop-i.bytes) (sym all)
    ∙ c.loop-i.invariant
    ∙ ap (times c.args.pixel.now) all
