use Rattle.std.proofs.Common.{◌≡◌, ◌+◌, ◌*◌, ◌≤◌, length, take, drop, sym, ap, ◌∙◌, length-take, arith}
use Rattle.std.proofs.lemmas.Nat.{mul-le}
use Rattle.window.specs.Values.{value_at}
use Rattle.window.proofs.Spans.{value_loaded}
use Rattle.source.proofs.strips.image_values.Goals as goal

pub returns-clause-values : goal.returns-clause-values
returns-clause-values g c =
    let m = g.M.Memory.bytes c.args.memory.now in
    let b = c.args.size.bytes in
    let n = c.min-count.result in
    let room = n * c.bytes.result in
    let whole : room ≡ n * b = ap (λ x. n * x) c.bytes.ensures in
    λ i h.
    let some = mul-le (i + 1) b n b (omega arith) (omega arith) in
    let all = mul-le n b c.args.count b (omega arith) (omega arith) in
    let fits : i * b + b ≤ length (take room c.args.into.now) = omega (arith, length-take room c.args.into.now) in
    value_loaded m c.bytes_at.new.into (drop room c.args.into.now) c.address.result (length (take room c.args.into.now)) (i * b) b c.bytes_at.ensures fits
    ∙ ap (λ x. value_at m (x + i * b) b) c.address.ensures.is
    ∙ ap (λ x. value_at m x b) (sym (c.beside.ensures.gapless i (omega arith) b))
