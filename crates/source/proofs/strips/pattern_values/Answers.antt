use Rattle.std.proofs.Common.{◌≡◌, ◌+◌, ◌*◌, ◌%◌, ◌≤◌, length, ap, length-take, arith}
use Rattle.std.proofs.lemmas.Nat.{mul-le}
use Rattle.source.proofs.RowPixels.{pattern_value}
use Rattle.source.proofs.strips.pattern_values.Goals as goal

pub returns-clause-values : goal.returns-clause-values
returns-clause-values g c =
    let m = g.M.Memory.bytes c.args.memory.now in
    let w = c.args.window in
    let b = c.args.size.bytes in
    let n = c.min-count.result in
    let cell' = c.cell-cell.result in
    let first = cell' % c.width-width.result * c.bytes-bytes.result in
    let row = c.width-width.result * c.bytes-bytes.result in
    let part : first ≡ cell' % w.area.width * b = cc in
    let whole : row ≡ w.area.width * b = cc in
    let room : n * c.bytes-bytes.result ≡ n * b = ap (λ x. n * x) c.bytes-bytes.ensures in
    λ i h.
    let some = mul-le (i + 1) b n b (omega arith) (omega arith) in
    let all = mul-le n b c.args.count b (omega arith) (omega arith) in
    let fits : i * b + b ≤ length c.repeated_at.new.into = omega (arith, length-take (n * c.bytes-bytes.result) c.args.into.now) in
    pattern_value m c.repeated_at.new.into _ w b c.args.columns c.args.k i cell' c.row_address-start.result first row (omega arith) c.cell-cell.ensures.is c.row_address-start.ensures.is part whole fits
    c.repeated_at.ensures.bytes
