use Rattle.std.proofs.Common.{◌≡◌, ◌*◌, arith}
use Rattle.source.proofs.RowPixels.{pattern_ahead, bits_ahead}
use Rattle.source.proofs.source.Source.keeps_ahead.Goals as goal

pub returns-then-count-rest_of_row : goal.returns-then-count-rest_of_row
returns-then-count-rest_of_row c =
    let w = c.in-Pattern.window in
    let b = c.in-Pattern.size.bytes in
    let long : c.width.result * c.bytes-in-Pattern.result ≡ w.area.width * b = cc in
    rw c.in-Pattern.is
    (λ t. pattern_ahead w b c.in-Pattern.columns c.args.k c.args.count c.args.at c.args.bytes c.row_address-row.result
    (c.width.result * c.bytes-in-Pattern.result) c.cell.result (omega arith) c.cell.ensures.is c.row_address-row.ensures.is long (c.are_apart-then-count-rest_of_row.ensures t))

pub returns-then-count-rest_of_row-2 : goal.returns-then-count-rest_of_row-2
returns-then-count-rest_of_row-2 c =
    rw c.in-Bits.is
    (λ t. bits_ahead c.in-Bits.rows c.in-Bits.start c.args.k c.args.count c.args.at c.args.bytes c.unit_address-from.result c.bytes_of-taken.result (omega arith)
    c.unit_address-from.ensures c.bytes_of-taken.ensures (c.are_apart-then-count-rest_of_row-2.ensures t))
