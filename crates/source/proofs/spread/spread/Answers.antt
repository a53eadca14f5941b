use Rattle.std.proofs.Common.{◌≡◌, ◌+◌, ◌*◌, ◌/◌, length, arith}
use Rattle.source.proofs.TakenBits.{bits_join, bits_from}
use Rattle.source.proofs.spread.spread.Goals as goal

pub returns-clause-bits : goal.returns-clause-bits
returns-clause-bits c =
    let bytes = c.args.bytes.now in
    let d = c.args.depth in
    let n = c.min-first.result in
    let whole = length c.split_at_mut-head.result.1.now / 8 * 8 in
    let head : length c.spread_each.new.into ≡ n = omega arith in
    let middle : length c.spread_whole.new.into ≡ whole = omega arith in
    bits_join bytes c.spread_each.new.into _ d n head c.spread_each.ensures.bits
    (bits_join bytes c.spread_whole.new.into c.spread_each-2.new.into (d + n) whole middle
    (bits_from bytes c.spread_whole.new.into (d + n) ((d + n) / 8) (λ h. omega arith) c.spread_whole.ensures.bits)
    c.spread_each-2.ensures.bits)
