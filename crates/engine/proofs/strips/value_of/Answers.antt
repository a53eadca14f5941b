use Rattle.std.proofs.Common.{◌+◌, ◌-◌, ◌<◌, drop, get_or, ◌∙◌, ap, length-take, get_or-take, get_or-drop, arith}
use Rattle.window.proofs.Values.{value_of_bytes, four_zeros}
use Rattle.engine.proofs.strips.value_of.Goals as goal

pub returns : goal.returns
returns g c =
    let m = c.args.bytes.now in
    let a = c.args.place in
    let b = g.row.N in
    let bs = c.copy_from_slice.new.self in
    let n = a + b - a in
    value_of_bytes m bs a b c.from_le_bytes.result c.requires.few c.copy_from_slice.ensures.len c.from_le_bytes.ensures
    (λ k h. let near : k < n = omega (arith, length-take b four_zeros) in
    ap (λ xs. get_or xs k 0) c.copy_from_slice.ensures.after ∙ get_or-take n (drop a m) k 0 near ∙ get_or-drop a m k 0)
