use Rattle.std.proofs.Common.{◌≡◌, ◌+◌, ◌-◌, ◌∙◌, ap, arith}
use borrow.Rule.Slice.PartMut.{put_mid}
use Rattle.engine.proofs.Buffers.{stored_piece}
use Rattle.engine.proofs.strips.put_as.Goals as goal

pub returns-clause-after : goal.returns-clause-after
returns-clause-after g c =
    let m = c.args.bytes.now in
    let a = c.args.place in
    let b = g.row.N in
    let same : a + b - a ≡ b = omega arith in
    ap (λ w. put_mid a w m c.copy_from_slice.new.self) same
    ∙ ap (put_mid a b m) c.copy_from_slice.ensures.after
    ∙ stored_piece m c.to_le_bytes.result a b c.args.value c.requires.few c.to_le_bytes.ensures c.requires.room
