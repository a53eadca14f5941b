use Rattle.std.proofs.Common.{refl, sym, ⊎_elim, inl, inr, arith}
use Rattle.std.proofs.lemmas.List.{set_past}
use Rattle.std.proofs.lemmas.Bool.{lt-ltb, le-ltb}
use Rattle.memory.proofs.Cells.{cells_put, cells_in, cells_past}
use Rattle.memory.proofs.Cell.put.Goals as goal

pub returns-then-address-ge-MOST-clause-answer : goal.returns-then-address-ge-MOST-clause-answer
returns-then-address-ge-MOST-clause-answer g c =
    let past = cells_past g.met.Self.Cell.laws c.args.block.now c.args.address
    (rw c.BYTES.ensures at (⊎_elim (λ most. inl most) (λ past. inr past.1) c.then-address-ge-MOST.either)) in
    rw (le-ltb _ _ past) refl

pub returns-then-address-ge-MOST-clause-after : goal.returns-then-address-ge-MOST-clause-after
returns-then-address-ge-MOST-clause-after g c =
    sym (set_past _ c.args.address c.args.value
    (cells_past g.met.Self.Cell.laws c.args.block.now c.args.address
    (rw c.BYTES.ensures at (⊎_elim (λ most. inl most) (λ past. inr past.1) c.then-address-ge-MOST.either))))

pub returns-clause-answer : goal.returns-clause-answer
returns-clause-answer g c =
    let within = cells_in g.met.Self.Cell.laws c.args.block.now c.args.address c.if-address-ge-MOST.false (rw c.BYTES.ensures at c.if-place-block.false) in
    rw (lt-ltb _ _ within) refl

pub returns-clause-after : goal.returns-clause-after
returns-clause-after g c =
    let within = cells_in g.met.Self.Cell.laws c.args.block.now c.args.address c.if-address-ge-MOST.false (rw c.BYTES.ensures at c.if-place-block.false) in
    rw (c.with_byte.ensures, c.BYTES.ensures)
    (cells_put g.met.Self.Cell.laws c.args.block.now c.args.address c.args.value _ within (omega arith))
