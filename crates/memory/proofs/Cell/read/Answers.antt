use Rattle.std.proofs.Common.{Ok, ap, ◌∙◌, ⊎_elim, inl, inr}
use Rattle.memory.proofs.Access.{read_in, read_past}
use Rattle.memory.proofs.Cells.{cells_at, cells_in, cells_past}
use Rattle.memory.proofs.Cell.read.Goals as goal

pub returns-then-address-ge-MOST : goal.returns-then-address-ge-MOST
returns-then-address-ge-MOST g c =
    read_past _ c.args.address
    (cells_past g.met.Self.Cell.laws c.args.block.now c.args.address
    (rw c.BYTES.ensures at (⊎_elim (λ most. inl most) (λ past. inr past.1) c.then-address-ge-MOST.either)))

pub returns : goal.returns
returns g c =
    let laws = g.met.Self.Cell.laws in
    let cells = c.args.block.now in
    let a = c.args.address in
    let within = cells_in laws cells a c.if-address-ge-MOST.false (rw c.BYTES.ensures at c.if-place-block.false) in
    ap Ok (cells_at laws cells a _ _ within (c.byte.ensures ∙ ap (λ x. g.Self.Cell.byte x a) (rw c.BYTES.ensures at c.index-block-place.is)) c.byte.type_inv)
    ∙ read_in _ a within
