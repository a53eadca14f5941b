use Rattle.std.proofs.Common.{length, sym, ap, ◌∙◌, arith}
use Rattle.memory.specs.Spans.{span}
use Rattle.memory.proofs.Boards.{bytes_shown}
use Rattle.memory.proofs.U8Cell.load.Goals as goal

pub returns : goal.returns
returns c =
    c.load.ensures
    ∙ ap (λ m. span m c.args.address (length c.args.into.now))
    (sym (bytes_shown c.args.block.now c.min-size.result c.min-size.ensures (λ k. omega (arith, c.type_inv.block k))))
