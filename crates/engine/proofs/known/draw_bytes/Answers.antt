use Rattle.std.proofs.Common.{◌∙◌, arith}
use Rattle.engine.proofs.Buffers.{by_bytes_stripped}
use Rattle.engine.proofs.known.draw_bytes.Goals as goal

pub returns-clause-after : goal.returns-clause-after
returns-clause-after g c =
    c.draw_each.ensures.after
    ∙ by_bytes_stripped (g.F.ByteRule.gives c.args.rule) (g.F.ByteRule.fits c.args.rule) c.args.first.now c.args.second.now (λ k. omega (arith, c.type_inv.first k)) (λ k. omega (arith, c.type_inv.second k)) c.args.target.now c.args.width c.args.count
