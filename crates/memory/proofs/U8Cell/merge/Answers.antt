use Rattle.std.proofs.Common.{◌≡◌, ℕ, ◌<◌, length, get_or, take, sym, ap, ◌∙◌, length-take, arith, rules}
use Rattle.std.proofs.lemmas.Slice.{drop-append-drop}
use Rattle.memory.specs.Spans.{merged}
use Rattle.memory.proofs.Boards.{bytes_shown, bytes_replaced}
use Rattle.memory.proofs.Spans.{length_merged}
use Rattle.memory.proofs.U8Cell.merge.Goals as goal

pub returns-clause-after : goal.returns-clause-after
returns-clause-after g c =
    let bs = c.args.block.now in
    let n = c.min-size.result in
    let fits : (k : ℕ) → get_or bs k 0 < 256 = search rules in
    let long : length c.merge.new.memory ≡ n = omega (arith, ap length c.merge.ensures, length_merged (g.F.ByteRule.gives c.args.rule) (take n bs) c.args.first c.args.second c.args.to c.args.count, length-take n bs) in
    bytes_replaced bs c.merge.new.memory n c.min-size.ensures long (λ k. omega (arith, c.type_inv.block k))
    ∙ c.merge.ensures
    ∙ ap (λ m. merged (g.F.ByteRule.gives c.args.rule) m c.args.first c.args.second c.args.to c.args.count) (sym (bytes_shown bs n c.min-size.ensures fits))

pub returns-clause-rest : goal.returns-clause-rest
returns-clause-rest g c =
    let bs = c.args.block.now in
    let n = c.min-size.result in
    let long : length c.merge.new.memory ≡ n = omega (arith, ap length c.merge.ensures, length_merged (g.F.ByteRule.gives c.args.rule) (take n bs) c.args.first c.args.second c.args.to c.args.count, length-take n bs) in
    drop-append-drop n bs c.merge.new.memory 16777216 (omega arith) long
