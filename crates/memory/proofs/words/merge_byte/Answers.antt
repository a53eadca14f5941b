use Rattle.std.proofs.Common.{get_or, set, ap, ◌∙◌}
use Rattle.memory.specs.Boards.{of_words}
use Rattle.memory.proofs.Pieces.{merged_one}
use Rattle.memory.proofs.words.merge_byte.Goals as goal

pub returns : goal.returns
returns g c =
    let f = g.F.ByteRule.gives c.args.rule in
    let m = of_words c.args.block.now in
    c.put.ensures
    ∙ ap (set m c.args.to) (c.byte-byte.ensures ∙ ap (λ v. f v c.byte_at-2.result) c.byte_at.ensures ∙ ap (f (get_or m c.args.first 0)) c.byte_at-2.ensures)
    ∙ merged_one f m c.args.first c.args.second c.args.to
