use Rattle.std.proofs.Common.{◌≡◌, ◌+◌, length, get_or, ap, ◌∙◌, arith}
use Rattle.memory.specs.Boards.{of_words}
use Rattle.memory.specs.Spans.{merged}
use Rattle.memory.proofs.Spans.{span_at}
use Rattle.memory.proofs.Pieces.{merged_ahead}
use Rattle.memory.proofs.words.merge_piece.Goals as goal

pub returns : goal.returns
returns g c =
    let f = g.F.ByteRule.gives c.args.rule in
    let m = of_words c.args.block.now in
    let n = length c.args.firsts.now in
    let xs = c.loop-i.firsts in
    let long : length xs ≡ n = c.loop-i.auto.firsts ∙ c.load_at.auto.into in
    c.store_at.ensures
    ∙ merged_ahead f m c.args.first c.args.second c.args.to xs (rw long c.requires.first) (rw long c.requires.second)
    (λ k h. c.loop-i.invariant.made k (omega arith)
    ∙ ap (λ v. f v (get_or c.load_at-2.new.into k 0)) (ap (λ l. get_or l k 0) c.load_at.ensures ∙ span_at m c.args.first n k (omega arith))
    ∙ ap (f (get_or m (c.args.first + k) 0)) (ap (λ l. get_or l k 0) c.load_at-2.ensures ∙ span_at m c.args.second (length c.args.seconds.now) k (omega arith)))
    ∙ ap (merged f m c.args.first c.args.second c.args.to) long
