use Rattle.std.proofs.Common.{◌≡◌, length, ap, ◌∙◌, arith}
use Rattle.memory.specs.Boards.{of_words}
use Rattle.memory.specs.Spans.{span, overlaid, copied}
use Rattle.memory.proofs.Spans.{length_span, span_at}
use Rattle.memory.proofs.Pieces.{merged_ahead}
use Rattle.memory.proofs.words.copy_piece.Goals as goal

pub returns : goal.returns
returns c =
    let m = of_words c.args.block.now in
    let a = c.args.from in
    let n = length c.args.bytes.now in
    let xs = span m a n in
    let long : length xs ≡ n = length_span m a n in
    c.store_at.ensures
    ∙ ap (overlaid m c.args.to) c.load_at.ensures
    ∙ merged_ahead (λ x _. x) m a a c.args.to xs (rw long c.requires) (rw long c.requires) (λ k h. span_at m a n k (omega arith))
    ∙ ap (copied m a c.args.to) long
