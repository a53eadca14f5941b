use Rattle.std.proofs.Common.{◌≡◌, ◌+◌, length, take, refl, ap, ◌∙◌, arith}
use Rattle.std.proofs.lemmas.List.{length-take}
use Rattle.memory.specs.Boards.{of_words}
use Rattle.memory.specs.Spans.{merged}
use Rattle.memory.proofs.Pieces.{merged_append}
use Rattle.memory.proofs.words.merge_pieces.Goals as goal

pub loop-done-init : goal.loop-done-init
unfolding merged
loop-done-init g c = record { made = refl; within = omega arith }

pub loop-done-preserved : goal.loop-done-preserved
loop-done-preserved g c =
    let f = g.F.ByteRule.gives c.args.rule in
    let m = of_words c.args.block.now in
    let a = c.args.first in
    let b = c.args.second in
    let d = c.args.to in
    let n = c.loop-done.done in
    let k = c.min-size.result in
    let size : length (take k c.loop-done.firsts) ≡ k = omega (arith, length-take k c.loop-done.firsts) in
    record {
      made =
          c.merge_piece.ensures
          ∙ ap (merged f (of_words c.loop-done.block) (a + n) (b + n) (d + n)) size
          ∙ ap (λ l. merged f l (a + n) (b + n) (d + n) k) c.loop-done.invariant.made
          ∙ merged_append f m a b d n k;
      within = omega arith;
    }
