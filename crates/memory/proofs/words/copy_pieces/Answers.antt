use Rattle.std.proofs.Common.{◌≡◌, ◌+◌, length, take, refl, ap, ◌∙◌, arith}
use Rattle.std.proofs.lemmas.List.{length-take}
use Rattle.memory.specs.Boards.{of_words}
use Rattle.memory.specs.Spans.{merged, copied}
use Rattle.memory.proofs.Pieces.{merged_append}
use Rattle.memory.proofs.words.copy_pieces.Goals as goal

pub loop-done-init : goal.loop-done-init
unfolding merged
loop-done-init c = record { made = refl; within = omega arith }

pub loop-done-preserved : goal.loop-done-preserved
loop-done-preserved c =
    let m = of_words c.args.block.now in
    let a = c.args.from in
    let d = c.args.to in
    let n = c.loop-done.done in
    let k = c.min-size.result in
    let size : length (take k c.loop-done.bytes) ≡ k = omega (arith, length-take k c.loop-done.bytes) in
    record {
      made =
          c.copy_piece.ensures
          ∙ ap (copied (of_words c.loop-done.block) (a + n) (d + n)) size
          ∙ ap (λ l. copied l (a + n) (d + n) k) c.loop-done.invariant.made
          ∙ merged_append (λ x _. x) m a a d n k;
      within = omega arith;
    }
