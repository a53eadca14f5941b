use Rattle.std.proofs.Common.{◌≡◌, [], length, set, ap, ◌∙◌}
use Rattle.memory.specs.Boards.{of_words}
use Rattle.memory.specs.Bytes.{read_at, put_at}
use Rattle.layers.specs.Part.{part}
use Rattle.layers.specs.Queue.{queue, over, queued}
use Rattle.layers.proofs.Lays.{laid_none}
use Rattle.piles.proofs.Reaches.{put_has, read_has, first_has}
use Rattle.piles.proofs.put_stretched_words.Goals as goal

pub returns : goal.returns
returns c =
    let m = of_words c.args.block.now in
    let start = c.args.start in
    let most = c.args.most in
    let a = c.args.address in
    let v = c.args.value in
    let q = c.new-queue.result in
    let old : queue (part (of_words q.below.below.block.now) q.below.start q.below.length) q.pending ≡ queue (part m start most) [] = cc in
    let shown = ap over old ∙ laid_none (part m start most) in
    let after = c.put-answer.ensures.after ∙ ap (λ p. set p a v) shown in
    record {
      answer = c.put-answer.ensures.answer ∙ ap (λ p. put_at p a) shown ∙ put_has m start most a;
      seen = c.read-seen.ensures ∙ ap (λ p. read_at p a) after ∙ read_has m start most a v;
      waiting =
          c.waiting_count-waiting.ensures.count ∙ ap (λ x. length x.entries) (c.put-answer.ensures.kept ∙ ap (λ x. queued x a v) old)
          ∙ first_has m start most a v;
      stretch = c.into_below-stretch.ensures ∙ after;
    }
