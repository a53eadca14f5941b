use Rattle.std.proofs.Common.{◌≡◌, set, ap, ◌∙◌}
use Rattle.memory.specs.Boards.{of_bytes}
use Rattle.memory.specs.Bytes.{read_at, put_at}
use Rattle.layers.specs.Laid.{laid}
use Rattle.layers.specs.Part.{part, put_under}
use Rattle.layers.proofs.Lays.{laid_none}
use Rattle.piles.proofs.Reaches.{put_has, under_has, read_has}
use Rattle.piles.proofs.put_queued_bytes.Goals as goal

pub returns : goal.returns
returns c =
    let m = of_bytes c.args.block.now in
    let start = c.args.start in
    let most = c.args.most in
    let a = c.args.address in
    let v = c.args.value in
    let s = c.new-stretch.result in
    let none = laid_none m in
    let shown : part (laid (of_bytes s.below.below.block.now) s.below.pending) s.start s.length ≡ part m start most = cc in
    let under : put_under (laid (of_bytes s.below.below.block.now) s.below.pending) s.start s.length a v ≡ put_under m start most a v = cc in
    record {
      answer = c.put-answer.ensures.answer ∙ ap (λ p. put_at p a) shown ∙ put_has m start most a;
      seen = c.read-seen.ensures ∙ ap (λ p. read_at p a) (c.put-answer.ensures.after ∙ ap (λ p. set p a v) shown) ∙ read_has m start most a v;
      block =
          ap of_bytes c.into_block-block.ensures.holds ∙ c.into_below-2.ensures ∙ ap (λ q. laid (of_bytes q.below.block.now) q.pending) c.into_below.ensures
          ∙ c.put-answer.ensures.under ∙ under ∙ under_has m start most a v;
    }
