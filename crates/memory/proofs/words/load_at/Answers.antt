use Rattle.std.proofs.Common.{◌≡◌, ◌-◌, length, replicate, ap, ◌∙◌, arith}
use Rattle.memory.specs.Boards.{of_words}
use Rattle.memory.specs.Spans.{span}
use Rattle.memory.proofs.Pieces.{span_cut}
use Rattle.memory.proofs.words.load_at.Goals as goal

pub load_held-requires : goal.load_held-requires
load_held-requires c = λ some. omega (arith, c.split_at_mut-held.ensures.front_len)

pub returns : goal.returns
returns c =
    let n = c.min.result in
    let rest : length c.split_at_mut-held.result.1.now ≡ length c.args.into.now - n = omega (arith, c.split_at_mut-held.ensures.back_len) in
    span_cut (of_words c.args.block.now) c.args.address c.load_held.new.into c.fill.new.self n (length c.args.into.now) (omega arith)
    (c.load_held.ensures ∙ ap (span (of_words c.args.block.now) c.args.address) c.split_at_mut-held.ensures.front_len)
    (c.fill.ensures.after (λ y e. e) ∙ ap (λ i. replicate i 0) rest)
