use Rattle.std.proofs.Common.{◌≡◌, ◌-◌, length, replicate, ap, ◌∙◌, arith}
use Rattle.memory.proofs.Spans.{held_span}
use Rattle.memory.proofs.bytes.load.Goals as goal

pub returns : goal.returns
returns c =
    let n = c.min-inside.result in
    let size = length c.args.into.now in
    let rest : length c.split_at_mut-held.result.1.now ≡ size - n = omega (arith, c.split_at_mut-held.ensures.back_len) in
    held_span c.args.memory.now c.copy_from_slice.new.self c.fill.new.self c.args.start c.min-start.result n size
    c.min-start.ensures c.min-inside.ensures c.copy_from_slice.ensures.after
    (c.fill.ensures.after (λ y is. is) ∙ ap (λ k. replicate k 0) rest)
