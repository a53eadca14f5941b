use Rattle.std.proofs.Common.{◌≡◌, ◌-◌, length, replicate, ap, ◌∙◌, arith}
use Rattle.memory.specs.Spans.{span}
use Rattle.layers.proofs.PartSpans.{part_span}
use Rattle.layers.proofs.stretch.StretchMemory.load.Goals as goal

pub returns : goal.returns
returns g c =
    let s = c.args.self.now in
    let m = g.M.Memory.bytes s.below in
    let n = c.min-inside.result in
    let size = length c.args.into.now in
    let front : length c.split_at_mut-held.result.0.now ≡ n = omega (arith, c.split_at_mut-held.ensures.front_len) in
    let rest : length c.split_at_mut-held.result.1.now ≡ size - n = omega (arith, c.split_at_mut-held.ensures.back_len) in
    part_span m s.start s.length c.load.new.into c.fill.new.self c.args.address n size (omega arith)
    (c.load.ensures ∙ ap (λ a. span m a (length c.split_at_mut-held.result.0.now)) c.room-place.ensures.place ∙ ap (span m _) front)
    (c.fill.ensures.after (λ y is. is) ∙ ap (λ k. replicate k 0) rest)
