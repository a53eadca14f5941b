use Rattle.std.proofs.Common.{ap, ◌∙◌, arith}
use Rattle.layers.specs.Part.{part}
use Rattle.layers.proofs.PartSpans.{stored_part, stored_under}
use Rattle.layers.proofs.stretch.StretchMemory.store.Goals as goal

pub returns-clause-after : goal.returns-clause-after
returns-clause-after g c =
    let s = c.args.self.now in
    let found = c.room-place in
    ap (λ x. part x s.start s.length) c.store.ensures
    ∙ stored_part (g.M.Memory.bytes s.below) s.start s.length c.args.address c.args.from.now found.result.0 c.min-inside.result found.ensures.place (omega arith)

pub returns-clause-under : goal.returns-clause-under
returns-clause-under g c =
    let s = c.args.self.now in
    let found = c.room-place in
    c.store.ensures
    ∙ stored_under (g.M.Memory.bytes s.below) s.start s.length c.args.address c.args.from.now found.result.0 c.min-inside.result found.ensures.place (omega arith)
