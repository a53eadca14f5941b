use Rattle.std.proofs.Common.{set, ap, ◌∙◌, arith}
use Rattle.layers.specs.Part.{part, part_set, part_length}
use Rattle.layers.proofs.Parts.{under_in, under_past}
use Rattle.layers.proofs.stretch.StretchMemory.put.Goals as goal

pub returns-then-address-size-clause-under : goal.returns-then-address-size-clause-under
returns-then-address-size-clause-under g c =
    let s = c.args.self.now in
    under_past (g.M.Memory.bytes s.below) s.start s.length c.args.address c.args.value (omega arith)

pub returns-clause-after : goal.returns-clause-after
returns-clause-after g c =
    let s = c.args.self.now in
    let m = g.M.Memory.bytes s.below in
    let a = c.args.address in
    let v = c.args.value in
    ap (λ x. part x s.start s.length) (c.put.ensures.after ∙ ap (λ p. set m p v) c.place-place.ensures.place)
    ∙ part_set m s.start s.length a v (omega (arith, part_length m s.start s.length))

pub returns-clause-under : goal.returns-clause-under
returns-clause-under g c =
    let s = c.args.self.now in
    let m = g.M.Memory.bytes s.below in
    let a = c.args.address in
    let v = c.args.value in
    c.put.ensures.after ∙ ap (λ p. set m p v) c.place-place.ensures.place ∙ under_in m s.start s.length a v (omega arith)
