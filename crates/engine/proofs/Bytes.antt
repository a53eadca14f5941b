-- An operation lies inside exactly where each of its bytes does.
use Rattle.std.proofs.Common.{◌≡◌, ℕ, ◌<◌, ◌≤◌, Bool, true, false, ◌&&◌, nat_le, eqb, eqb-true, refl, arith}
use Rattle.std.proofs.lemmas.Bool.{and_parts}
use Rattle.source.specs.Origins.{Origin, awaited}
use Rattle.source.specs.Shapes.{covers, HasEach}
use Rattle.source.proofs.Shapes.{covers_exactly}
use Rattle.std.specs.Bool.{MatchBool}
use Rattle.std.proofs.lemmas.Bool.Decides.{nat_tests, when_true, when_false}
use Rattle.window.specs.Places.{reach}
use Rattle.window.proofs.Geometry.{byte_inside, byte_past}
use Rattle.window.proofs.Limits.{limits_of}
use Rattle.colour.specs.declared.Colour.{Colour}
use Rattle.colour.specs.Formats.{Format}
use Rattle.rules.specs.Yields.{Yields}
use Rattle.source.specs.Reaches.{reach_of}
use Rattle.source.proofs.Meanings.{Proper, proper, least_of}
use Rattle.engine.specs.Painted.{Op, op_of}
use Rattle.engine.specs.declared.drawing.Drawing.{Drawing}
use Rattle.window.specs.Geometry.{BytePast}
use Rattle.engine.specs.Inside.{sources_cover, ends_inside, lies_inside, OpByte, Covered, Inside, InsideExactly}
use Rattle.engine.specs.Inside.OpByte.{of_target, of_first, of_second}

judge : (t u : Bool) (P Q : Type 0) → (t ≡ true → u ≡ true → P) → (t ≡ false → Q) → (u ≡ false → Q) → MatchBool (t && u) P Q
judge true true P Q p a b = p refl refl
judge true false P Q p a b = b refl
judge false u P Q p a b = a refl

is_covered : (o : Origin) (w h : ℕ) → 1 ≤ w → covers o w h ≡ true → HasEach o w h
is_covered o w h across e = when_true (HasEach o w h) (HasEach o w h → ⊥) e (covers_exactly o w h across)

not_covered : (o : Origin) (w h : ℕ) → 1 ≤ w → covers o w h ≡ false → HasEach o w h → ⊥
not_covered o w h across e = when_false (HasEach o w h) (HasEach o w h → ⊥) e (covers_exactly o w h across)

module _ (o : Op) (proper_first : Proper o.first) (proper_second : Proper o.second) (across : 1 ≤ o.target.width) (down : 1 ≤ o.target.height) where
  abbrev w : ℕ
  w = o.target.width

  abbrev h : ℕ
  h = o.target.height

  pub covered : sources_cover o ≡ true → Covered o
  covered e =
      let a = and_parts (covers o.first w h) (covers o.second w h && eqb (awaited o.second) 0) e in
      let b = and_parts (covers o.second w h) (eqb (awaited o.second) 0) a.1 in
      record { first = is_covered o.first w h across a.0; second = is_covered o.second w h across b.0; in_memory = eqb-true (awaited o.second) 0 b.1 }

  some_not : (x y z : Bool) → covers o.first w h ≡ x → covers o.second w h ≡ y → eqb (awaited o.second) 0 ≡ z → (x && (y && z)) ≡ false → Covered o → ⊥
  some_not false y z e f g n c = not_covered o.first w h across e c.first
  some_not true false z e f g n c = not_covered o.second w h across f c.second
  some_not true true false e f g n c = let i = c.in_memory in grind (arith, nat_tests)
  some_not true true true e f g n c = cc

  module _ (size : ℕ) where
    below : ends_inside o size ≡ true → (x : ℕ) → OpByte o x → x < size
    below e x (of_target t) = let i : reach o.target o.format.width ≤ size = grind (arith, nat_tests) in omega (arith, byte_inside o.target across down o.format.width x t)
    below e x (of_first t) = let i : reach_of o.first h ≤ size = grind (arith, nat_tests) in omega (arith, (least_of o.first proper_first h down).holds x t)
    below e x (of_second t) = let i : reach_of o.second h ≤ size = grind (arith, nat_tests) in omega (arith, (least_of o.second proper_second h down).holds x t)

    past : (x y z : Bool) → nat_le (reach_of o.first h) size ≡ x → nat_le (reach_of o.second h) size ≡ y → nat_le (reach o.target o.format.width) size ≡ z
        → (x && (y && z)) ≡ false → BytePast (OpByte o) size
    past false y z e f g n =
        let p = (least_of o.first proper_first h down).least size (grind (arith, nat_tests)) in
        record { address = p.address; meant = of_first p.meant; past = p.past }
    past true false z e f g n =
        let p = (least_of o.second proper_second h down).least size (grind (arith, nat_tests)) in
        record { address = p.address; meant = of_second p.meant; past = p.past }
    past true true false e f g n =
        let p = byte_past o.target across down o.format.width size o.format.some (grind (arith, nat_tests)) in
        record { address = p.address; meant = of_target p.meant; past = p.past }
    past true true true e f g n = cc

    pub inside_exactly : InsideExactly o size (lies_inside o size)
    inside_exactly =
        judge (sources_cover o) (ends_inside o size) (Inside o size) (Covered o → BytePast (OpByte o) size)
        (λ e f. record { covered = covered e; below = below f })
        (λ e c. absurd (some_not _ _ _ refl refl refl e c))
        (λ f c. past _ _ _ refl refl refl f)

pub drawing_exactly : {R D : Type 0} (yields : R → Yields) (format : D → Format) (narrow : D → Colour → ℕ) (d : Drawing R D) (size : ℕ)
    → InsideExactly (op_of yields format narrow d) size (lies_inside (op_of yields format narrow d) size)
drawing_exactly yields format narrow d size =
    let l = limits_of d.target in
    inside_exactly (op_of yields format narrow d) (proper d.first) (proper d.second) l.width_some l.height_some size

-- where an operation that lies inside ends
pub record Ends (o : Op) (size : ℕ) : Type 0 where
  pub first : reach_of o.first o.target.height ≤ size
  pub second : reach_of o.second o.target.height ≤ size
  pub target : reach o.target o.format.width ≤ size

pub ends : (o : Op) (size : ℕ) → lies_inside o size ≡ true → Ends o size
ends o size e =
    let inside = (and_parts (sources_cover o) (ends_inside o size) e).1 in
    record { first = grind (arith, nat_tests); second = grind (arith, nat_tests); target = grind (arith, nat_tests) }

-- a larger memory serves too
pub inside_larger : (o : Op) (a b : ℕ) → a ≤ b → lies_inside o a ≡ true → lies_inside o b ≡ true
inside_larger o a b h e =
    let parts = and_parts (sources_cover o) (ends_inside o a) e in
    let more : ends_inside o b ≡ true = grind (arith, nat_tests, parts.1) in
    rw (parts.0, more)
