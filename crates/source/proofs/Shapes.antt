-- A source covers a rectangle exactly where it has each of its pixels.
use Rattle.std.proofs.Common.{◌≡◌, ℕ, ◌+◌, ◌*◌, ◌<◌, ◌≤◌, Bool, true, false, ◌&&◌, eqb, leb, refl, ap, arith}
use Rattle.std.proofs.lemmas.Bool.Decides.{nat_tests}
use Rattle.std.proofs.lemmas.Nat.{mul-le}
use Rattle.std.specs.Bool.{MatchBool}
use Rattle.window.specs.declared.area.Area.{Area}
use Rattle.source.specs.Origins.{Origin, unused, host, host_bits, image, pattern, bits}
use Rattle.source.specs.Shapes.{HasEach, CoversExactly}

-- where the columns decide
by_columns : (o : Origin) (w h columns : ℕ) → (columns ≡ w → HasEach o w h) → (HasEach o w h → columns ≡ w)
    → (b : Bool) → eqb columns w ≡ b → MatchBool b (HasEach o w h) (HasEach o w h → ⊥)
by_columns o w h columns to from true e = to (grind (arith, nat_tests))
by_columns o w h columns to from false e = λ x. let f = from x in grind (arith, nat_tests)

module _ (a : Area) (b w h : ℕ) (across : 1 ≤ w) where
  of_window : (t : Bool) → (eqb a.width w && leb h a.height) ≡ t → MatchBool t (HasEach (image a b) w h) (HasEach (image a b) w h → ⊥)
  of_window true e =
      let wide : a.width ≡ w = grind (arith, nat_tests) in
      let high : h ≤ a.height = grind (arith, nat_tests) in
      let all = mul-le w h w a.height (omega arith) high in
      record { wide = wide; has = λ k i. rw wide (omega arith) }
  of_window false e = λ x.
      let wide = x.wide in
      let high : a.height < h = grind (arith, nat_tests) in
      let less = mul-le w (a.height + 1) w h (omega arith) (omega arith) in
      let last = x.has (w * a.height) (omega arith) in
      absurd (omega (arith, ap (λ y. y * a.height) wide))

pub covers_exactly : (o : Origin) (w h : ℕ) → 1 ≤ w → CoversExactly o w h
covers_exactly unused w h across = record { wide = tt; has = λ k i. tt }
covers_exactly (host _) w h across = record { wide = tt; has = λ k i. tt }
covers_exactly (host_bits r) w h across = by_columns (host_bits r) w h r.columns (λ e. record { wide = e; has = λ k i. tt }) (λ x. x.wide) _ refl
covers_exactly (image a b) w h across = of_window a b w h across _ refl
covers_exactly (pattern a b columns) w h across = by_columns (pattern a b columns) w h columns (λ e. record { wide = e; has = λ k i. tt }) (λ x. x.wide) _ refl
covers_exactly (bits r start) w h across =
    by_columns (bits r start) w h r.columns (λ e. record { wide = e; has = λ k i. rw e i }) (λ x. x.wide) _ refl
