use Rattle.std.proofs.Common.{◌≡◌, ℕ, ◌*◌, ◌/◌, ◌≤◌, div-mul-le_self, ap, ◌∙◌, refl, arith}
use Rattle.std.proofs.lemmas.Nat.{mul-le}
use Rattle.window.specs.Places.{area_of, place}
use Rattle.engine.proofs.drawing.Drawing.strip.Goals as goal

-- as many pixels as are counted for a buffer, or fewer, fit into it
fits : (n b w : ℕ) → b ≡ w → n ≤ 1024 / b → n * w ≤ 1024
fits n b w e h = rw (← e) (let d = div-mul-le_self 1024 b in let l = mul-le n b (1024 / b) b h (omega arith) in omega (arith, d, l))

pub returns-then-keeps_ahead : goal.returns-then-keeps_ahead
returns-then-keeps_ahead g c = record {
  begins = c.in_ok-at.ensures ∙ ap (λ w. place (area_of c.args.self.now.target) w c.args.k) c.of-size.ensures;
  few = omega (arith, c.min-most.ensures, c.min.ensures);
  room = fits c.min-most.result c.bytes.result _ (c.bytes.ensures ∙ c.of-size.ensures) (omega (arith, c.min-most.ensures, c.min.ensures));
  gapless = λ i h. c.beside.ensures.gapless i (omega (arith, c.min-most.ensures));
  first = c.if-keeps_ahead.ensures.first refl;
  second = c.if-keeps_ahead.ensures.second refl;
}

pub returns-then-keeps_ahead-2 : goal.returns-then-keeps_ahead-2
returns-then-keeps_ahead-2 g c = record {
  begins = c.in_ok-at.ensures ∙ ap (λ w. place (area_of c.args.self.now.target) w c.args.k) c.of-size.ensures;
  few = omega (arith, c.min-count.ensures, c.min-most.ensures, c.min.ensures);
  room = fits c.min-count.result c.bytes.result _ (c.bytes.ensures ∙ c.of-size.ensures) (omega (arith, c.min-count.ensures, c.min-most.ensures, c.min.ensures));
  gapless = λ i h. c.beside.ensures.gapless i (omega (arith, c.min-count.ensures, c.min-most.ensures));
  first = c.if-keeps_ahead-2.ensures.first refl;
  second = c.if-keeps_ahead-2.ensures.second refl;
}
