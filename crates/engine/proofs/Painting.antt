-- The steps of a drawing.
use Rattle.std.proofs.Common.{◌≡◌, ℕ, suc, ◌+◌, ◌-◌, ◌≤◌, List, ap, ◌∙◌, arith}
use Rattle.engine.specs.Painted.{painted}

-- pixel k after those before it
pub painted_more : (draw : ℕ → List ℕ → List ℕ) (first k : ℕ) (m n o : List ℕ)
    → first ≤ k → n ≡ painted draw first (k - first) m → o ≡ draw k n → o ≡ painted draw first (k + 1 - first) m
unfolding painted
painted_more draw first k m n o h e f =
    let next : k + 1 - first ≡ suc (k - first) = omega arith in
    let here : k ≡ first + (k - first) = omega arith in
    rw next (f ∙ ap (λ i. draw i n) here ∙ ap (draw (first + (k - first))) e)
