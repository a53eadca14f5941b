-- Drawings whose pixels commute, and drawings that undo themselves.
use Rattle.std.proofs.Common.{◌≡◌, ℕ, zero, suc, ◌+◌, ◌<◌, ◌≢◌, List, sym, refl, ap, ◌∙◌, add-zero, add_assoc, add-suc, arith}
use Rattle.engine.specs.Painted.{painted}

module _ (Good : List ℕ → Type 0) (draw : ℕ → List ℕ → List ℕ) (kept : (k : ℕ) (m : List ℕ) → Good m → Good (draw k m)) where
  pub painted_kept : (first n : ℕ) (m : List ℕ) → Good m → Good (painted draw first n m)
  unfolding painted
  painted_kept first zero m g = g
  painted_kept first (suc n) m g = kept (first + n) (painted draw first n m) (painted_kept first n m g)

  -- a step that commutes with each pixel commutes with the drawing
  pub past : (step : List ℕ → List ℕ) (first n : ℕ)
      → ((k : ℕ) → k < n → (m : List ℕ) → Good m → step (draw (first + k) m) ≡ draw (first + k) (step m))
      → (m : List ℕ) → Good m → step (painted draw first n m) ≡ painted draw first n (step m)
  unfolding painted
  past step first zero comm m g = refl
  past step first (suc n) comm m g =
      comm n (omega arith) (painted draw first n m) (painted_kept first n m g)
      ∙ ap (draw (first + n)) (past step first n (λ k h. comm k (omega arith)) m g)

  -- pixels that commute, each its own undoing: the second drawing undoes the first
  pub undone : (first n : ℕ)
      → ((j k : ℕ) → j < n → k < n → j ≢ k → (m : List ℕ) → Good m → draw (first + j) (draw (first + k) m) ≡ draw (first + k) (draw (first + j) m))
      → ((k : ℕ) → k < n → (m : List ℕ) → Good m → draw (first + k) (draw (first + k) m) ≡ m)
      → (m : List ℕ) → Good m → painted draw first n (painted draw first n m) ≡ m
  unfolding painted
  undone first zero comm inv m g = refl
  undone first (suc n) comm inv m g =
      let p = painted draw first n m in
      let gp = painted_kept first n m g in
      ap (draw (first + n))
      (sym (past (draw (first + n)) first n (λ k h. comm n k (omega arith) (omega arith) (omega arith)) p gp))
      ∙ inv n (omega arith) (painted draw first n p) (painted_kept first n p gp)
      ∙ undone first n (λ j k h i. comm j k (omega arith) (omega arith)) (λ k h. inv k (omega arith)) m g

-- a drawing may be cut
pub cut : (d : ℕ → List ℕ → List ℕ) (first n k : ℕ) (m : List ℕ) → painted d first (n + k) m ≡ painted d (first + n) k (painted d first n m)
unfolding painted
cut d first n zero m = rw (add-zero n)
cut d first n (suc k) m = rw (add-suc n k) (ap (d (first + (n + k))) (cut d first n k m) ∙ ap (λ x. d x (painted d (first + n) k (painted d first n m))) (sym (add_assoc first n k)))
