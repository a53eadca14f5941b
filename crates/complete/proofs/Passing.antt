-- A step on memory that commutes with each pixel of an operation commutes with feeding it, and with the whole of it.
use Rattle.std.proofs.Common.{◌≡◌, ℕ, ◌+◌, ◌<◌, ◌≤◌, Bool, true, false, cond, ltb, List, [], ◌∷◌, ◌++◌, length, sym, refl, ap, ◌∙◌, arith}
use Rattle.colour.specs.declared.Palette.{Palette}
use Rattle.window.specs.Places.{pixels}
use Rattle.source.specs.Origins.{awaited}
use Rattle.engine.specs.Painted.{Op, plotted, painted}
use Rattle.engine.specs.Fed.{Stage, takes, due, whole, number, come, byte_fed, fed}
use Rattle.engine.proofs.Orders.{painted_kept, past}
use Rattle.complete.specs.Parts.{by_memory}
use Rattle.complete.specs.Complete.{begun, completed}
use Rattle.complete.proofs.Completing.{stage_eq}

-- the stage with another memory
abbrev pub over : Stage → List ℕ → Stage
over s m = record { memory = m; drawn = s.drawn; waiting = s.waiting }

module _ (o : Op) (p : Palette) (Good : List ℕ → Type 0) (kept : (v k : ℕ) (m : List ℕ) → Good m → Good (plotted o p v k m)) where
  -- what holds of a stage while it is fed: memory is good, and so many pixels are drawn
  pub record From (from : ℕ) (s : Stage) : Type 0 where
    pub good : Good s.memory
    pub far : from ≤ s.drawn

  whole_from : (from : ℕ) (s : Stage) (v : ℕ) → From from s → From from (whole o p s v)
  whole_from from s v f = record {
    good = painted_kept Good (plotted o p v) (kept v) s.drawn (due o s.drawn) s.memory f.good;
    far = omega (arith, f.far);
  }

  come_from : (from : ℕ) (s : Stage) (bs : List ℕ) → From from s → From from (come o p s bs)
  come_from from s bs f =
      let P : Bool → Type 0 = λ b. From from (cond b (record { memory = s.memory; drawn = s.drawn; waiting = bs }) (whole o p s (number bs))) in
      elim (ltb (length bs) (awaited o.first)) as P [ true ↦ record { good = f.good; far = f.far } | false ↦ whole_from from s (number bs) f ]

  pub byte_from : (from : ℕ) (s : Stage) (b : ℕ) → From from s → From from (byte_fed o p s b)
  byte_from from s b f =
      let P : Bool → Type 0 = λ t. From from (cond t (come o p s (s.waiting ++ b ∷ [])) s) in
      elim (takes o s.drawn) as P [ true ↦ come_from from s (s.waiting ++ b ∷ []) f | false ↦ f ]

  pub fed_from : (from : ℕ) (s : Stage) (xs : List ℕ) → From from s → From from (fed o p s xs)
  fed_from from s [] f = f
  fed_from from s (x ∷ xs) f = fed_from from (byte_fed o p s x) xs (byte_from from s x f)

  module _ (step : List ℕ → List ℕ) (from : ℕ)
      (comm : (v k : ℕ) → from ≤ k → k < pixels o.target → (m : List ℕ) → Good m → step (plotted o p v k m) ≡ plotted o p v k (step m)) where
    abbrev moved : Stage → Stage
    moved s = over s (step s.memory)

    whole_past : (s : Stage) (v : ℕ) → From from s → whole o p (moved s) v ≡ moved (whole o p s v)
    whole_past s v f =
        let d = s.drawn in
        let far = f.far in
        stage_eq _ _ _ _ [] []
        (sym (past Good (plotted o p v) (kept v) step d (due o d) (λ k h. comm v (d + k) (omega arith) (omega arith)) s.memory f.good))
        refl refl

    come_past : (s : Stage) (bs : List ℕ) → From from s → come o p (moved s) bs ≡ moved (come o p s bs)
    come_past s bs f =
        let P : Bool → Type 0 = λ b.
        cond b (record { memory = step s.memory; drawn = s.drawn; waiting = bs }) (whole o p (moved s) (number bs))
        ≡ moved (cond b (record { memory = s.memory; drawn = s.drawn; waiting = bs }) (whole o p s (number bs))) in
        elim (ltb (length bs) (awaited o.first)) as P [ true ↦ refl | false ↦ whole_past s (number bs) f ]

    byte_past : (s : Stage) (b : ℕ) → From from s → byte_fed o p (moved s) b ≡ moved (byte_fed o p s b)
    byte_past s b f =
        let bs = s.waiting ++ b ∷ [] in
        let P : Bool → Type 0 = λ t. cond t (come o p (moved s) bs) (moved s) ≡ moved (cond t (come o p s bs) s) in
        elim (takes o s.drawn) as P [ true ↦ come_past s bs f | false ↦ refl ]

    pub fed_past : (s : Stage) (xs : List ℕ) → From from s → fed o p (moved s) xs ≡ moved (fed o p s xs)
    fed_past s [] f = refl
    fed_past s (x ∷ xs) f =
        ap (λ t. fed o p t xs) (byte_past s x f) ∙ fed_past (byte_fed o p s x) xs (byte_from from s x f)

-- memory once an operation is complete
unfoldable pub done : Op → Palette → List ℕ → List ℕ → List ℕ
done o p xs m = (completed o p xs m).memory

module _ (o : Op) (p : Palette) (step : List ℕ → List ℕ)
    (comm : (v k : ℕ) → k < pixels o.target → (m : List ℕ) → step (plotted o p v k m) ≡ plotted o p v k (step m)) where
  pub done_past : (xs m : List ℕ) → done o p xs (step m) ≡ step (done o p xs m)
  unfolding done
  done_past xs m =
      let Any : List ℕ → Type 0 = λ x. Unit {0} in
      let n = pixels o.target in
      let P : Bool → Type 0 = λ b.
      (cond b (record { memory = painted (plotted o p 0) 0 n (step m); drawn = n; waiting = [] }) (fed o p (begun (step m)) xs)).memory
      ≡ step (cond b (record { memory = painted (plotted o p 0) 0 n m; drawn = n; waiting = [] }) (fed o p (begun m) xs)).memory in
      elim (by_memory o) as P [
        | true ↦ sym (past Any (plotted o p 0) (λ k x g. tt) step 0 n (λ k h x g. comm 0 (0 + k) (omega arith) x) m tt)
        | false ↦ ap (λ s. s.memory) (fed_past o p Any (λ v k x g. tt) step 0 (λ v k l h x g. comm v k h x) (begun m) xs (record { good = tt; far = omega arith }))
      ]
