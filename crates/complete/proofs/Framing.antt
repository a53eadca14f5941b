-- A way to draw changes nothing but bytes of its operation's pixels.
use Rattle.std.proofs.Common.{◌≡◌, ℕ, ◌-◌, Bool, true, false, cond, List, [], ◌∷◌, length, sym, refl, ◌∙◌, subst, arith}
use Rattle.colour.specs.declared.Palette.{Palette}
use Rattle.window.specs.Places.{pixels}
use Rattle.engine.specs.Painted.{Op, plotted, painted}
use Rattle.engine.specs.Fed.{Stage, fed}
use Rattle.engine.specs.Laws.{OnlyPixels}
use Rattle.engine.proofs.Laws.{painted_only, outside_kept}
use Rattle.complete.specs.Parts.{Portion, feed, run, by_memory, allowed, advanced, stepped, parted, sent_in}
use Rattle.complete.specs.Complete.{begun, Way, left_by, OnlyDrawn, OnlyBoth}
use Rattle.complete.specs.Laws.{RectangleOnly}
use Rattle.complete.proofs.Completing.{fed_only}

only_none : (o : Op) (m : List ℕ) → OnlyDrawn o m m
only_none o m = record { size = refl; rest = λ x off. refl }

only_then : (o : Op) (l m n : List ℕ) → OnlyDrawn o l m → OnlyDrawn o m n → OnlyDrawn o l n
only_then o l m n f g = record { size = g.size ∙ f.size; rest = λ x off. g.rest x off ∙ f.rest x off }

only_pixels : (o : Op) (first c : ℕ) (m n : List ℕ) → OnlyPixels o first c m n → OnlyDrawn o m n
only_pixels o first c m n f = record {
  size = f.size;
  rest = λ x off. outside_kept o first c m n f x (λ k h i l e. off (k, h, i, l, e));
}

module _ (o : Op) (p : Palette) where
  stepped_only : (s : Stage) (x : Portion) → OnlyDrawn o s.memory (stepped o p s x).memory
  stepped_only s (feed xs) =
      let t = fed o p s xs in
      only_pixels o s.drawn (t.drawn - s.drawn) s.memory t.memory (fed_only o p s xs)
  stepped_only s (run n) =
      let k = allowed o s n in
      let P : Bool → Type 0 = λ b. OnlyDrawn o s.memory (cond b (advanced o p s k) s).memory in
      elim (by_memory o) as P [
        | true ↦ only_pixels o s.drawn k s.memory (advanced o p s k).memory (painted_only o p 0 s.drawn k s.memory (omega arith))
        | false ↦ only_none o s.memory
      ]

  pub parted_only : (s : Stage) (ps : List Portion) → OnlyDrawn o s.memory (parted o p s ps).memory
  parted_only s [] = only_none o s.memory
  parted_only s (x ∷ xs) =
      let t = stepped o p s x in
      only_then o s.memory t.memory (parted o p t xs).memory (stepped_only s x) (parted_only t xs)

left_only : (w : Way) (m : List ℕ) → OnlyDrawn w.operation m (left_by w m)
left_only w m =
    let o = w.operation in
    let n = (parted o w.palette (begun m) w.portions).memory in
    let P : Bool → Type 0 = λ b. OnlyDrawn o m (cond b n m) in
    elim (w.accepts (length m)) as P [ true ↦ parted_only o w.palette (begun m) w.portions | false ↦ only_none o m ]

-- two ways one after another
pub both_only : (v w : Way) (m n : List ℕ) → n ≡ left_by w (left_by v m) → OnlyBoth v.operation w.operation m n
both_only v w m n e =
    let f = left_only v m in
    let g = subst (OnlyDrawn w.operation (left_by v m)) (sym e) (left_only w (left_by v m)) in
    record { size = g.size ∙ f.size; rest = λ x a b. g.rest x b ∙ f.rest x a }

-- all pixels painted, or all bytes fed
pub rectangle_only : RectangleOnly
rectangle_only a m n drawn =
    let o = a.operation in
    let p = a.palette in
    let k = pixels o.target in
    let t = fed o p (begun m) (sent_in a.portions) in
    let all : Stage = record { memory = painted (plotted o p 0) 0 k m; drawn = k; waiting = [] } in
    let P : Bool → Type 0 = λ b. OnlyDrawn o m (cond b all t).memory in
    subst (OnlyDrawn o m) (sym drawn.memory_is)
    (elim (by_memory o) as P [
      | true ↦ only_pixels o 0 k m all.memory (painted_only o p 0 0 k m (omega arith))
      | false ↦ only_pixels o 0 (t.drawn - 0) m t.memory (fed_only o p (begun m) (sent_in a.portions))
    ])
