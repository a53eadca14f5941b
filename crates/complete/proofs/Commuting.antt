-- Operations that do not touch what the other draws or reads may change places.
use Rattle.std.proofs.Common.{◌≡◌, ℕ, ◌<◌, Bool, true, ◌&&◌, List, Some, None, Option, sym, refl, ap, ◌∙◌, subst, inl, inr}
use Rattle.std.proofs.lemmas.Bool.{and_parts}
use Rattle.colour.specs.declared.Colour.{Colour}
use Rattle.colour.specs.declared.Palette.{Palette}
use Rattle.window.specs.Apart.{Apart}
use Rattle.window.specs.Places.{pixels}
use Rattle.window.proofs.Frames.{stored_comm}
use Rattle.source.specs.Origins.{Origin, taken_from, taken, sampled}
use Rattle.source.proofs.Samples.{sampled_apart}
use Rattle.engine.specs.Painted.{Op, yielded, put_colour, plotted}
use Rattle.engine.specs.Laws.{pixel_at}
use Rattle.complete.specs.Parts.{sent_in}
use Rattle.complete.specs.Complete.{Independent, Way, left_by, Completes, Same}
use Rattle.complete.specs.Laws.{BothWhole, DrawnByBoth, OrderHidden, OrderDoesNotShow}
use Rattle.complete.proofs.Passing.{done, done_past}

-- a colour put at pixel k
abbrev put : Op → ℕ → Option Colour → List ℕ → List ℕ
put o k y m = put_colour o.format.width o.narrow (pixel_at o k) y m

-- what a source gives stays while bytes apart from it change
put_apart : (o : Op) (k : ℕ) (y : Option Colour) (m : List ℕ) (s : Origin) (v j : ℕ)
    → Apart (pixel_at o k) o.format.width (taken_from s j) (taken s) → sampled s (put o k y m) v j ≡ sampled s m v j
put_apart o k None m s v j apart = refl
put_apart o k (Some c) m s v j apart = sampled_apart s v j m (pixel_at o k) o.format.width (o.narrow c) apart

put_comm : (a b : Op) (j k : ℕ) (y z : Option Colour) (m : List ℕ) → Apart (pixel_at a j) a.format.width (pixel_at b k) b.format.width
    → put a j y (put b k z m) ≡ put b k z (put a j y m)
put_comm a b j k None z m apart = refl
put_comm a b j k (Some c) None m apart = refl
put_comm a b j k (Some c) (Some d) m apart =
    stored_comm m (pixel_at b k) b.format.width (b.narrow d) (pixel_at a j) a.format.width (a.narrow c) apart

-- two pixels, where neither touches the other nor what the other takes
pub record PixelsApart (a b : Op) (j k : ℕ) : Type 0 where
  pub targets : Apart (pixel_at a j) a.format.width (pixel_at b k) b.format.width
  pub on_first : Apart (pixel_at a j) a.format.width (taken_from b.first k) (taken b.first)
  pub on_second : Apart (pixel_at a j) a.format.width (taken_from b.second k) (taken b.second)
  pub by_first : Apart (pixel_at b k) b.format.width (taken_from a.first j) (taken a.first)
  pub by_second : Apart (pixel_at b k) b.format.width (taken_from a.second j) (taken a.second)

pub plotted_comm : (a b : Op) (p q : Palette) (v w j k : ℕ) (m : List ℕ) → PixelsApart a b j k
    → plotted a p v j (plotted b q w k m) ≡ plotted b q w k (plotted a p v j m)
unfolding plotted
plotted_comm a b p q v w j k m apart =
    let y = yielded a p v j m in
    let z = yielded b q w k m in
    let y₁ = put_apart b k z m a.first v j apart.by_first in
    let y₂ = put_apart b k z m a.second v j apart.by_second in
    let z₁ = put_apart a j y m b.first w k apart.on_first in
    let z₂ = put_apart a j y m b.second w k apart.on_second in
    let ya : yielded a p v j (put b k z m) ≡ y = ap (λ x. a.yields p x (sampled a.second (put b k z m) v j)) y₁ ∙ ap (a.yields p (sampled a.first m v j)) y₂ in
    let zb : yielded b q w k (put a j y m) ≡ z = ap (λ x. b.yields q x (sampled b.second (put a j y m) w k)) z₁ ∙ ap (b.yields q (sampled b.first m w k)) z₂ in
    ap (λ x. put a j x (put b k z m)) ya ∙ put_comm a b j k y z m apart.targets ∙ sym (ap (λ x. put b k x (put a j y m)) zb)

-- the pixels of independent operations lie so
module _ (a b : Op) (free : Independent a b) where
  pixels_apart : (j k : ℕ) → j < pixels a.target → k < pixels b.target → PixelsApart a b j k
  pixels_apart j k hj hk = record {
    targets = λ i hi l hl e. free.targets _ (j, hj, i, hi, refl) (k, hk, l, hl, e);
    on_first = λ i hi l hl e. free.second_reads _ (j, hj, i, hi, refl) (inl (k, hk, l, hl, e));
    on_second = λ i hi l hl e. free.second_reads _ (j, hj, i, hi, refl) (inr (k, hk, l, hl, e));
    by_first = λ i hi l hl e. free.first_reads _ (inl (j, hj, l, hl, e)) (k, hk, i, hi, refl);
    by_second = λ i hi l hl e. free.first_reads _ (inr (j, hj, l, hl, e)) (k, hk, i, hi, refl);
  }

  -- so the whole of one and the whole of the other may change places
  pub done_swapped : (p q : Palette) (xs ys m : List ℕ) → done a p xs (done b q ys m) ≡ done b q ys (done a p xs m)
  done_swapped p q xs ys m =
      done_past a p (done b q ys)
      (λ v j h x. done_past b q (plotted a p v j) (λ w k i y. plotted_comm a b p q v w j k y (pixels_apart j k h i)) ys x)
      xs m

-- what is drawn whole rests on the operation, the palette and the bytes only
pub done_same : (v w : Way) → Same v w → (m : List ℕ)
    → done v.operation v.palette (sent_in v.portions) m ≡ done w.operation w.palette (sent_in w.portions) m
done_same v w s m =
    let e = s.operation_is in
    let f = s.palette_is in
    let h = s.bytes_are in
    cc

-- two operations, each drawn in two ways
pub order_does_not_show : OrderDoesNotShow
unfolding done
order_does_not_show a b b' a' m l n l' n' early late early' late' same-a same-b free =
    let xs = sent_in a.portions in
    let ys = sent_in b.portions in
    late.memory_is
    ∙ ap (done b.operation b.palette ys) early.memory_is
    ∙ sym (done_swapped a.operation b.operation free a.palette b.palette xs ys m)
    ∙ ap (done a.operation a.palette xs) (done_same b b' same-b m ∙ sym early'.memory_is)
    ∙ done_same a a' same-a l'
    ∙ sym late'.memory_is

module _ (a b b' a' : Way) (m m' n n' : List ℕ) (complete : Bool) where
  pub order_hidden : (complete ≡ true → BothWhole a b m n × BothWhole b' a' m' n') → OrderHidden a b b' a' m m' complete n n'
  order_hidden drawn same-a same-b free same-m all =
      let one = (drawn all).0 in
      let other = (drawn all).1 in
      let early' = subst (λ x. Completes b' x (left_by b' m')) (sym same-m) other.early in
      order_does_not_show a b b' a' m (left_by a m) n (left_by b' m') n' one.early one.late early' other.late same-a same-b free

-- as the two answered together
pub order_hidden_by : {a b b' a' : Way} {m m' n n' : List ℕ} {before after complete : Bool} → DrawnByBoth a b m n before → DrawnByBoth b' a' m' n' after
    → complete ≡ (before && after) → OrderHidden a b b' a' m m' complete n n'
order_hidden_by {before} {after} one other is =
    order_hidden _ _ _ _ _ _ _ _ _ (λ all. let each = and_parts before after (sym is ∙ all) in (one.whole each.0, other.whole each.1))
