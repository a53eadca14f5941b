-- The laws of drawing.
use Rattle.std.proofs.Common.{◌≡◌, ℕ, zero, suc, ◌+◌, ◌-◌, ◌<◌, ◌≤◌, Bool, true, false, cond, ltb, ◌≢◌, List, [], ◌∷◌, ◌++◌, length, get_or, take, Some, None, Option, refl, ap, ◌∙◌, subst, ⊎_elim, add_assoc, arith}
use Rattle.std.proofs.lemmas.Bool.{cases_lt}
use Rattle.feeding.proofs.Feeding.{SoFar}
use Rattle.colour.specs.declared.Colour.{Colour}
use Rattle.colour.specs.declared.Palette.{Palette}
use Rattle.window.specs.Apart.{Off, Apart}
use Rattle.window.specs.Places.{pixels}
use Rattle.window.specs.Values.{value_at}
use Rattle.window.proofs.Frames.{length_stored, get_or_stored, value_stored, value_back_low}
use Rattle.window.proofs.Places.{place_inside, places_apart}
use Rattle.source.specs.Origins.{awaited}
use Rattle.engine.specs.Painted.{Op, yielded, put_colour, plotted, painted}
use Rattle.engine.specs.Fed.{Stage, takes_at, due, whole, number, come, byte_come, byte_fed, fed, Feed}
use Rattle.engine.specs.Laws.{pixel_at, pixel_value, value_after, PixelsHold, OnlyPixels}
use Rattle.engine.proofs.Orders.{painted_kept, cut}

-- what a colour put at pixel k does
module _ (o : Op) (k : ℕ) (m : List ℕ) where
  put : Option Colour → List ℕ
  put y = put_colour o.format.width o.narrow (pixel_at o k) y m

  put_length : (y : Option Colour) → length (put y) ≡ length m
  unfolding put
  put_length None = refl
  put_length (Some c) = length_stored m (pixel_at o k) o.format.width (o.narrow c)

  put_kept : (y : Option Colour) (x : ℕ) → Off (pixel_at o k) o.format.width x → get_or (put y) x 0 ≡ get_or m x 0
  unfolding put
  put_kept None x off = refl
  put_kept (Some c) x off = get_or_stored m (pixel_at o k) o.format.width (o.narrow c) x off

  put_apart : (y : Option Colour) (a b : ℕ) → Apart (pixel_at o k) o.format.width a b → value_at (put y) a b ≡ value_at m a b
  unfolding put
  put_apart None a b apart = refl
  put_apart (Some c) a b apart = value_stored m (pixel_at o k) o.format.width (o.narrow c) a b apart

  put_value : (y : Option Colour) → pixel_at o k + o.format.width ≤ length m → pixel_value o (put y) k ≡ value_after o y (pixel_value o m k)
  unfolding put
  put_value None h = refl
  put_value (Some c) h = value_back_low m (pixel_at o k) o.format.width (o.narrow c) h

module _ (o : Op) (p : Palette) (sent : ℕ) where
  plotted_length : (k : ℕ) (m : List ℕ) → length (plotted o p sent k m) ≡ length m
  unfolding plotted put
  plotted_length k m = put_length o k m (yielded o p sent k m)

  pub painted_length : (first n : ℕ) (m : List ℕ) → length (painted (plotted o p sent) first n m) ≡ length m
  painted_length first n m = painted_kept (λ x. length x ≡ length m) (plotted o p sent) (λ k x e. plotted_length k x ∙ e) first n m refl

  -- a byte outside the pixels stays
  pub painted_outside : (first n : ℕ) (m : List ℕ) (x : ℕ) → ((j : ℕ) → j < n → Off (pixel_at o (first + j)) o.format.width x)
      → get_or (painted (plotted o p sent) first n m) x 0 ≡ get_or m x 0
  unfolding painted plotted put
  painted_outside first zero m x off = refl
  painted_outside first (suc n) m x off =
      let now = painted (plotted o p sent) first n m in
      put_kept o (first + n) now (yielded o p sent (first + n) now) x (off n (omega arith))
      ∙ painted_outside first n m x (λ j h. off j (omega arith))

  pub painted_only : (first n : ℕ) (m : List ℕ) → n ≤ pixels o.target - first → OnlyPixels o first n m (painted (plotted o p sent) first n m)
  painted_only first n m few = record {
    own = λ j h. omega arith;
    size = painted_length first n m;
    rest = painted_outside first n m;
  }

  module _ (across : 1 ≤ o.target.width) (fits : o.target.left + o.target.width ≤ o.target.image) where
    -- a pixel stays while others are drawn
    pub painted_other : (first n k : ℕ) (m : List ℕ) → ((j : ℕ) → j < n → first + j ≢ k) → pixel_value o (painted (plotted o p sent) first n m) k ≡ pixel_value o m k
    unfolding painted plotted put
    painted_other first zero k m other = refl
    painted_other first (suc n) k m other =
        let now = painted (plotted o p sent) first n m in
        put_apart o (first + n) now (yielded o p sent (first + n) now) (pixel_at o k) o.format.width (places_apart o.target o.format.width (first + n) k across fits (other n (omega arith)))
        ∙ painted_other first n k m (λ j h. other j (omega arith))

    -- a pixel that is reached holds what its rule yields
    last_holds : (first n : ℕ) (m : List ℕ) → pixel_at o (first + n) + o.format.width ≤ length m
        → pixel_value o (painted (plotted o p sent) first (suc n) m) (first + n)
        ≡ value_after o (yielded o p sent (first + n) (painted (plotted o p sent) first n m)) (pixel_value o m (first + n))
    unfolding painted plotted put
    last_holds first n m h =
        let now = painted (plotted o p sent) first n m in
        put_value o (first + n) now (yielded o p sent (first + n) now) (omega (arith, painted_length first n m))
        ∙ ap (value_after o (yielded o p sent (first + n) now)) (painted_other first n (first + n) m (λ j i e. omega arith))

    pub painted_holds : 1 ≤ o.target.height → (first n : ℕ) (m : List ℕ) → n ≤ pixels o.target - first → PixelsHold o p sent first n m (painted (plotted o p sent) first n m)
    painted_holds down first n m few inside j h =
        let d = plotted o p sent in
        let k = n - suc j in
        let all : n ≡ suc j + k = omega arith in
        ap (λ i. pixel_value o (painted d first i m) (first + j)) all
        ∙ ap (λ x. pixel_value o x (first + j)) (cut d first (suc j) k m)
        ∙ painted_other (first + suc j) k (first + j) (painted d first (suc j) m) (λ i h e. omega arith)
        ∙ last_holds first j m (omega (arith, place_inside o.target across o.format.width (first + j) down (omega arith)))

module _ (o : Op) where
  only_none : (first : ℕ) (m : List ℕ) → OnlyPixels o first 0 m m
  only_none first m = record { own = λ j h. let z : ⊥ = omega arith in absurd z; size = refl; rest = λ x off. refl }

  -- pixels, and then those after them
  only_more : (first c d : ℕ) (l m n : List ℕ) → OnlyPixels o first c l m → OnlyPixels o (first + c) d m n → OnlyPixels o first (c + d) l n
  only_more first c d l m n f g = record {
    own = λ j h. ⊎_elim (λ k. f.own j k) (λ k. omega (arith, g.own (j - c) (omega arith))) (cases_lt j c);
    size = g.size ∙ f.size;
    rest = λ x off. g.rest x (λ j h. rw (add_assoc first c j) (off (c + j) (omega arith))) ∙ f.rest x (λ j h. off j (omega arith));
  }

  -- a byte outside the window stays
  pub outside_kept : (first c : ℕ) (m n : List ℕ) → OnlyPixels o first c m n → (x : ℕ)
      → ((k : ℕ) → k < pixels o.target → Off (pixel_at o k) o.format.width x) → get_or n x 0 ≡ get_or m x 0
  outside_kept first c m n f x off = f.rest x (λ j h. off (first + j) (f.own j h))

-- so many pixels were drawn from s to t, and nothing else changed
pub record Grew (o : Op) (s t : Stage) : Type 0 where
  pub more : ℕ
  pub drawn_is : t.drawn ≡ s.drawn + more
  pub only : OnlyPixels o s.drawn more s.memory t.memory

module _ (o : Op) (p : Palette) where
  grew_none : (s t : Stage) → t.memory ≡ s.memory → t.drawn ≡ s.drawn → Grew o s t
  grew_none s t e f = record { more = 0; drawn_is = omega arith; only = rw e (only_none o s.drawn s.memory) }

  grew_more : (s t u : Stage) → Grew o s t → Grew o t u → Grew o s u
  grew_more s t u f g = record {
    more = f.more + g.more;
    drawn_is = omega (arith, f.drawn_is, g.drawn_is);
    only =
        only_more o s.drawn f.more g.more s.memory t.memory u.memory f.only
        (subst (λ d. OnlyPixels o d g.more t.memory u.memory) f.drawn_is g.only);
  }

  whole_grew : (s : Stage) (v : ℕ) → Grew o s (whole o p s v)
  whole_grew s v = record {
    more = due o s.drawn;
    drawn_is = refl;
    only = painted_only o p v s.drawn (due o s.drawn) s.memory (omega arith);
  }

  come_grew : (s : Stage) (bs : List ℕ) → Grew o s (come o p s bs)
  come_grew s bs =
      let P : Bool → Type 0 = λ b. Grew o s (cond b (record { memory = s.memory; drawn = s.drawn; waiting = bs }) (whole o p s (number bs))) in
      elim (ltb (length bs) (awaited o.first)) as P [ true ↦ grew_none s (record { memory = s.memory; drawn = s.drawn; waiting = bs }) refl refl | false ↦ whole_grew s (number bs) ]

  byte_grew : (s : Stage) (b : ℕ) → Grew o s (byte_fed o p s b)
  byte_grew s b =
      let P : Bool → Type 0 = λ t. Grew o s (cond t (byte_come o p s b) s) in
      elim (takes_at o s) as P [ true ↦ come_grew s (s.waiting ++ b ∷ []) | false ↦ grew_none s s refl refl ]

  pub fed_grew : (s : Stage) (xs : List ℕ) → Grew o s (fed o p s xs)
  fed_grew s [] = grew_none s s refl refl
  fed_grew s (x ∷ xs) = grew_more s (byte_fed o p s x) (fed o p (byte_fed o p s x) xs) (byte_grew s x) (fed_grew (byte_fed o p s x) xs)

  module _ {s t : Stage} {xs : List ℕ} where
    -- bytes that are fed change the pixels that they draw, and nothing else
    pub feed_only : {taken drawn : ℕ} → Feed o p s xs t taken drawn → OnlyPixels o s.drawn drawn s.memory t.memory
    feed_only {taken} {drawn} f =
        let g : Grew o s t = rw f.after (fed_grew s xs) in
        let e : g.more ≡ drawn = omega (arith, g.drawn_is, f.drawn_is) in
        subst (λ d. OnlyPixels o s.drawn d s.memory t.memory) e g.only

    -- and no pixel is taken back
    pub so_far_grew : {i : ℕ} → SoFar (takes_at o) (byte_come o p) s xs i t → s.drawn ≤ t.drawn
    so_far_grew {i} f = let g : Grew o s t = rw f.after (fed_grew s (take i xs)) in omega (arith, g.drawn_is)
