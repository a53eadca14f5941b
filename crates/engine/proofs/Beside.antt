-- Pixels side by side, drawn together.
use Rattle.std.proofs.Common.{◌≡◌, ℕ, zero, suc, ◌+◌, ◌-◌, ◌*◌, ◌^◌, ◌<◌, ◌≤◌, List, length, take, Some, None, Option, refl, sym, ap, ◌∙◌, add-one, length-take, arith}
use Rattle.std.specs.Option.{option_map}
use Rattle.std.proofs.lemmas.Nat.{mul-le}
use Rattle.colour.specs.declared.Colour.{Colour}
use Rattle.colour.specs.declared.Palette.{Palette}
use Rattle.memory.specs.Bytes.{Sound}
use Rattle.memory.specs.Spans.{OfBytes, span, overlaid, times, merged, copied}
use Rattle.memory.proofs.Spans.{length_span, times_more}
use Rattle.window.specs.declared.area.Area.{Area}
use Rattle.window.specs.Apart.{Apart}
use Rattle.window.specs.Geometry.{SideBySide}
use Rattle.window.specs.Places.{place}
use Rattle.window.specs.Values.{value_at, stored}
use Rattle.window.proofs.Frames.{length_stored, value_stored}
use Rattle.window.proofs.Values.{value_lt, four_bytes}
use Rattle.source.specs.Origins.{Origin, taken_from, taken, decoded, sampled}
use Rattle.rules.specs.declared.values.ValueRule.{ValueRule}
use Rattle.rules.specs.Values.{by_bytes, gives, Fits, Agrees}
use Rattle.engine.specs.Painted.{Op, put_colour, plotted, painted}
use Rattle.engine.specs.Strips.{put_value, stripped, ReadFirst}
use Rattle.engine.proofs.Orders.{cut}
use Rattle.engine.proofs.Spans.{stored_overlaid, overlaid_span, overlaid_value, read_first_on, merged_append, merged_sound, pixel_merged, by_first}

-- pixels before k, and then n more
pub painted_on : (draw : ℕ → List ℕ → List ℕ) (first k n : ℕ) (m l : List ℕ) → first ≤ k → l ≡ painted draw first (k - first) m
    → painted draw k n l ≡ painted draw first (k + n - first) m
painted_on draw first k n m l h is =
    let here : k ≡ first + (k - first) = omega arith in
    let all : k - first + n ≡ k + n - first = omega arith in
    ap (painted draw k n) is
    ∙ ap (λ i. painted draw i n (painted draw first (k - first) m)) here
    ∙ sym (cut draw first (k - first) n m)
    ∙ ap (λ i. painted draw first i m) all

length_put : (a b : ℕ) (v : Option ℕ) (t : List ℕ) → length (put_value a b v t) ≡ length t
length_put a b None t = refl
length_put a b (Some v) t = length_stored t a b v

pub length_stripped : (f : ℕ → ℕ → Option ℕ) (b1 b2 b : ℕ) (x y : List ℕ) (n : ℕ) (t : List ℕ)
    → length (stripped f b1 b2 b x y n t) ≡ length t
unfolding stripped
length_stripped f b1 b2 b x y zero t = refl
length_stripped f b1 b2 b x y (suc n) t =
    length_put (n * b) b (f (value_at x (n * b1) b1) (value_at y (n * b2) b2)) (stripped f b1 b2 b x y n t)
    ∙ length_stripped f b1 b2 b x y n t

-- a pixel put among bytes that are put over memory
put_overlaid : (m : List ℕ) (a : ℕ) (xs : List ℕ) (i b : ℕ) (v : Option ℕ) → i + b ≤ length xs
    → put_value (a + i) b v (overlaid m a xs) ≡ overlaid m a (put_value i b v xs)
put_overlaid m a xs i b None h = refl
put_overlaid m a xs i b (Some v) h = stored_overlaid m a xs i b v h

-- a value that lies apart from a pixel stays
value_put : (m : List ℕ) (b : ℕ) (narrow : Colour → ℕ) (at : ℕ) (y : Option Colour) (c d : ℕ) → Apart at b c d
    → value_at (put_colour b narrow at y m) c d ≡ value_at m c d
value_put m b narrow at None c d apart = refl
value_put m b narrow at (Some y) c d apart = value_stored m at b (narrow y) c d apart

pub put_mapped : (b : ℕ) (narrow : Colour → ℕ) (a : ℕ) (y : Option Colour) (t : List ℕ)
    → put_colour b narrow a y t ≡ put_value a b (option_map narrow y) t
put_mapped b narrow a None t = refl
put_mapped b narrow a (Some c) t = refl

-- pixels drawn, where the host sent a number for each
abbrev pub plotted_each : Op → Palette → (ℕ → ℕ) → ℕ → ℕ → List ℕ → List ℕ
plotted_each o p sent k n m = painted (λ j t. plotted o p (sent j) j t) k n m

module _ (o : Op) (p : Palette) where
  abbrev b : ℕ
  b = o.format.width

  -- the rule does this to pixels whose sources have these values
  abbrev pub Puts : ℕ → ℕ → Option ℕ → Type 0
  Puts u v y = (a : ℕ) (t : List ℕ) → put_colour b o.narrow a (o.yields p u v) t ≡ put_value a b y t

  -- so where it agrees with a rule on plain values
  pub puts_given : (r : ValueRule) → Agrees o.yields o.format o.narrow r → (u v : ℕ) → Fits r b u v → Puts u v (gives r b u v)
  puts_given r agrees u v fits a t =
      put_mapped b o.narrow a (o.yields p u v) t ∙ ap (λ y. put_value a b y t) (agrees p u v fits)

  module _ (sent : ℕ → ℕ) where
    module _ (k : ℕ) (m : List ℕ) where
      abbrev at : ℕ
      at = place o.target b k

      -- a value that lies apart from pixels drawn side by side stays
      value_drawn : (i c d : ℕ) → SideBySide o.target k i → Apart c d at (i * b) → value_at (plotted_each o p sent k i m) c d ≡ value_at m c d
      unfolding painted plotted
      value_drawn zero c d row apart = refl
      value_drawn (suc i) c d row apart =
          let t = plotted_each o p sent k i m in
          let j = k + i in
          let all : suc i * b ≡ i * b + b = omega arith in
          let here : place o.target b j ≡ at + i * b = row i (omega arith) b in
          let y = o.yields p (sampled o.first t (sent j) j) (sampled o.second t (sent j) j) in
          let off : Apart (place o.target b j) b c d = λ u hu v hv e. apart v hv (i * b + u) (omega arith) (omega arith) in
          value_put t b o.narrow (place o.target b j) y c d off
          ∙ value_drawn i c d (λ u h. row u (omega arith)) (λ u hu v hv. apart u hu v (omega arith))

      -- and so does what a source gives that takes it
      sampled_drawn : (s : Origin) (i : ℕ) → SideBySide o.target k i → Apart (taken_from s (k + i)) (taken s) at (i * b)
          → sampled s (plotted_each o p sent k i m) (sent (k + i)) (k + i) ≡ sampled s m (sent (k + i)) (k + i)
      sampled_drawn s i row apart = ap (decoded s (sent (k + i)) (k + i)) (value_drawn i (taken_from s (k + i)) (taken s) row apart)

      -- values of both sources in buffers, none of which is overwritten before its pixel is reached
      module _ (g : ℕ → ℕ → Option ℕ) (b1 b2 : ℕ) (x y : List ℕ) (n : ℕ)
          (row : SideBySide o.target k n)
          (firsts : (i : ℕ) → i < n → value_at x (i * b1) b1 ≡ sampled o.first m (sent (k + i)) (k + i))
          (seconds : (i : ℕ) → i < n → value_at y (i * b2) b2 ≡ sampled o.second m (sent (k + i)) (k + i))
          (first_ahead : (i : ℕ) → i < n → Apart (taken_from o.first (k + i)) (taken o.first) at (i * b))
          (second_ahead : (i : ℕ) → i < n → Apart (taken_from o.second (k + i)) (taken o.second) at (i * b))
          (puts : (i : ℕ) → i < n → let u = value_at x (i * b1) b1 in let v = value_at y (i * b2) b2 in Puts u v (g u v)) where
        abbrev strip : ℕ → List ℕ
        strip i = stripped g b1 b2 b x y i (span m at (n * b))

        strip_so_far : (i : ℕ) → i ≤ n → overlaid m at (strip i) ≡ plotted_each o p sent k i m
        unfolding painted plotted stripped
        strip_so_far zero h = overlaid_span m at (n * b)
        strip_so_far (suc i) h =
            let l : i < n = omega arith in
            let j = k + i in
            let t = plotted_each o p sent k i m in
            let u = value_at x (i * b1) b1 in
            let v = value_at y (i * b2) b2 in
            let before : SideBySide o.target k i = λ q r. row q (omega arith) in
            let first : u ≡ sampled o.first t (sent j) j = firsts i l ∙ sym (sampled_drawn o.first i before (first_ahead i l)) in
            let second : v ≡ sampled o.second t (sent j) j = seconds i l ∙ sym (sampled_drawn o.second i before (second_ahead i l)) in
            let all = mul-le (i + 1) b n b (omega arith) (omega arith) in
            let room : i * b + b ≤ length (strip i) =
            omega (arith, length_stripped g b1 b2 b x y i (span m at (n * b)), length_span m at (n * b)) in
            sym (put_overlaid m at (strip i) (i * b) b (g u v) room)
            ∙ ap (put_value (at + i * b) b (g u v)) (strip_so_far i (omega arith))
            ∙ sym (puts i l (at + i * b) t)
            ∙ ap (λ a. put_colour b o.narrow a (o.yields p u v) t) (sym (row i l b))
            ∙ ap (λ c. put_colour b o.narrow (place o.target b j) (o.yields p c v) t) first
            ∙ ap (λ c. put_colour b o.narrow (place o.target b j) (o.yields p (sampled o.first t (sent j) j) c) t) second

        -- the pixels may be worked on in a buffer, and put over memory together
        pub strip_painted : overlaid m at (stripped g b1 b2 b x y n (span m at (n * b))) ≡ plotted_each o p sent k n m
        strip_painted = strip_so_far n (omega arith)

    -- pixels of one value are its bytes, put over memory together
    module _ (v : ℕ) (bs : List ℕ)
        (puts : (x y : ℕ) → Puts x y (Some v))
        (few : b ≤ 4)
        (is : bs ≡ four_bytes v) where
      abbrev pixel : List ℕ
      pixel = take b bs

      pub filled_painted : (k n : ℕ) (m : List ℕ) → SideBySide o.target k n
          → overlaid m (place o.target b k) (times pixel n) ≡ plotted_each o p sent k n m
      unfolding painted plotted times overlaid
      filled_painted k zero m row = refl
      filled_painted k (suc n) m row =
          let at = place o.target b k in
          let j = k + n in
          let t = plotted_each o p sent k n m in
          let long : length pixel ≡ b = omega (arith, length-take b bs, ap length is) in
          ap (λ i. overlaid m at (times pixel i)) (sym (add-one n))
          ∙ sym (times_more m at pixel n)
          ∙ ap (λ l. overlaid (overlaid m at (times pixel n)) (at + n * l) pixel) long
          ∙ ap (λ x. overlaid x (at + n * b) pixel) (filled_painted k n m (λ i h. row i (omega arith)))
          ∙ ap (λ xs. overlaid t (at + n * b) (take b xs)) is
          ∙ overlaid_value t (at + n * b) b v few
          ∙ ap (λ a. stored t a b v) (sym (row n (omega arith) b))
          ∙ sym (puts (sampled o.first t (sent j) j) (sampled o.second t (sent j) j) (place o.target b j) t)

    -- pixels that are made of two values byte by byte
    module _ (f : ℕ → ℕ → ℕ) (fits : OfBytes f) (c d : Area)
        (pixel_is : (j : ℕ) (t : List ℕ) → Sound t
        → plotted o p (sent j) j t ≡ stored t (place o.target b j) b (by_bytes f b (value_at t (place c b j) b) (value_at t (place d b j) b))) where
      merged_each : (k n : ℕ) (m : List ℕ) → Sound m → SideBySide o.target k n → SideBySide c k n → SideBySide d k n
          → ReadFirst (place c b k) (place o.target b k) b → ReadFirst (place d b k) (place o.target b k) b
          → merged f m (place c b k) (place d b k) (place o.target b k) (n * b) ≡ plotted_each o p sent k n m
      unfolding painted merged
      merged_each k zero m s row row1 row2 first second = let none : 0 * b ≡ 0 = omega arith in rw none refl
      merged_each k (suc n) m s row row1 row2 first second =
          let x = place c b k in
          let y = place d b k in
          let at = place o.target b k in
          let i = n * b in
          let j = k + n in
          let l : n < suc n = omega arith in
          let t = merged f m x y at i in
          let sound = merged_sound f fits m s x y at i in
          let all : suc n * b ≡ i + b = omega arith in
          let last : plotted o p (sent j) j t ≡ merged f t (x + i) (y + i) (at + i) b =
          rw (pixel_is j t sound, row n l b, row1 n l b, row2 n l b)
          (pixel_merged f fits t sound (x + i) (y + i) (at + i) b (read_first_on x at b i first) (read_first_on y at b i second)) in
          ap (merged f m x y at) all
          ∙ merged_append f m x y at i b
          ∙ sym last
          ∙ ap (plotted o p (sent j) j)
          (merged_each k n m s (λ q h. row q (omega arith)) (λ q h. row1 q (omega arith)) (λ q h. row2 q (omega arith)) first second)

    -- are their bytes, merged one after another
    pub merged_painted : (f : ℕ → ℕ → ℕ) → OfBytes f → (c d : Area)
        → ((t : List ℕ) (s j : ℕ) → sampled o.first t s j ≡ value_at t (place c b j) b)
        → ((t : List ℕ) (s j : ℕ) → sampled o.second t s j ≡ value_at t (place d b j) b)
        → ((u v : ℕ) → u < 2 ^ (8 * b) → v < 2 ^ (8 * b) → Puts u v (Some (by_bytes f b u v)))
        → (k n : ℕ) (m : List ℕ) → Sound m → SideBySide o.target k n → SideBySide c k n → SideBySide d k n
        → ReadFirst (place c b k) (place o.target b k) b → ReadFirst (place d b k) (place o.target b k) b
        → merged f m (place c b k) (place d b k) (place o.target b k) (n * b) ≡ plotted_each o p sent k n m
    unfolding plotted
    merged_painted f fits c d firsts seconds puts =
        merged_each f fits c d
        (λ j t s.
        let y = sampled o.second t (sent j) j in
        let u = value_at t (place c b j) b in
        let v = value_at t (place d b j) b in
        let at = place o.target b j in
        ap (λ x. put_colour b o.narrow at (o.yields p x y) t) (firsts t (sent j) j)
        ∙ ap (λ x. put_colour b o.narrow at (o.yields p u x) t) (seconds t (sent j) j)
        ∙ puts u v (value_lt t s (place c b j) b) (value_lt t s (place d b j) b) at t)

    -- pixels that are the first source's are its bytes, copied one after another
    pub copied_painted : (c : Area)
        → ((t : List ℕ) (s j : ℕ) → sampled o.first t s j ≡ value_at t (place c b j) b)
        → ((u v : ℕ) → u < 2 ^ (8 * b) → Puts u v (Some u))
        → (k n : ℕ) (m : List ℕ) → Sound m → SideBySide o.target k n → SideBySide c k n
        → ReadFirst (place c b k) (place o.target b k) b
        → copied m (place c b k) (place o.target b k) (n * b) ≡ plotted_each o p sent k n m
    unfolding plotted
    copied_painted c firsts puts k n m sound row row1 first =
        merged_each (λ x _. x) (λ x y h _. h) c c
        (λ j t s.
        let y = sampled o.second t (sent j) j in
        let u = value_at t (place c b j) b in
        let small = value_lt t s (place c b j) b in
        let at = place o.target b j in
        ap (λ x. put_colour b o.narrow at (o.yields p x y) t) (firsts t (sent j) j)
        ∙ puts u y small at t
        ∙ ap (stored t at b) (sym (by_first b u u small)))
        k n m sound row row1 row1 first first
