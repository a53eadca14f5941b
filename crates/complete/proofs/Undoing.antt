-- The same exclusive or twice restores memory.
use Rattle.std.proofs.Common.{◌≡◌, ℕ, ◌+◌, ◌*◌, ◌^◌, ◌<◌, ◌≤◌, Bool, true, false, cond, ltb, ◌≢◌, List, [], ◌∷◌, ◌++◌, map, length, Some, sym, refl, ap, ◌∙◌, subst, arith}
use lib.Bits.{xor_lt}
use Rattle.std.proofs.lemmas.Bool.Decides.{nat_tests}
use Rattle.std.proofs.lemmas.Bool.{cond-true, cond-false}
use Rattle.memory.specs.Bytes.{Sound}
use Rattle.colour.specs.declared.Colour.{Colour}
use Rattle.colour.specs.declared.Palette.{Palette}
use Rattle.colour.specs.Channels.{xored}
use Rattle.colour.specs.Formats.{Format}
use Rattle.colour.proofs.Xors.{twice}
use Rattle.pixel.specs.Rasters.{rastered}
use Rattle.pixel.proofs.Rasters.{rastered_six}
use Rattle.window.specs.Apart.{Apart}
use Rattle.window.specs.Places.{area_of, pixels}
use Rattle.window.specs.Values.{value_at, stored}
use Rattle.window.proofs.Frames.{length_stored, sound_stored, stored_twice, stored_same, value_back}
use Rattle.window.proofs.Values.{value_lt}
use Rattle.window.proofs.Places.{place_inside, places_apart}
use Rattle.source.specs.Origins.{origin_of, image, taken_from, taken, sampled, awaited}
use Rattle.source.proofs.Samples.{sampled_apart}
use Rattle.rules.specs.declared.Raster.{Raster}
use Rattle.rules.specs.Yields.{raster_yields}
use Rattle.engine.specs.declared.drawing.Drawing.{Drawing}
use Rattle.engine.specs.Painted.{Op, op_of, put_colour, plotted, painted}
use Rattle.engine.specs.Fed.{Stage, takes, takes_at, due, whole, number, come, byte_come, byte_fed, fed}
use Rattle.engine.specs.Laws.{pixel_at}
use Rattle.feeding.proofs.Feeding.{fed_ended}
use Rattle.engine.proofs.Orders.{painted_kept, past, undone}
use Rattle.complete.specs.declared.exclusive_or.ExclusiveOr.{ExclusiveOr}
use Rattle.complete.specs.declared.part.Part.{Part}
use Rattle.complete.specs.Parts.{portion_of, sent_in, by_memory}
use Rattle.complete.specs.Complete.{begun, Accepted, Way, way_in_parts, left_by}
use Rattle.complete.specs.Undo.{IsExclusiveOr, SourceApart, exclusive_or_of}
use Rattle.complete.specs.Laws.{left_by_both, both_complete, BothWhole, DrawnByBoth, Undone, ExclusiveOrUndoesItself}
use Rattle.complete.proofs.Passing.{over, fed_from, fed_past, done}
use Rattle.complete.proofs.Commuting.{plotted_comm, done_same}

-- a memory of n bytes
record Good (n : ℕ) (m : List ℕ) : Type 0 where
  sound : Sound m
  long : length m ≡ n

module _ (o : Op) (p : Palette) (x : IsExclusiveOr o) where
  -- the value that a pixel becomes
  value : ℕ → ℕ → ℕ
  value a b = o.narrow (xored (x.first_format.colour p a) (o.format.colour p b))

  pixel_drawn : (v k : ℕ) (m : List ℕ)
      → plotted o p v k m ≡ stored m (pixel_at o k) o.format.width (value (sampled o.first m v k) (value_at m (pixel_at o k) o.format.width))
  unfolding plotted value
  pixel_drawn v k m =
      let c = x.first_format.colour p (sampled o.first m v k) in
      let held = value_at m (pixel_at o k) o.format.width in
      let second : sampled o.second m v k ≡ held = ap (λ s. sampled s m v k) x.second_is in
      let wide = x.first_format.wide p (sampled o.first m v k) in
      ap (λ y. put_colour o.format.width o.narrow (pixel_at o k) y m)
      (x.yields_is p (sampled o.first m v k) (sampled o.second m v k)
      ∙ ap (λ b. Some (rastered 6 c (o.format.colour p b))) second
      ∙ ap Some (rastered_six c (o.format.colour p held) wide (o.format.wide p held)))

  value_fits : (a b : ℕ) → value a b < 2 ^ (8 * o.format.width)
  unfolding value
  value_fits a b =
      let c = x.first_format.colour p a in
      let e = o.format.colour p b in
      let cw = x.first_format.wide p a in
      let ew = o.format.wide p b in
      x.narrows.fits (xored c e) (record {
        red = xor_lt 8 c.red e.red cw.red ew.red;
        green = xor_lt 8 c.green e.green cw.green ew.green;
        blue = xor_lt 8 c.blue e.blue cw.blue ew.blue;
      })

  value_twice : (a b : ℕ) → b < 2 ^ (8 * o.format.width) → value a (value a b) ≡ b
  unfolding value
  value_twice a b h = twice o.format o.narrow x.narrows p (x.first_format.colour p a) b (x.first_format.wide p a) h

  kept : (n v k : ℕ) (m : List ℕ) → Good n m → Good n (plotted o p v k m)
  kept n v k m g = rw (pixel_drawn v k m) (record { sound = sound_stored m g.sound _ _ _; long = length_stored m _ _ _ ∙ g.long })

  module _ (n : ℕ) (ok : Accepted o n) (apart : SourceApart o) where
    off_first : (j k : ℕ) → j < pixels o.target → k < pixels o.target → Apart (pixel_at o j) o.format.width (taken_from o.first k) (taken o.first)
    off_first j k hj hk i hi l hl e = apart _ (j, hj, i, hi, refl) (k, hk, l, hl, e)

    off_second : (j k : ℕ) → j ≢ k → Apart (pixel_at o j) o.format.width (taken_from o.second k) (taken o.second)
    off_second j k ne =
        subst (λ s. Apart (pixel_at o j) o.format.width (taken_from s k) (taken s)) (sym x.second_is)
        (places_apart o.target o.format.width j k ok.across ok.fits ne)

    commutes : (v w j k : ℕ) → j < pixels o.target → k < pixels o.target → j ≢ k → (m : List ℕ)
        → plotted o p v j (plotted o p w k m) ≡ plotted o p w k (plotted o p v j m)
    commutes v w j k hj hk ne m =
        plotted_comm o o p p v w j k m (record {
          targets = places_apart o.target o.format.width j k ok.across ok.fits ne;
          on_first = off_first j k hj hk;
          on_second = off_second j k ne;
          by_first = off_first k j hk hj;
          by_second = off_second k j (λ e. ne (sym e));
        })

    -- a pixel undoes itself
    involutive : (v k : ℕ) → k < pixels o.target → (m : List ℕ) → Good n m → plotted o p v k (plotted o p v k m) ≡ m
    involutive v k h m g =
        let w = o.format.width in
        let at = pixel_at o k in
        let a = sampled o.first m v k in
        let b = value_at m at w in
        let c = value a b in
        let inside = place_inside o.target ok.across w k ok.down h in
        let reaches = ok.target_inside in
        let same_first : sampled o.first (stored m at w c) v k ≡ a = sampled_apart o.first v k m at w c (off_first k k h h) in
        let held : value_at (stored m at w c) at w ≡ c = value_back m at w c (omega (arith, g.long)) (value_fits a b) in
        let once = pixel_drawn v k m in
        let again = pixel_drawn v k (stored m at w c) in
        let back = value_twice a b (value_lt m g.sound at w) in
        let twice-stored = stored_twice m at w c b in
        let same = stored_same m g.sound at w in
        ap (plotted o p v k) once ∙ again
        ∙ ap (λ y. stored (stored m at w c) at w (value y (value_at (stored m at w c) at w))) same_first
        ∙ ap (λ y. stored (stored m at w c) at w (value a y)) held
        ∙ ap (stored (stored m at w c) at w) back
        ∙ twice-stored ∙ same

    -- pixels undo themselves
    pixels_undone : (v first count : ℕ) → first + count ≤ pixels o.target → (m : List ℕ) → Good n m
        → painted (plotted o p v) first count (painted (plotted o p v) first count m) ≡ m
    pixels_undone v first count few m g =
        undone (Good n) (plotted o p v) (kept n v) first count
        (λ j k hj hk ne y i. commutes v v (first + j) (first + k) (omega arith) (omega arith) (λ e. ne (omega arith)) y)
        (λ k h y i. involutive v (first + k) (omega arith) y i)
        m g

    taken_below : (d : ℕ) → takes o d ≡ true → d < pixels o.target
    taken_below d e = grind (arith, nat_tests)

    -- the pixels of one unit commute with all that come after
    unit_past : (v first count u k : ℕ) → first + count ≤ k → k < pixels o.target → (m : List ℕ) → Good n m
        → painted (plotted o p v) first count (plotted o p u k m) ≡ plotted o p u k (painted (plotted o p v) first count m)
    unit_past v first count u k far h m g =
        sym (past (Good n) (plotted o p v) (kept n v) (plotted o p u k) first count
        (λ j i y gy. commutes u v k (first + j) h (omega arith) (λ e. omega arith) y) m g)

    module _ (s : Stage) (b : ℕ) (bs : List ℕ) (g : Good n s.memory) (left : List ℕ) (left_is : left ≡ (fed o p s (b ∷ bs)).memory)
        (rest : (t : Stage) → Good n t.memory → (fed o p (over t (fed o p t bs).memory) bs).memory ≡ t.memory) where
      ws : List ℕ
      ws = s.waiting ++ b ∷ []

      again_waits : takes o s.drawn ≡ true → ltb (length ws) (awaited o.first) ≡ true → (fed o p (over s left) (b ∷ bs)).memory ≡ s.memory
      unfolding ws
      again_waits e f =
          let t : Stage = record { memory = s.memory; drawn = s.drawn; waiting = ws } in
          let one : byte_fed o p s b ≡ t = cond-true (takes o s.drawn) (come o p s ws) s e ∙ cond-true (ltb (length ws) (awaited o.first)) t (whole o p s (number ws)) f in
          let two : byte_fed o p (over s left) b ≡ over t left =
          cond-true (takes o s.drawn) (come o p (over s left) ws) (over s left) e
          ∙ cond-true (ltb (length ws) (awaited o.first)) (over t left) (whole o p (over s left) (number ws)) f in
          ap (λ u. (fed o p u bs).memory) two
          ∙ ap (λ l. (fed o p (over t l) bs).memory) (left_is ∙ ap (λ u. (fed o p u bs).memory) one)
          ∙ rest t g

      again_whole : takes o s.drawn ≡ true → ltb (length ws) (awaited o.first) ≡ false → (fed o p (over s left) (b ∷ bs)).memory ≡ s.memory
      unfolding ws
      again_whole e f =
          let v = number ws in
          let d = s.drawn in
          let count = due o d in
          let unit = painted (plotted o p v) d count in
          let t : Stage = whole o p s v in
          let one : byte_fed o p s b ≡ t = cond-true (takes o d) (come o p s ws) s e ∙ cond-false (ltb (length ws) (awaited o.first)) (record { memory = s.memory; drawn = d; waiting = ws }) t f in
          let two : byte_fed o p (over s left) b ≡ over t (unit left) =
          cond-true (takes o d) (come o p (over s left) ws) (over s left) e
          ∙ cond-false (ltb (length ws) (awaited o.first)) (record { memory = left; drawn = d; waiting = ws }) (over t (unit left)) f in
          let below : d < pixels o.target = taken_below d e in
          let then = (fed o p t bs).memory in
          let gt : Good n t.memory = painted_kept (Good n) (plotted o p v) (kept n v) d count s.memory g in
          let gn = (fed_from o p (Good n) (kept n) 0 t bs (record { good = gt; far = omega arith })).good in
          ap (λ u. (fed o p u bs).memory) two
          ∙ ap (λ l. (fed o p (over t (unit l)) bs).memory) (left_is ∙ ap (λ u. (fed o p u bs).memory) one)
          ∙ ap (λ u. u.memory) (fed_past o p (Good n) (kept n) unit (d + count) (λ u k. unit_past v d count u k) (over t then) bs (record { good = gn; far = omega arith }))
          ∙ ap unit (rest t gt)
          ∙ pixels_undone v d count (omega (arith, below)) s.memory g

    -- bytes fed again undo what they did
    fed_again : (s : Stage) (xs : List ℕ) → Good n s.memory → (fed o p (over s (fed o p s xs).memory) xs).memory ≡ s.memory
    unfolding ws
    fed_again s [] g = refl
    fed_again s (b ∷ bs) g = by (takes o s.drawn) refl (ltb (length (s.waiting ++ b ∷ [])) (awaited o.first)) refl (λ t h. fed_again t bs h)
      where
        by : (t : Bool) → takes o s.drawn ≡ t → (l : Bool) → ltb (length (s.waiting ++ b ∷ [])) (awaited o.first) ≡ l
            → ((t : Stage) → Good n t.memory → (fed o p (over t (fed o p t bs).memory) bs).memory ≡ t.memory)
            → (fed o p (over s (fed o p s (b ∷ bs)).memory) (b ∷ bs)).memory ≡ s.memory
        by false e l f rest =
            ap (λ u. u.memory) (fed_ended (takes_at o) (byte_come o p) (over s (fed o p s (b ∷ bs)).memory) (b ∷ bs) e) ∙ ap (λ u. u.memory) (fed_ended (takes_at o) (byte_come o p) s (b ∷ bs) e)
        by true e true f rest = again_waits s b bs g (fed o p s (b ∷ bs)).memory refl rest e f
        by true e false f rest = again_whole s b bs g (fed o p s (b ∷ bs)).memory refl rest e f

    done_twice : (xs m : List ℕ) → Good n m → done o p xs (done o p xs m) ≡ m
    unfolding done
    done_twice xs m g =
        let k = pixels o.target in
        let once : Bool → List ℕ → List ℕ = λ b y. (cond b (record { memory = painted (plotted o p 0) 0 k y; drawn = k; waiting = [] }) (fed o p (begun y) xs)).memory in
        let P : Bool → Type 0 = λ b. once b (once b m) ≡ m in
        elim (by_memory o) as P [ true ↦ pixels_undone 0 0 k (omega arith) m g | false ↦ fed_again (begun m) xs g ]

-- an exclusive or drawn in two ways
pub exclusive_or_undoes_itself : ExclusiveOrUndoesItself
unfolding done
exclusive_or_undoes_itself a a' m l n sound early late same x apart =
    let xs = sent_in a.portions in
    late.memory_is
    ∙ sym (done_same a a' same l)
    ∙ ap (done a.operation a.palette xs) early.memory_is
    ∙ done_twice a.operation a.palette x (length m) early.accepted apart xs m (record { sound = sound; long = refl })

pub undo : (a a' : Way) (m n : List ℕ) (complete : Bool) → Sound m → (complete ≡ true → BothWhole a a' m n) → Undone a a' m complete n
undo a a' m n complete sound drawn same x apart all =
    exclusive_or_undoes_itself a a' m (left_by a m) n sound (drawn all).early (drawn all).late same x apart

-- the operation of a drawing that holds these parts
module _ {F D : Type 0} (f : F → Format) (d : D → Format) (narrow : D → Colour → ℕ) (x : ExclusiveOr F D) where
  pub drawing_op : (r : Drawing (Raster F D) D) → r.rule ≡ record { rule = 6; first = x.format; second = x.canvas } → r.canvas ≡ x.canvas
      → r.first ≡ x.first → origin_of r.second ≡ image (area_of x.target) (d x.canvas).width → r.target ≡ x.target
      → op_of (λ y. raster_yields (f y.first) (d y.second) y.rule) d narrow r ≡ exclusive_or_of f d narrow x
  drawing_op r rule canvas first second target = cc

-- two drawings of one exclusive or
pub record Restores (o : Op) (p : Palette) (ps qs : List Part) (m n : List ℕ) (complete : Bool) : Type 0 where
  pub leaves : n ≡ left_by_both (way_in_parts o p ps) (way_in_parts o p qs) m
  pub ends : complete ≡ both_complete (way_in_parts o p ps) (way_in_parts o p qs) m
  pub restored : sent_in (map portion_of ps) ≡ sent_in (map portion_of qs) → SourceApart o → complete ≡ true → n ≡ m

module _ (o a b : Op) (p : Palette) (ps qs : List Part) (m n : List ℕ) (complete : Bool) where
  pub restores : IsExclusiveOr o → a ≡ o → b ≡ o → n ≡ left_by_both (way_in_parts a p ps) (way_in_parts b p qs) m
      → complete ≡ both_complete (way_in_parts a p ps) (way_in_parts b p qs) m
      → Undone (way_in_parts a p ps) (way_in_parts b p qs) m complete n → Restores o p ps qs m n complete
  restores x e f leaves ends undone =
      let same = rw (e, f) at undone in
      record {
        leaves = rw (e, f) at leaves;
        ends = rw (e, f) at ends;
        restored = λ bytes. same (record { operation_is = refl; palette_is = refl; bytes_are = bytes }) x;
      }

  -- drawn by both, as the operation itself is
  pub drawn_as : a ≡ o → b ≡ o → DrawnByBoth (way_in_parts a p ps) (way_in_parts b p qs) m n complete → DrawnByBoth (way_in_parts o p ps) (way_in_parts o p qs) m n complete
  drawn_as e f drawn = rw (e, f) at drawn
