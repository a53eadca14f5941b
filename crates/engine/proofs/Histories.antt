-- What an operation keeps, from its start on, of its history.
use Rattle.std.proofs.Common.{◌≡◌, ℕ, zero, suc, ◌+◌, ◌-◌, ◌*◌, ◌/◌, ◌%◌, ◌<◌, ◌≤◌, min, Bool, true, false, cond, ltb, leb, List, [], ◌∷◌, ◌++◌, length, ◌⊎◌, inl, inr, get_or, take, Some, None, Option, sym, refl, ap, ◌∙◌, subst, ⊎_elim, append_assoc, append-nil, length-append, arith}
use Rattle.std.proofs.lemmas.Bool.{and_parts, cases_lt, lt-ltb, le-ltb, cond-true, cond-false}
use Rattle.std.proofs.lemmas.Bool.Decides.{nat_tests}
use Rattle.std.proofs.lemmas.Nat.{mod_below, div-add-mod'}
use Rattle.std.proofs.lemmas.List.{get_or_append_left}
use Rattle.std.proofs.Math.Numerals.{one-add}
use Rattle.memory.specs.Bytes.{Sound}
use Rattle.colour.specs.declared.Colour.{Colour}
use Rattle.colour.specs.declared.Palette.{Palette}
use Rattle.window.specs.Geometry.{begins}
use Rattle.window.specs.Places.{area_of, pixels, place, reach}
use Rattle.window.specs.Values.{value_at}
use Rattle.window.proofs.Frames.{replaced_inside, sound_stored}
use Rattle.window.proofs.Places.{place_inside}
use Rattle.source.specs.Origins.{Origin, unused, host, host_bits, image, pattern, bits, sampled, awaited, served}
use Rattle.source.specs.Shapes.{AsWide}
use Rattle.source.specs.Meanings.{Gives, value_of, sent_at}
use Rattle.source.proofs.Meanings.{Proper, proper, gives}
use Rattle.source.specs.Pictures.{Away}
use Rattle.source.proofs.Pictures.{gives_its_own, unit_at}
use Rattle.colour.specs.Formats.{Format}
use Rattle.rules.specs.Yields.{Yields}
use Rattle.window.proofs.Limits.{limits_of}
use Rattle.engine.specs.declared.drawing.Drawing.{Drawing}
use Rattle.engine.specs.Inside.{sources_cover, ends_inside, lies_inside}
use Rattle.engine.proofs.Bytes.{covered, ends}
use Rattle.engine.specs.Painted.{Op, op_of, yielded, put_colour, plotted, painted}
use Rattle.engine.specs.Fed.{Stage, number, takes_at, due, whole, byte_come, fed, bytes_taken}
use Rattle.engine.specs.Totals.{bytes_used, at_start, UnderWay, TakesRest}
use Rattle.engine.specs.History.{Begins, Becomes, number_sent, colour_in, PixelDrawn, History, Reached}
use Rattle.engine.proofs.Wholes.{behind, number_is}
use Rattle.engine.proofs.Orders.{painted_kept}
use Rattle.engine.proofs.Pictures.{holds, others}
use Rattle.engine.proofs.Laws.{painted_length}
use Rattle.engine.proofs.Totals.{before, Steps, steps, Come, rest, come_after, none_for}
use Rattle.feeding.proofs.Feeding.{fed_ended, taken_ended}

-- values in lists that are joined
value_behind : (us ys : List ℕ) (n : ℕ) → value_at (us ++ ys) (length us) n ≡ value_at ys 0 n
value_behind [] ys n = refl
value_behind (u ∷ us) ys n = behind u (us ++ ys) (length us) n ∙ value_behind us ys n

value_before : (xs ys : List ℕ) (a n : ℕ) → a + n ≤ length xs → value_at (xs ++ ys) a n ≡ value_at xs a n
unfolding value_at
value_before xs ys a zero h = refl
value_before xs ys a (suc n) h =
    let here : get_or (xs ++ ys) a 0 ≡ get_or xs a 0 = get_or_append_left xs ys 0 a (omega arith) in
    let later = value_before xs ys (a + 1) n (omega arith) in
    omega arith

becomes : (o : Op) (k : ℕ) (y : Option Colour) (m : List ℕ) → place o.target o.format.width k + o.format.width ≤ length m
    → Becomes o (k % o.target.width) (k / o.target.width) y m (put_colour o.format.width o.narrow (place o.target o.format.width k) y m)
unfolding place
becomes o k None m h = refl
becomes o k (Some c) m h =
    replaced_inside (begins o.target o.format.width (k % o.target.width) (k / o.target.width)) o.format.width (o.narrow c) m h

-- where the bytes of pixel k begin
before_is : (f : Origin) (w k : ℕ) → AsWide f w → sent_at f w (k % w) (k / w) ≡ before f k
before_is unused w k e = refl
before_is (host b) w k e = ap (λ x. x * b) (div-add-mod' k w)
before_is (host_bits r) w k e =
    let P : ℕ → Type 0 = λ v. sent_at (host_bits r) v (k % v) (k / v) ≡ before (host_bits r) k in
    subst P e (omega arith)
before_is (image _ _) w k e = refl
before_is (pattern _ _ _) w k e = refl
before_is (bits _ _) w k e = refl

-- the pixels that are drawn together begin where the first of them does
together : (f : Origin) → Proper f → (k j n : ℕ) → j < min (served f k) n → before f (k + j) ≡ before f k
together unused p k j n h = refl
together (host b) p k j n h = let z : j ≡ 0 = omega arith in ap (λ x. (k + x) * b) z ∙ omega arith
together (host_bits r) p k j n h = ap (λ x. x * (r.unit / 8)) ((gives_its_own r p.0 p.1 k).own j (omega arith))
together (image _ _) p k j n h = refl
together (pattern _ _ _) p k j n h = refl
together (bits _ _) p k j n h = refl

-- where nothing is awaited, the number that the host sent is not asked for
unasked : (f : Origin) → Proper f → awaited f ≡ 0 → (u v : ℕ) (m : List ℕ) (c row : ℕ) → value_of f u m c row ≡ value_of f v m c row
unasked unused p e u v m c row = refl
unasked (host b) p e u v m c row = absurd (omega arith)
unasked (host_bits r) p e u v m c row = absurd (omega (arith, p.2))
unasked (image _ _) p e u v m c row = refl
unasked (pattern _ _ _) p e u v m c row = refl
unasked (bits _ _) p e u v m c row = refl

unsent : (f : Origin) → Proper f → awaited f ≡ 0 → (k : ℕ) → before f k ≡ 0
unsent unused p e k = refl
unsent (host b) p e k = absurd (omega arith)
unsent (host_bits r) p e k = absurd (omega (arith, p.2))
unsent (image _ _) p e k = refl
unsent (pattern _ _ _) p e k = refl
unsent (bits _ _) p e k = refl

none_before : (f : Origin) → Proper f → before f 0 ≡ 0
none_before unused p = refl
none_before (host b) p = omega arith
none_before (host_bits r) p =
    let first : Away r 0 0 (r.unit - 1 - r.start) = record { in_row = p.1; bits = omega arith; is = omega arith } in
    ap (λ n. n * (r.unit / 8)) (unit_at r p.0 p.1 0 0 0 (r.unit - 1 - r.start) 0 first (omega arith)) ∙ omega arith
none_before (image _ _) p = refl
none_before (pattern _ _ _) p = refl
none_before (bits _ _) p = refl

-- pixel k of a rectangle by its column and row
by_place : (f : Origin) (m : List ℕ) (n w k : ℕ) → Gives f m n → AsWide f w → 1 ≤ w → sampled f m n k ≡ value_of f n m (k % w) (k / w)
by_place f m n w k g wide across = ap (sampled f m n) (sym (div-add-mod' k w)) ∙ g w (k % w) (k / w) wide (mod_below k w across)

-- an operation that lies inside memory
pub record Lies (o : Op) : Type 0 where
  pub across : 1 ≤ o.target.width
  pub down : 1 ≤ o.target.height
  pub fits : o.target.left + o.target.width ≤ o.target.image
  pub first_wide : AsWide o.first o.target.width
  pub second_wide : AsWide o.second o.target.width
  pub in_memory : awaited o.second ≡ 0
  pub first_proper : Proper o.first
  pub second_proper : Proper o.second
  pub first_gives : (m : List ℕ) → Sound m → (n : ℕ) → Gives o.first m n
  pub second_gives : (m : List ℕ) → Sound m → (n : ℕ) → Gives o.second m n

module _ (o : Op) (p : Palette) (l : Lies o) where
  abbrev w : ℕ
  w = o.target.width

  -- pixel k yields what its place in the sources gives
  yields_by_place : (v k : ℕ) (sent m : List ℕ) → Sound m → (v ≡ number_sent o sent (k % w) (k / w)) ⊎ (awaited o.first ≡ 0)
      → yielded o p v k m ≡ colour_in o p sent m (k % w) (k / w)
  yields_by_place v k sent m s e =
      let n = number_sent o sent (k % w) (k / w) in
      let one : sampled o.first m v k ≡ value_of o.first n m (k % w) (k / w) =
      ⊎_elim
      (λ (f : v ≡ n). ap (λ x. sampled o.first m x k) f ∙ by_place o.first m n w k (l.first_gives m s n) l.first_wide l.across)
      (λ (z : awaited o.first ≡ 0). by_place o.first m v w k (l.first_gives m s v) l.first_wide l.across ∙ unasked o.first l.first_proper z v n m (k % w) (k / w))
      e in
      let two : sampled o.second m v k ≡ value_of o.second 0 m (k % w) (k / w) =
      by_place o.second m v w k (l.second_gives m s v) l.second_wide l.across ∙ unasked o.second l.second_proper l.in_memory v 0 m (k % w) (k / w) in
      ap (λ x. o.yields p x (sampled o.second m v k)) one ∙ ap (o.yields p (value_of o.first n m (k % w) (k / w))) two

  plotted_sound : (v k : ℕ) (m : List ℕ) → Sound m → Sound (plotted o p v k m)
  unfolding plotted
  plotted_sound v k m s = by (yielded o p v k m)
    where
      by : (y : Option Colour) → Sound (put_colour o.format.width o.narrow (place o.target o.format.width k) y m)
      by None = s
      by (Some c) = sound_stored m s (place o.target o.format.width k) o.format.width (o.narrow c)

  pub painted_sound : (v first n : ℕ) (m : List ℕ) → Sound m → Sound (painted (plotted o p v) first n m)
  painted_sound v first n m s = painted_kept Sound (plotted o p v) (plotted_sound v) first n m s

  -- more bytes may come
  pub more_sent : (start sent ys : List ℕ) (k : ℕ) (m : List ℕ) → History o p start sent k m → History o p start (sent ++ ys) k m
  more_sent start sent ys k m h = record {
    before = h.before;
    begins = h.begins;
    each = λ i j.
        let d = h.each i j in
        let c = i % w in
        let row = i / w in
        let same : number_sent o (sent ++ ys) c row ≡ number_sent o sent c row = value_before sent ys (sent_at o.first w c row) (awaited o.first) d.came in
        let colour : colour_in o p (sent ++ ys) (h.before i) c row ≡ colour_in o p sent (h.before i) c row =
        ap (λ n. o.yields p (value_of o.first n (h.before i) c row) (value_of o.second 0 (h.before i) c row)) same in
        record { came = omega (arith, d.came, length-append sent ys); becomes = rw colour d.becomes };
    ends = h.ends;
  }

  -- one pixel more
  module _ (start sent : List ℕ) (k : ℕ) (m n : List ℕ) (h : History o p start sent k m) (d : PixelDrawn o p sent (k % w) (k / w) m n) where
    memories : ℕ → List ℕ
    memories i = cond (leb i k) (h.before i) n

    early : (i : ℕ) → i ≤ k → memories i ≡ h.before i
    unfolding memories
    early i j = let e : leb i k ≡ true = grind (arith, nat_tests) in cond-true (leb i k) (h.before i) n e

    late : memories (k + 1) ≡ n
    unfolding memories
    late = let e : leb (k + 1) k ≡ false = grind (arith, nat_tests) in cond-false (leb (k + 1) k) (h.before (k + 1)) n e

    pub one_drawn : History o p start sent (k + 1) n
    one_drawn = record {
      before = memories;
      begins = early 0 (omega arith) ∙ h.begins;
      each = λ i j.
          ⊎_elim
          (λ (f : i < k). rw (early i (omega arith), early (i + 1) (omega arith)) (h.each i f))
          (λ (f : k ≤ i).
          let e : k ≡ i = omega arith in
          let P : ℕ → Type 0 = λ x. PixelDrawn o p sent (x % w) (x / w) (memories x) (memories (x + 1)) in
          subst P e (rw (early k (omega arith), h.ends, late) d))
          (cases_lt i k);
      ends = late;
    }

  module _ (start sent : List ℕ) (v : ℕ) where
    -- pixels that are drawn from the first on, each when its bytes have come
    pub more_drawn : (first n : ℕ) (m : List ℕ) → Sound m → reach o.target o.format.width ≤ length m → first + n ≤ pixels o.target
        → ((j : ℕ) → j < n → (v ≡ number_sent o sent ((first + j) % w) ((first + j) / w)) ⊎ (awaited o.first ≡ 0))
        → ((j : ℕ) → j < n → sent_at o.first w ((first + j) % w) ((first + j) / w) + awaited o.first ≤ length sent)
        → History o p start sent first m → History o p start sent (first + n) (painted (plotted o p v) first n m)
    unfolding painted plotted
    more_drawn first zero m s inside few is came h = subst (λ k. History o p start sent k m) (omega arith) h
    more_drawn first (suc n) m s inside few is came h =
        let k = first + n in
        let now = painted (plotted o p v) first n m in
        let so_far = more_drawn first n m s inside (omega arith) (λ j i. is j (omega arith)) (λ j i. came j (omega arith)) h in
        let fits : place o.target o.format.width k + o.format.width ≤ length now =
        omega (arith, place_inside o.target l.across o.format.width k l.down (omega arith), painted_length o p v first n m) in
        let e = yields_by_place v k sent now (painted_sound v first n m s) (is n (omega arith)) in
        let d : PixelDrawn o p sent (k % w) (k / w) now (plotted o p v k now) =
        record { came = came n (omega arith); becomes = rw (← e) (becomes o k (yielded o p v k now) now fits) } in
        subst (λ x. History o p start sent x (plotted o p v k now)) (omega arith) (one_drawn start sent k now (plotted o p v k now) so_far d)

-- the bytes of a host operation
module _ (o : Op) (p : Palette) (l : Lies o) (start : List ℕ) where
  abbrev w' : ℕ
  w' = o.target.width

  used_is : (k : ℕ) → bytes_used o k ≡ before o.first k
  used_is k = before_is o.first w' k l.first_wide

  -- how many bytes of an operation under way have come
  pub come_of : (s : Stage) → 0 < awaited o.first → Steps o.first o.target → UnderWay o s.drawn s.waiting → Come o s (bytes_used o s.drawn + length s.waiting)
  come_of s some t u =
      let few = u.few in
      record {
        is = ap (λ n. n + length s.waiting) (used_is s.drawn);
        few = omega arith;
        inside = u.own;
        ended = u.none;
      }

  module _ (sent : List ℕ) (s : Stage) (x : ℕ) (some : 0 < awaited o.first) (t : Steps o.first o.target) (sound : Sound s.memory)
      (inside : reach o.target o.format.width ≤ length s.memory) (left : s.drawn < pixels o.target) (r : Reached o p start sent s) where
    abbrev ws : List ℕ
    ws = s.waiting ++ x ∷ []

    abbrev all : List ℕ
    all = sent ++ x ∷ []

    abbrev next : ℕ
    next = s.drawn + due o s.drawn

    at : length r.used ≡ before o.first s.drawn
    at = r.count ∙ used_is s.drawn

    joined : all ≡ r.used ++ ws
    joined = ap (λ y. y ++ x ∷ []) r.joined ∙ append_assoc r.used s.waiting (x ∷ [])

    long : length all ≡ before o.first s.drawn + length ws
    long = ap length joined ∙ length-append r.used ws ∙ ap (λ n. n + length ws) at

    history : History o p start all s.drawn s.memory
    history = more_sent o p l start sent (x ∷ []) s.drawn s.memory r.history

    -- a byte that does not make a whole
    pub part_come : length ws < awaited o.first → Reached o p start all (record s { waiting = ws })
    part_come h = record {
      history = history;
      holds = holds o l.across l.fits p start all s.drawn s.memory history;
      others = r.others;
      under_way = record { own = r.under_way.own; few = omega arith; none = λ e. absurd (omega arith) };
      used = r.used;
      joined = joined;
      count = r.count;
    }

    -- the last byte of a whole
    module _ (full : length ws ≡ awaited o.first) where
      -- the bytes of its pixels
      its : (j : ℕ) → j < due o s.drawn → sent_at o.first w' ((s.drawn + j) % w') ((s.drawn + j) / w') ≡ length r.used
      its j h = before_is o.first w' (s.drawn + j) l.first_wide ∙ together o.first l.first_proper s.drawn j (pixels o.target - s.drawn) h ∙ sym at

      numbered : (j : ℕ) → j < due o s.drawn → number ws ≡ number_sent o all ((s.drawn + j) % w') ((s.drawn + j) / w')
      numbered j h =
          number_is ws
          ∙ sym (value_behind r.used ws (length ws))
          ∙ ap (λ y. value_at y (length r.used) (length ws)) (sym joined)
          ∙ ap (λ n. value_at all n (length ws)) (sym (its j h))
          ∙ ap (value_at all (sent_at o.first w' ((s.drawn + j) % w') ((s.drawn + j) / w'))) full

      pub whole_come : Reached o p start all (whole o p s (number ws))
      whole_come =
          let m = (whole o p s (number ws)).memory in
          let more : History o p start all next m =
          more_drawn o p l start all (number ws) s.drawn (due o s.drawn) s.memory sound inside (omega arith)
          (λ j h. inl (numbered j h)) (λ j h. omega (arith, its j h, at, long)) history in
          record {
            history = more;
            holds = holds o l.across l.fits p start all next m more;
            others = others o l.across l.fits p start all next m more;
            under_way = record { own = omega arith; few = omega arith; none = λ e. refl };
            used = r.used ++ ws;
            joined = joined ∙ sym (append-nil (r.used ++ ws));
            count = length-append r.used ws ∙ omega (arith, at, full, t.next s.drawn left, used_is next);
          }

    pub byte_on : Reached o p start all (byte_come o p s x)
    byte_on =
        ⊎_elim
        (λ (h : length ws < awaited o.first). rw (lt-ltb _ _ h) (part_come h))
        (λ (h : awaited o.first ≤ length ws). let few = r.under_way.few in rw (le-ltb _ _ h) (whole_come (omega (arith, length-append s.waiting (x ∷ [])))))
        (cases_lt (length ws) (awaited o.first))

  byte_sound : (s : Stage) (x : ℕ) → Sound s.memory → Sound (byte_come o p s x).memory
  byte_sound s x sound =
      let bs = s.waiting ++ x ∷ [] in
      let P : Bool → Type 0 = λ b. Sound (cond b (record { memory = s.memory; drawn = s.drawn; waiting = bs }) (whole o p s (number bs))).memory in
      elim (ltb (length bs) (awaited o.first)) as P [ true ↦ sound | false ↦ painted_sound o p l (number bs) s.drawn (due o s.drawn) s.memory sound ]

  byte_size : (s : Stage) (x : ℕ) → length (byte_come o p s x).memory ≡ length s.memory
  byte_size s x =
      let bs = s.waiting ++ x ∷ [] in
      let P : Bool → Type 0 = λ b. length (cond b (record { memory = s.memory; drawn = s.drawn; waiting = bs }) (whole o p s (number bs))).memory ≡ length s.memory in
      elim (ltb (length bs) (awaited o.first)) as P [ true ↦ refl | false ↦ painted_length o p (number bs) s.drawn (due o s.drawn) s.memory ]

  module _ (some : 0 < awaited o.first) (t : Steps o.first o.target) where
    bytes_on : (xs sent : List ℕ) (s : Stage) → Sound s.memory → reach o.target o.format.width ≤ length s.memory → Reached o p start sent s
        → Reached o p start (sent ++ take (bytes_taken o p s xs) xs) (fed o p s xs)
    bytes_on [] sent s sound inside r = rw (append-nil sent) r
    bytes_on (x ∷ xs) sent s sound inside r =
        ⊎_elim
        (λ (h : s.drawn < pixels o.target).
        let e : takes_at o s ≡ true = grind (arith, nat_tests) in
        let u = byte_come o p s x in
        let n = bytes_taken o p u xs in
        let count : bytes_taken o p s (x ∷ xs) ≡ suc n = rw (e, one-add n) in
        let after : fed o p s (x ∷ xs) ≡ fed o p u xs = rw e refl in
        let more = bytes_on xs (sent ++ x ∷ []) u (byte_sound s x sound) (omega (arith, byte_size s x)) (byte_on sent s x some t sound inside h r) in
        rw (count, after) (subst (λ ys. Reached o p start ys (fed o p u xs)) (append_assoc sent (x ∷ []) (take n xs)) more))
        (λ (h : pixels o.target ≤ s.drawn).
        let e : takes_at o s ≡ false = grind (arith, nat_tests) in
        let none = taken_ended (takes_at o) (byte_come o p) s (x ∷ xs) e in
        let after = fed_ended (takes_at o) (byte_come o p) s (x ∷ xs) e in
        rw (none, after, append-nil sent) r)
        (cases_lt s.drawn (pixels o.target))

    -- what was taken, and what is left
    rest_taken : (xs : List ℕ) (s : Stage) → UnderWay o s.drawn s.waiting → TakesRest o s xs (fed o p s xs) (bytes_taken o p s xs)
    rest_taken xs s u =
        let v = fed o p s xs in
        let n = bytes_used o s.drawn + length s.waiting in
        let c = come_of s some t u in
        let f = rest o p some t xs s n c in
        let after = come_after o p some t xs s n c in
        let is = after.is in
        let now : bytes_used o v.drawn + length v.waiting ≡ n + bytes_taken o p s xs = omega (arith, is, used_is v.drawn) in
        record {
          taken_is = f.taken;
          left_is = omega (arith, now);
          under_way = record { own = after.inside; few = let few = after.few in omega arith; none = after.ended };
          complete = λ h e. f.complete (omega (arith, e, now, f.taken));
          not_before = λ h e. f.not_before (omega (arith, e, now, f.taken));
        }

  pub goes_on : (xs sent : List ℕ) (s : Stage) → Sound s.memory → reach o.target o.format.width ≤ length s.memory → Reached o p start sent s
      → Reached o p start (sent ++ take (bytes_taken o p s xs) xs) (fed o p s xs)
  goes_on xs sent s sound inside r =
      ⊎_elim
      (λ (h : 0 < awaited o.first). bytes_on h (steps o.first o.target h l.first_proper l.first_wide) xs sent s sound inside r)
      (λ (h : awaited o.first ≤ 0).
      let e : takes_at o s ≡ false = grind (arith, nat_tests) in
      rw (taken_ended (takes_at o) (byte_come o p) s xs e, fed_ended (takes_at o) (byte_come o p) s xs e, append-nil sent) r)
      (cases_lt 0 (awaited o.first))

  pub takes_rest : (xs : List ℕ) (s : Stage) → UnderWay o s.drawn s.waiting → TakesRest o s xs (fed o p s xs) (bytes_taken o p s xs)
  takes_rest xs s u =
      ⊎_elim
      (λ (h : 0 < awaited o.first). rest_taken h (steps o.first o.target h l.first_proper l.first_wide) xs s u)
      (λ (h : awaited o.first ≤ 0).
      let z : awaited o.first ≡ 0 = omega arith in
      let e : takes_at o s ≡ false = grind (arith, nat_tests) in
      let none = none_for o.first o.target z in
      rw (taken_ended (takes_at o) (byte_come o p) s xs e, fed_ended (takes_at o) (byte_come o p) s xs e)
      (record { taken_is = omega (arith, none); left_is = omega arith; under_way = u; complete = λ i j. absurd (omega arith); not_before = λ i j. absurd (omega arith) }))
      (cases_lt 0 (awaited o.first))

  -- pixels of an operation that memory serves
  pub runs_on : awaited o.first ≡ 0 → (sent waiting : List ℕ) (v first n : ℕ) (m : List ℕ) → Sound m → reach o.target o.format.width ≤ length m
      → n ≤ pixels o.target - first → Reached o p start sent (record { memory = m; drawn = first; waiting = waiting })
      → Reached o p start sent (record { memory = painted (plotted o p v) first n m; drawn = first + n; waiting = waiting })
  runs_on z sent waiting v first n m sound inside few r =
      let own = r.under_way.own in
      let waits = r.under_way.few in
      let unused = λ (k : ℕ). used_is k ∙ unsent o.first l.first_proper z k in
      let now = painted (plotted o p v) first n m in
      let more : History o p start sent (first + n) now =
      more_drawn o p l start sent v first n m sound inside (omega arith) (λ j h. inr z)
      (λ j h. omega (arith, z, unused (first + j))) r.history in
      record {
        history = more;
        holds = holds o l.across l.fits p start sent (first + n) now more;
        others = others o l.across l.fits p start sent (first + n) now more;
        under_way = record { own = omega arith; few = waits; none = λ e. omega arith };
        used = r.used;
        joined = r.joined;
        count = r.count ∙ unused first ∙ sym (unused (first + n));
      }

-- a drawing that lies inside memory
module _ {R D : Type 0} (yields : R → Yields) (format : D → Format) (narrow : D → Colour → ℕ) (d : Drawing R D) (size : ℕ)
    (e : lies_inside (op_of yields format narrow d) size ≡ true) where
  pub drawing_lies : Lies (op_of yields format narrow d)
  drawing_lies =
      let o = op_of yields format narrow d in
      let m = limits_of d.target in
      let c = covered o (proper d.first) (proper d.second) m.width_some m.height_some (and_parts (sources_cover o) (ends_inside o size) e).0 in
      record {
        across = m.width_some;
        down = m.height_some;
        fits = m.inside;
        first_wide = c.first.wide;
        second_wide = c.second.wide;
        in_memory = c.in_memory;
        first_proper = proper d.first;
        second_proper = proper d.second;
        first_gives = gives d.first;
        second_gives = gives d.second;
      }

  pub drawing_reach : reach (area_of d.target) (format d.canvas).width ≤ size
  drawing_reach = (ends (op_of yields format narrow d) size e).target

  -- at its start no pixel is drawn, and no byte has come
  pub begun : (p : Palette) (m : List ℕ) → Reached (op_of yields format narrow d) p m [] (at_start m)
  begun p m =
      let o = op_of yields format narrow d in
      let l = drawing_lies in
      record {
        history = record { before = λ k. m; begins = refl; each = λ k h. absurd (omega arith); ends = refl };
        holds = λ k h. absurd (omega arith);
        others = λ x off. refl;
        under_way = record { own = omega arith; few = omega arith; none = λ e. refl };
        used = [];
        joined = refl;
        count = sym (before_is o.first o.target.width 0 l.first_wide ∙ none_before o.first l.first_proper);
      }

pub drawing_begins : {R D : Type 0} (yields : R → Yields) (format : D → Format) (narrow : D → Colour → ℕ) (d : Drawing R D) (size : ℕ)
    → Begins (op_of yields format narrow d) (lies_inside (op_of yields format narrow d) size)
drawing_begins yields format narrow d size e = begun yields format narrow d size e
