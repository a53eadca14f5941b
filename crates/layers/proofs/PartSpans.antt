-- Spans of a part are spans of the memory below, from the start on.
use Rattle.std.proofs.Common.{◌≡◌, ℕ, zero, suc, ◌+◌, ◌-◌, ◌*◌, ◌/◌, ◌<◌, ◌≤◌, ◌⊎◌, inl, inr, ⊎_elim, List, [], ◌∷◌, ◌++◌, length, get_or, set, take, drop, replicate, min, refl, sym, ap, ◌∙◌, length-append, length-take, arith}
use Rattle.std.proofs.lemmas.List.{get_or_append_left, get_or-append_right, get_or-replicate, get_or_past, length-replicate, length-set, get_or-set_other, set_past, take-append-drop, take_all}
use Rattle.std.proofs.lemmas.Bool.{cases_lt}
use Rattle.std.proofs.Math.Nat.{le_trans, mul-le-mul_right, div-mul-le_self}
use Rattle.memory.specs.Spans.{span, overlaid, times, merged}
use Rattle.memory.proofs.Repeats.{fill_part}
use Rattle.memory.proofs.Spans.{is_span, span_at, length_span, length_overlaid, overlaid_past, overlaid_front, overlaid_in, overlaid_out, is_overlaid, length_times, length_merged, merged_append, merged_more, merged_out}
use Rattle.layers.specs.Part.{part, part_length, part_at, part_set, put_under}
use Rattle.layers.proofs.Parts.{under_in, under_past}

-- what is changed only where the part lies is the part put back
pub part_back : (m m' : List ℕ) (start most : ℕ) → length m' ≡ length m
    → ((k : ℕ) → (k < start) ⊎ (start + length (part m start most) ≤ k) → get_or m' k 0 ≡ get_or m k 0)
    → m' ≡ overlaid m start (part m' start most)
part_back m m' start most long outside =
    let as_long : length (part m' start most) ≡ length (part m start most) = omega (arith, long, part_length m start most, part_length m' start most) in
    is_overlaid m m' start (part m' start most) long
    (λ k h within. sym (part_at m' start most k (omega (arith, part_length m' start most))))
    (λ k h. outside k (⊎_elim (λ below. inl below) (λ past. inr (omega arith)) h))

-- nothing changed
pub none_under : (m : List ℕ) (start most : ℕ) → m ≡ overlaid m start (part m start most)
none_under m start most = part_back m m start most refl (λ k h. refl)

-- bytes of a list put, of which those past the end are left out
pub overlaid_clip : (m : List ℕ) (a : ℕ) (xs : List ℕ) → overlaid m (min a (length m)) (take (min (length xs) (length m - a)) xs) ≡ overlaid m a xs
overlaid_clip m a xs =
    let n = min (length xs) (length m - a) in
    ⊎_elim
    (λ within.
    let here : min a (length m) ≡ a = omega arith in
    ap (λ i. overlaid m i (take n xs)) here
    ∙ ⊎_elim
    (λ less. sym (overlaid_front m a (take n xs) (drop n xs) (omega (arith, length-take n xs))) ∙ ap (overlaid m a) (take-append-drop n xs))
    (λ all. ap (overlaid m a) (take_all n xs (omega arith)))
    (cases_lt (length m - a) (length xs)))
    (λ past. overlaid_past m (min a (length m)) (take n xs) (omega arith) ∙ sym (overlaid_past m a xs (omega arith)))
    (cases_lt a (length m))

module _ (m : List ℕ) (start most : ℕ) where
  -- the bytes that a part has, and 0 for each past its end
  pub part_span : (held past : List ℕ) (a n size : ℕ) → n ≡ min size (length (part m start most) - a)
      → held ≡ span m (start + min a (length (part m start most))) n → past ≡ replicate (size - n) 0
      → held ++ past ≡ span (part m start most) a size
  part_span held past a n size inside front back =
      let long = part_length m start most in
      let front_length : length held ≡ n = ap length front ∙ length_span m (start + min a (length (part m start most))) n in
      let back_length : length past ≡ size - n = ap length back ∙ length-replicate {A = ℕ} (size - n) 0 in
      is_span (part m start most) a size (held ++ past) (omega (arith, length-append held past))
      (λ k h. ⊎_elim
      (λ within.
      let here : start + min a (length (part m start most)) + k ≡ start + (a + k) = omega arith in
      get_or_append_left held past 0 k (omega arith)
      ∙ ap (λ l. get_or l k 0) front
      ∙ span_at m (start + min a (length (part m start most))) n k within
      ∙ ap (λ i. get_or m i 0) here
      ∙ sym (part_at m start most (a + k) (omega arith)))
      (λ beyond.
      get_or-append_right held past n k 0 front_length beyond
      ∙ ap (λ l. get_or l (k - n) 0) back
      ∙ get_or-replicate {A = ℕ} (size - n) (k - n) 0 0 (omega arith)
      ∙ sym (get_or_past (part m start most) (a + k) 0 (omega arith)))
      (cases_lt k n))

-- bytes put within a part
pub part_overlaid : (m : List ℕ) (start most a : ℕ) (xs : List ℕ) → a + length xs ≤ most
    → part (overlaid m (start + a) xs) start most ≡ overlaid (part m start most) a xs
unfolding overlaid
part_overlaid m start most a [] h = refl
part_overlaid m start most a (x ∷ xs) h =
    let next : start + a + 1 ≡ start + (a + 1) = omega arith in
    ap (λ i. part (overlaid (set m (start + a) x) i xs) start most) next
    ∙ part_overlaid (set m (start + a) x) start most (a + 1) xs (omega arith)
    ∙ ap (λ p. overlaid p (a + 1) xs) (part_set m start most a x (omega arith))

-- what a store to a part leaves of it, and of the memory below
module _ (m : List ℕ) (start most a : ℕ) (xs : List ℕ) (place n : ℕ) (there : place ≡ start + min a (length (part m start most))) (inside : n ≡ min (length xs) (length (part m start most) - a)) where
  pub stored_part : part (overlaid m place (take n xs)) start most ≡ overlaid (part m start most) a xs
  stored_part =
      let p = part m start most in
      rw (there, inside)
      (part_overlaid m start most (min a (length p)) (take (min (length xs) (length p - a)) xs) (omega (arith, length-take (min (length xs) (length p - a)) xs, part_length m start most))
      ∙ overlaid_clip p a xs)

  pub stored_under : overlaid m place (take n xs) ≡ overlaid m start (overlaid (part m start most) a xs)
  stored_under =
      part_back m (overlaid m place (take n xs)) start most (length_overlaid m place (take n xs))
      (λ k h. overlaid_out m place (take n xs) k (⊎_elim (λ below. inl (omega arith)) (λ past. inr (omega (arith, length-take n xs))) h))
      ∙ ap (overlaid m start) stored_part

-- bytes that a part has room for
module _ (m : List ℕ) (start most a : ℕ) (xs : List ℕ) (place : ℕ) (there : place ≡ start + min a (length (part m start most))) (room : length xs ≤ length (part m start most) - a) where
  pub whole_part : part (overlaid m place xs) start most ≡ overlaid (part m start most) a xs
  whole_part =
      ap (λ l. part (overlaid m place l) start most) (sym (take_all (length xs) xs (omega arith)))
      ∙ stored_part m start most a xs place (length xs) there (omega arith)

  pub whole_under : overlaid m place xs ≡ overlaid m start (overlaid (part m start most) a xs)
  whole_under =
      ap (overlaid m place) (sym (take_all (length xs) xs (omega arith)))
      ∙ stored_under m start most a xs place (length xs) there (omega arith)

-- as many pixels as a part has room for, n of count
module _ (m : List ℕ) (start most a : ℕ) (xs : List ℕ) (count place room n : ℕ) (there : place ≡ start + min a (length (part m start most)))
    (left : room ≡ length (part m start most) - a) (whole : n ≡ min count (room / length xs)) where
  pub pixels_fit : n * length xs ≤ room
  pixels_fit = le_trans (mul-le-mul_right (length xs) (omega arith)) (div-mul-le_self room (length xs))

  fits : length (times xs n) ≤ length (part m start most) - a
  fits = omega (arith, length_times xs n, pixels_fit)

  pub filled_part : part (overlaid m place (times xs n)) start most ≡ overlaid (part m start most) a (times xs n)
  filled_part = whole_part m start most a (times xs n) place there fits

  pub filled_under : overlaid m place (times xs n) ≡ overlaid m start (overlaid (part m start most) a (times xs n))
  filled_under = whole_under m start most a (times xs n) place there fits

  -- and the one that lies partly past its end
  pub filled_all : 0 < length xs → n < count → overlaid (overlaid (part m start most) a (times xs n)) (a + n * length xs) xs ≡ overlaid (part m start most) a (times xs count)
  filled_all some less = fill_part (part m start most) a xs n count (whole ∙ ap (λ r. min count (r / length xs)) left) some less

-- a list of bytes put twice from one place on
pub overlaid_again : (m : List ℕ) (a : ℕ) (xs ys : List ℕ) → length xs ≡ length ys → overlaid (overlaid m a xs) a ys ≡ overlaid m a ys
overlaid_again m a xs ys long =
    is_overlaid m (overlaid (overlaid m a xs) a ys) a ys (length_overlaid (overlaid m a xs) a ys ∙ length_overlaid m a xs)
    (λ k h within. overlaid_in (overlaid m a xs) a ys k h (omega (arith, length_overlaid m a xs)))
    (λ k h. overlaid_out (overlaid m a xs) a ys k h ∙ overlaid_out m a xs k (⊎_elim (λ below. inl below) (λ past. inr (omega arith)) h))

-- what two changes of a part leave of the memory below, of which the second is f
pub twice_under : (m m' : List ℕ) (start most : ℕ) (p : List ℕ) (f : List ℕ → List ℕ) → ((l : List ℕ) → length (f l) ≡ length l) → part m' start most ≡ p → m' ≡ overlaid m start p
    → overlaid m' start (f (part m' start most)) ≡ overlaid m start (f p)
twice_under m m' start most p f same shown under =
    ap (λ l. overlaid m' start (f l)) shown
    ∙ ap (λ l. overlaid l start (f p)) under
    ∙ overlaid_again m start p (f p) (sym (same p))

-- a put
pub put_back : (m : List ℕ) (start most a v : ℕ) → put_under m start most a v ≡ overlaid m start (set (part m start most) a v)
put_back m start most a v =
    ⊎_elim
    (λ within.
    sym (under_in m start most a v within)
    ∙ part_back m (set m (start + a) v) start most (length-set m (start + a) v)
    (λ k h. get_or-set_other m (start + a) k v 0 (λ q. ⊎_elim (λ below. omega arith) (λ past. omega arith) h))
    ∙ ap (overlaid m start) (part_set m start most a v (omega (arith, part_length m start most))))
    (λ past.
    sym (under_past m start most a v past)
    ∙ none_under m start most
    ∙ ap (overlaid m start) (sym (set_past (part m start most) a v past)))
    (cases_lt a (length (part m start most)))

pub put_part : (m : List ℕ) (start most a v : ℕ) → part (put_under m start most a v) start most ≡ set (part m start most) a v
put_part m start most a v =
    ⊎_elim
    (λ within. ap (λ l. part l start most) (sym (under_in m start most a v within)) ∙ part_set m start most a v (omega (arith, part_length m start most)))
    (λ past. ap (λ l. part l start most) (sym (under_past m start most a v past)) ∙ sym (set_past (part m start most) a v past))
    (cases_lt a (length (part m start most)))

-- one byte more merged, by a put
module _ (f : ℕ → ℕ → ℕ) (m l l' : List ℕ) (start most a b c i v : ℕ)
    (shown : part l start most ≡ merged f (part m start most) a b c i)
    (under : l ≡ overlaid m start (merged f (part m start most) a b c i))
    (made : v ≡ f (get_or (part l start most) (a + i) 0) (get_or (part l start most) (b + i) 0))
    (put : l' ≡ put_under l start most (c + i) v) where
  step : set (merged f (part m start most) a b c i) (c + i) v ≡ merged f (part m start most) a b c (i + 1)
  step =
      ap (set (merged f (part m start most) a b c i) (c + i)) (made ∙ ap (λ p. f (get_or p (a + i) 0) (get_or p (b + i) 0)) shown)
      ∙ merged_more f (part m start most) a b c i

  pub one_more_part : part l' start most ≡ merged f (part m start most) a b c (i + 1)
  one_more_part = ap (λ x. part x start most) put ∙ put_part l start most (c + i) v ∙ ap (λ p. set p (c + i) v) shown ∙ step

  pub one_more_under : l' ≡ overlaid m start (merged f (part m start most) a b c (i + 1))
  one_more_under =
      put ∙ put_back l start most (c + i) v
      ∙ twice_under m l start most (merged f (part m start most) a b c i) (λ p. set p (c + i) v) (λ p. length-set p (c + i) v) shown under
      ∙ ap (overlaid m start) step

-- bytes merged within a part
pub part_merged : (f : ℕ → ℕ → ℕ) (m : List ℕ) (start most a b c n : ℕ) → a + n ≤ most → b + n ≤ most → c + n ≤ most
    → part (merged f m (start + a) (start + b) (start + c) n) start most ≡ merged f (part m start most) a b c n
unfolding merged
part_merged f m start most a b c zero p q r = refl
part_merged f m start most a b c (suc n) p q r =
    let l = merged f m (start + a) (start + b) (start + c) n in
    let on : (s : ℕ) → start + s + n ≡ start + (s + n) = λ s. omega arith in
    rw (on a, on b, on c)
    (part_set l start most (c + n) (f (get_or l (start + (a + n)) 0) (get_or l (start + (b + n)) 0)) (omega arith)
    ∙ ap (λ x. set (part l start most) (c + n) (f x (get_or l (start + (b + n)) 0))) (sym (part_at l start most (a + n) (omega arith)))
    ∙ ap (λ x. set (part l start most) (c + n) (f (get_or (part l start most) (a + n) 0) x)) (sym (part_at l start most (b + n) (omega arith)))
    ∙ ap (λ t. set t (c + n) (f (get_or t (a + n) 0) (get_or t (b + n) 0))) (part_merged f m start most a b c n (omega arith) (omega arith) (omega arith)))

-- and where they lie below
module _ (f : ℕ → ℕ → ℕ) (m : List ℕ) (start most a b c first second to : ℕ)
    (at_first : first ≡ start + min a (length (part m start most)))
    (at_second : second ≡ start + min b (length (part m start most)))
    (at_to : to ≡ start + min c (length (part m start most))) where
  pub merged_part : (n : ℕ) → n ≤ length (part m start most) - a → n ≤ length (part m start most) - b → n ≤ length (part m start most) - c
      → part (merged f m first second to n) start most ≡ merged f (part m start most) a b c n
  unfolding merged
  merged_part zero p q r = refl
  merged_part (suc n) p q r =
      let e : first ≡ start + a = omega arith in
      let e' : second ≡ start + b = omega arith in
      let e'' : to ≡ start + c = omega arith in
      let long = part_length m start most in
      ap (λ x. part (merged f m x second to (suc n)) start most) e
      ∙ ap (λ x. part (merged f m (start + a) x to (suc n)) start most) e'
      ∙ ap (λ x. part (merged f m (start + a) (start + b) x (suc n)) start most) e''
      ∙ part_merged f m start most a b c (suc n) (omega arith) (omega arith) (omega arith)

  pub merged_under : (n : ℕ) → n ≤ length (part m start most) - a → n ≤ length (part m start most) - b → n ≤ length (part m start most) - c
      → merged f m first second to n ≡ overlaid m start (merged f (part m start most) a b c n)
  merged_under n p q r =
      part_back m (merged f m first second to n) start most (length_merged f m first second to n)
      (λ k h. merged_out f m first second to n k (⊎_elim (λ below. inl (omega arith)) (λ past. inr (omega arith)) h))
      ∙ ap (overlaid m start) (merged_part n p q r)

-- n of count bytes merged at once, and then those after them
module _ (f : ℕ → ℕ → ℕ) (m : List ℕ) (start most a b c first second to count n : ℕ)
    (at_first : first ≡ start + min a (length (part m start most)))
    (at_second : second ≡ start + min b (length (part m start most)))
    (at_to : to ≡ start + min c (length (part m start most)))
    (some : n ≤ count) (room_first : n ≤ length (part m start most) - a) (room_second : n ≤ length (part m start most) - b) (room_to : n ≤ length (part m start most) - c) where
  once : part (merged f m first second to n) start most ≡ merged f (part m start most) a b c n
  once = merged_part f m start most a b c first second to at_first at_second at_to n room_first room_second room_to

  both : merged f (merged f (part m start most) a b c n) (a + n) (b + n) (c + n) (count - n) ≡ merged f (part m start most) a b c count
  both = let all : n + (count - n) ≡ count = omega arith in merged_append f (part m start most) a b c n (count - n) ∙ ap (merged f (part m start most) a b c) all

  pub both_part : merged f (part (merged f m first second to n) start most) (a + n) (b + n) (c + n) (count - n) ≡ merged f (part m start most) a b c count
  both_part = ap (λ p. merged f p (a + n) (b + n) (c + n) (count - n)) once ∙ both

  pub both_under : overlaid (merged f m first second to n) start (merged f (part (merged f m first second to n) start most) (a + n) (b + n) (c + n) (count - n))
      ≡ overlaid m start (merged f (part m start most) a b c count)
  both_under =
      twice_under m (merged f m first second to n) start most (merged f (part m start most) a b c n)
      (λ p. merged f p (a + n) (b + n) (c + n) (count - n)) (λ p. length_merged f p (a + n) (b + n) (c + n) (count - n))
      once (merged_under f m start most a b c first second to at_first at_second at_to n room_first room_second room_to)
      ∙ ap (overlaid m start) both
