-- What a copy of a list into part of another leaves at each place.
use Rattle.std.proofs.Common.{◌≡◌, ℕ, ◌+◌, ◌-◌, ◌<◌, ◌≤◌, ⊎_elim, min, List, ◌++◌, length, get_or, take, drop, sym, ap, ◌∙◌, length-append, length-take, length-drop, arith}
use Rattle.std.proofs.Math.Seq.{paste}
use Rattle.std.proofs.lemmas.List.{get_or_append_left, get_or-append_right, get_or-take, get_or-drop, length-take-le}
use Rattle.std.proofs.lemmas.List.Edits.{length-paste}
use Rattle.std.proofs.lemmas.Bool.{cases_lt}
use Rattle.memory.specs.Spans.{overlaid, copied, ReadFirst}
use Rattle.memory.proofs.Spans.{is_overlaid, is_merged}

module _ (m : List ℕ) (s : ℕ) (xs : List ℕ) (n : ℕ) (room : s + n ≤ length m) (all : n ≤ length xs) where
  front_length : length (take s m ++ take n xs) ≡ s + n
  front_length = omega (arith, length-append (take s m) (take n xs), length-take s m, length-take n xs)

  pub paste_in : (k : ℕ) → k < n → get_or (paste m s xs n) (s + k) 0 ≡ get_or xs k 0
  paste_in k h =
      let one : s + k - s ≡ k = omega arith in
      get_or_append_left (take s m ++ take n xs) (drop (s + n) m) 0 (s + k) (omega (arith, front_length))
      ∙ get_or-append_right (take s m) (take n xs) s (s + k) 0 (length-take-le s m (omega arith)) (omega arith)
      ∙ ap (λ i. get_or (take n xs) i 0) one
      ∙ get_or-take n xs k 0 h

  pub paste_below : (k : ℕ) → k < s → get_or (paste m s xs n) k 0 ≡ get_or m k 0
  paste_below k h =
      get_or_append_left (take s m ++ take n xs) (drop (s + n) m) 0 k (omega (arith, front_length))
      ∙ get_or_append_left (take s m) (take n xs) 0 k (omega (arith, length-take s m))
      ∙ get_or-take s m k 0 h

  pub paste_above : (k : ℕ) → s + n ≤ k → get_or (paste m s xs n) k 0 ≡ get_or m k 0
  paste_above k h =
      let on : s + n + (k - (s + n)) ≡ k = omega arith in
      get_or-append_right (take s m ++ take n xs) (drop (s + n) m) (s + n) k 0 front_length h
      ∙ get_or-drop (s + n) m (k - (s + n)) 0
      ∙ ap (λ i. get_or m i 0) on

-- as many bytes as there is room for
pub paste_overlaid : (m xs : List ℕ) (a s n : ℕ) → s ≡ min a (length m) → n ≡ min (length xs) (length m - s) → paste m s (take n xs) n ≡ overlaid m a xs
paste_overlaid m xs a s n start inside =
    let long = length-take n xs in
    let room : s + n ≤ length m = omega arith in
    let all : n ≤ length (take n xs) = omega arith in
    is_overlaid m (paste m s (take n xs) n) a xs (length-paste m s (take n xs) n room all)
    (λ k h within.
    let here : s ≡ a = omega arith in
    ap (λ i. get_or (paste m s (take n xs) n) (i + k) 0) (sym here) ∙ paste_in m s (take n xs) n room all k (omega arith) ∙ get_or-take n xs k 0 (omega arith))
    (λ k h. ⊎_elim
    (λ below. paste_below m s (take n xs) n room all k below)
    (λ from. paste_above m s (take n xs) n room all k (⊎_elim (λ below. omega arith) (λ past. omega arith) h))
    (cases_lt k s))

-- bytes of the list itself
pub paste_copied : (m xs : List ℕ) (a c n : ℕ) → ReadFirst a c n → a + n ≤ length m → c + n ≤ length m → xs ≡ take n (drop a m) → paste m c xs n ≡ copied m a c n
paste_copied m xs a c n first from to is =
    let all : length xs ≡ n = omega (arith, ap length is, length-take n (drop a m), length-drop a m) in
    is_merged (λ x _. x) m a a c (paste m c xs n) n first first (length-paste m c xs n to (omega arith))
    (λ k h within.
    paste_in m c xs n to (omega arith) k h
    ∙ ap (λ l. get_or l k 0) is
    ∙ get_or-take n (drop a m) k 0 h
    ∙ get_or-drop a m k 0)
    (λ k h. ⊎_elim
    (λ below. paste_below m c xs n to (omega arith) k below)
    (λ past. paste_above m c xs n to (omega arith) k past)
    h)
