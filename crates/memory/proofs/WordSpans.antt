-- Words of a block as two bytes at addresses in a row: one put, one read, and one made of others.
use Rattle.std.proofs.Common.{◌≡◌, ℕ, ◌+◌, ◌*◌, ◌/◌, ◌%◌, ◌<◌, List, [], ◌∷◌, ◌++◌, min, length, get_or, set, take, drop, sym, ap, ◌∙◌, append_assoc, ⊎_elim, arith}
use Rattle.std.proofs.lemmas.Slice.{drop-append-drop}
use Rattle.std.proofs.lemmas.List.{length-append, length-drop, length-take, take-append-drop, ext_get_or, get_or_append_left, length-set, set-set, set_past, get_or-set_same, get_or-set_other}
use Rattle.std.proofs.lemmas.Bool.{cases_lt, cases_eq}
use Rattle.std.proofs.lemmas.Bool.Decides.{nat_tests}
use Rattle.memory.specs.View.{view_length, view_mod}
use Rattle.memory.specs.Boards.{half, with_half, half_laws, of_words, words_plain}
use Rattle.memory.specs.Spans.{span, overlaid, merged}
use Rattle.memory.proofs.Cells.{cells_put, cells_at}
use Rattle.memory.proofs.Spans.{overlaid_more, merged_more}
use Rattle.memory.proofs.Pieces.{span_more}

pub words_length : (ws : List ℕ) → length (of_words ws) ≡ min 16777216 (2 * length ws)
words_length ws = ap length (words_plain ws) ∙ view_length (min 16777216 (2 * length ws)) (λ k. half (get_or ws (k / 2) 0) k)

-- the word at a place is within the block, and within display memory
pub word_within : (ws : List ℕ) (p : ℕ) → 2 * p < length (of_words ws) → p < length ws
word_within ws p h = omega (arith, words_length ws)

pub word_below : (ws : List ℕ) (p : ℕ) → 2 * p < length (of_words ws) → p < 8388608
word_below ws p h = omega (arith, words_length ws)

-- a word of two bytes put at a place puts them at addresses in a row
pub words_put : (ws : List ℕ) (p x y : ℕ) → 2 * p + 1 < length (of_words ws) → x < 256 → y < 256
    → of_words (set ws p (x + 256 * y)) ≡ set (set (of_words ws) (2 * p) x) (2 * p + 1) y
words_put ws p x y h fx fy =
    let e : 2 * p / 2 ≡ p = omega arith in
    let e' : (2 * p + 1) / 2 ≡ p = omega arith in
    let old = get_or ws p 0 in
    let low = with_half old (2 * p) x in
    let ws' = set ws p low in
    let first : of_words ws' ≡ set (of_words ws) (2 * p) x = rw e at (cells_put half_laws ws (2 * p) x 0 (omega arith) fx) in
    let long : 2 * p + 1 < length (of_words ws') = rw first (omega (arith, length-set (of_words ws) (2 * p) x)) in
    let second : of_words (set ws' p (with_half (get_or ws' p 0) (2 * p + 1) y)) ≡ set (of_words ws') (2 * p + 1) y =
    rw e' at (cells_put half_laws ws' (2 * p + 1) y 0 long fy) in
    let within : p < length ws = word_within ws p (omega arith) in
    let read : get_or ws' p 0 ≡ low = get_or-set_same ws p low 0 within in
    let both : with_half low (2 * p + 1) y ≡ x + 256 * y = grind (arith, nat_tests) in
    let made : set ws' p (with_half (get_or ws' p 0) (2 * p + 1) y) ≡ set ws p (x + 256 * y) = rw (read, both) (set-set ws p low (x + 256 * y)) in
    ap of_words (sym made) ∙ second ∙ ap (λ m. set m (2 * p + 1) y) first

-- the bytes of the word at a place
pub word_low : (ws : List ℕ) (p d : ℕ) → 2 * p < length (of_words ws) → get_or ws p d % 256 ≡ get_or (of_words ws) (2 * p) 0
word_low ws p d h =
    let e : 2 * p / 2 ≡ p = omega arith in
    let is : get_or ws p d % 256 ≡ half (get_or ws (2 * p / 2) d) (2 * p) = rw e (grind (arith, nat_tests)) in
    cells_at half_laws ws (2 * p) (get_or ws p d % 256) d h is (omega arith)

pub word_high : (ws : List ℕ) (p d : ℕ) → 2 * p + 1 < length (of_words ws) → get_or ws p d < 65536 → get_or ws p d / 256 ≡ get_or (of_words ws) (2 * p + 1) 0
word_high ws p d h fits =
    let e : (2 * p + 1) / 2 ≡ p = omega arith in
    let is : get_or ws p d / 256 ≡ half (get_or ws ((2 * p + 1) / 2) d) (2 * p + 1) = rw e (grind (arith, nat_tests)) in
    cells_at half_laws ws (2 * p + 1) (get_or ws p d / 256) d h is (omega arith)

-- the words of a block are words
pub set_word : (ws : List ℕ) → ((k : ℕ) → get_or ws k 0 < 65536) → (p w : ℕ) → w < 65536 → (k : ℕ) → get_or (set ws p w) k 0 < 65536
set_word ws words p w h k =
    ⊎_elim
    (λ e. ⊎_elim
    (λ in'. omega (arith, ap (λ i. get_or (set ws p w) i 0) e, get_or-set_same ws p w 0 in'))
    (λ past. rw (set_past ws p w past) (words k))
    (cases_lt p (length ws)))
    (λ ne. rw (get_or-set_other ws p k w 0 ne) (words k))
    (cases_eq k p)

-- two bytes at the place of a word, each made of the bytes at the same place in two other words
abbrev pub word_made : (ℕ → ℕ → ℕ) → ℕ → ℕ → ℕ → List ℕ → List ℕ
word_made f a b c m =
    set (set m (2 * c) (f (get_or m (2 * a) 0) (get_or m (2 * b) 0))) (2 * c + 1) (f (get_or m (2 * a + 1) 0) (get_or m (2 * b + 1) 0))

-- a word made of words at other places is two bytes made of theirs
pub word_merged : (f : ℕ → ℕ → ℕ) (ws : List ℕ) (a b c w : ℕ) → 2 * a + 1 < length (of_words ws) → 2 * b + 1 < length (of_words ws) → 2 * c + 1 < length (of_words ws)
    → get_or ws a 0 < 65536 → get_or ws b 0 < 65536 → w < 65536
    → w % 256 ≡ f (get_or ws a 0 % 256) (get_or ws b 0 % 256) → w / 256 ≡ f (get_or ws a 0 / 256) (get_or ws b 0 / 256)
    → of_words (set ws c w) ≡ word_made f a b c (of_words ws)
word_merged f ws a b c w ha hb hc fa fb fits low high =
    let l = of_words ws in
    let both : w ≡ w % 256 + 256 * (w / 256) = omega arith in
    let x : w % 256 ≡ f (get_or l (2 * a) 0) (get_or l (2 * b) 0) =
    low ∙ ap (λ v. f v (get_or ws b 0 % 256)) (word_low ws a 0 (omega arith)) ∙ ap (f (get_or l (2 * a) 0)) (word_low ws b 0 (omega arith)) in
    let y : w / 256 ≡ f (get_or l (2 * a + 1) 0) (get_or l (2 * b + 1) 0) =
    high ∙ ap (λ v. f v (get_or ws b 0 / 256)) (word_high ws a 0 ha fa) ∙ ap (f (get_or l (2 * a + 1) 0)) (word_high ws b 0 hb fb) in
    ap (λ v. of_words (set ws c v)) both
    ∙ words_put ws c (w % 256) (w / 256) hc (omega arith) (omega arith)
    ∙ ap (λ v. set (set l (2 * c) v) (2 * c + 1) (w / 256)) x
    ∙ ap (set (set l (2 * c) (f (get_or l (2 * a) 0) (get_or l (2 * b) 0))) (2 * c + 1)) y

-- two bytes more at even addresses, both made of bytes as they were before: the first lies at no address that the second is made of
pub merged_word : (f : ℕ → ℕ → ℕ) (m : List ℕ) (a b c i : ℕ)
    → word_made f (a + i) (b + i) (c + i) (merged f m (2 * a) (2 * b) (2 * c) (2 * i)) ≡ merged f m (2 * a) (2 * b) (2 * c) (2 * (i + 1))
merged_word f m a b c i =
    let l = merged f m (2 * a) (2 * b) (2 * c) (2 * i) in
    let l' = merged f m (2 * a) (2 * b) (2 * c) (2 * i + 1) in
    let x = f (get_or l (2 * (a + i)) 0) (get_or l (2 * (b + i)) 0) in
    let e : (p : ℕ) → 2 * (p + i) ≡ 2 * p + 2 * i = λ p. omega arith in
    let e' : (p : ℕ) → 2 * (p + i) + 1 ≡ 2 * p + (2 * i + 1) = λ p. omega arith in
    let one : set l (2 * (c + i)) x ≡ l' = rw (e a, e b, e c) (merged_more f m (2 * a) (2 * b) (2 * c) (2 * i)) in
    let stays : (p : ℕ) → get_or l (2 * (p + i) + 1) 0 ≡ get_or l' (2 * p + (2 * i + 1)) 0 = λ p.
    sym (get_or-set_other l (2 * (c + i)) (2 * (p + i) + 1) x 0 (omega arith)) ∙ ap (λ t. get_or t (2 * (p + i) + 1) 0) one ∙ ap (λ q. get_or l' q 0) (e' p) in
    let n : 2 * (i + 1) ≡ 2 * i + 1 + 1 = omega arith in
    ap (λ t. set t (2 * (c + i) + 1) (f (get_or l (2 * (a + i) + 1) 0) (get_or l (2 * (b + i) + 1) 0))) one
    ∙ ap (λ q. set l' q (f (get_or l (2 * (a + i) + 1) 0) (get_or l (2 * (b + i) + 1) 0))) (e' c)
    ∙ ap (λ v. set l' (2 * c + (2 * i + 1)) (f v (get_or l (2 * (b + i) + 1) 0))) (stays a)
    ∙ ap (λ v. set l' (2 * c + (2 * i + 1)) (f (get_or l' (2 * a + (2 * i + 1)) 0) v)) (stays b)
    ∙ merged_more f m (2 * a) (2 * b) (2 * c) (2 * i + 1)
    ∙ ap (merged f m (2 * a) (2 * b) (2 * c)) (sym n)

-- one word more
pub overlaid_word : (m : List ℕ) (a : ℕ) (xs : List ℕ) (i : ℕ) → 2 * i + 1 < length xs
    → set (set (overlaid m a (take (2 * i) xs)) (a + 2 * i) (get_or xs (2 * i) 0)) (a + 2 * i + 1) (get_or xs (2 * i + 1) 0) ≡ overlaid m a (take (2 * (i + 1)) xs)
overlaid_word m a xs i h =
    let e : 2 * (i + 1) ≡ 2 * i + 1 + 1 = omega arith in
    let e' : a + 2 * i + 1 ≡ a + (2 * i + 1) = omega arith in
    rw (e, e')
    (ap (λ l. set l (a + (2 * i + 1)) (get_or xs (2 * i + 1) 0)) (overlaid_more m a xs (2 * i) (omega arith)) ∙ overlaid_more m a xs (2 * i + 1) h)

pub span_word : (m : List ℕ) (a i : ℕ) → span m a (2 * i) ++ get_or m (a + 2 * i) 0 ∷ get_or m (a + 2 * i + 1) 0 ∷ [] ≡ span m a (2 * (i + 1))
span_word m a i =
    let e : 2 * (i + 1) ≡ 2 * i + 1 + 1 = omega arith in
    let e' : a + 2 * i + 1 ≡ a + (2 * i + 1) = omega arith in
    rw (e, e')
    (sym (append_assoc (span m a (2 * i)) (get_or m (a + 2 * i) 0 ∷ []) (get_or m (a + (2 * i + 1)) 0 ∷ []))
    ∙ ap (λ l. l ++ get_or m (a + (2 * i + 1)) 0 ∷ []) (span_more m a (2 * i))
    ∙ span_more m a (2 * i + 1))

-- a block whose words in display memory are replaced, all of them
module _ (ws new : List ℕ) (n : ℕ) (shown : n ≡ min (length ws) 8388608) (long : length new ≡ n) where
  pub words_replaced : of_words (new ++ drop n ws) ≡ of_words new
  words_replaced =
      let all = length-append new (drop n ws) in
      let rest = length-drop n ws in
      let size : length (of_words (new ++ drop n ws)) ≡ length (of_words new) = omega (arith, words_length (new ++ drop n ws), words_length new) in
      ext_get_or 0 (of_words (new ++ drop n ws)) (of_words new) size
      (λ k h.
      let within = words_length (new ++ drop n ws) in
      let within' = words_length new in
      ap (λ l. get_or l k 0) (words_plain (new ++ drop n ws))
      ∙ view_mod (min 16777216 (2 * length (new ++ drop n ws))) (λ i. half (get_or (new ++ drop n ws) (i / 2) 0) i) k (omega arith)
      ∙ ap (λ w. half w k % 256) (get_or_append_left new (drop n ws) 0 (k / 2) (omega arith))
      ∙ sym (view_mod (min 16777216 (2 * length new)) (λ i. half (get_or new (i / 2) 0) i) k (omega arith))
      ∙ sym (ap (λ l. get_or l k 0) (words_plain new)))

  pub past_replaced : drop 8388608 (new ++ drop n ws) ≡ drop 8388608 ws
  past_replaced = drop-append-drop n ws new 8388608 (omega arith) long

pub words_shown : (ws : List ℕ) (n : ℕ) → n ≡ min (length ws) 8388608 → of_words (take n ws) ≡ of_words ws
words_shown ws n shown =
    let long : length (take n ws) ≡ n = omega (arith, length-take n ws) in
    sym (words_replaced ws (take n ws) n shown long) ∙ ap of_words (take-append-drop n ws)
