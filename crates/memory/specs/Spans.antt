-- Spans: bytes at addresses in a row.
use Rattle.std.specs.Prelude.{◌≡◌, ℕ, zero, suc, ◌+◌, ◌*◌, ◌%◌, ◌<◌, ◌≤◌, ◌⊎◌, ◌&&◌, cond, List, [], ◌∷◌, ◌++◌, length, nat_lt, nat_le, slice_index, slice_set}

-- the n bytes from a on; past the end of memory each is 0
unfoldable pub span : List ℕ → ℕ → ℕ → List ℕ
span m a zero = []
span m a (suc n) = slice_index m a ∷ span m (a + 1) n

-- bytes put one after another from a on; past the end of memory nothing changes
unfoldable pub overlaid : List ℕ → ℕ → List ℕ → List ℕ
overlaid m a [] = m
overlaid m a (x ∷ xs) = overlaid (slice_set m a x) (a + 1) xs

-- bytes, n times one after another
unfoldable pub times : List ℕ → ℕ → List ℕ
times xs zero = []
times xs (suc n) = times xs n ++ xs

-- of two bytes a byte comes
abbrev pub OfBytes : (ℕ → ℕ → ℕ) → Type 0
OfBytes f = (x y : ℕ) → x < 256 → y < 256 → f x y < 256

-- n bytes from c on, one after another, each made of the bytes at the same place from a and from b on, as they then are
unfoldable pub merged : (ℕ → ℕ → ℕ) → List ℕ → ℕ → ℕ → ℕ → ℕ → List ℕ
merged f m a b c zero = m
merged f m a b c (suc n) =
    let l = merged f m a b c n in
    slice_set l (c + n) (f (slice_index l (a + n)) (slice_index l (b + n)))

-- n bytes from c on, one after another, each that at the same place from a on, as it then is
abbrev pub copied : List ℕ → ℕ → ℕ → ℕ → List ℕ
copied m a c n = merged (λ x _. x) m a a c n

-- where n bytes are read from a on and put from c on, one after another, each is read before another is put there
abbrev pub ReadFirst : ℕ → ℕ → ℕ → Type 0
ReadFirst a c n = (c ≤ a) ⊎ (a + n ≤ c)

-- what each byte of a span is: the byte of memory at its place, or 0 past the end
pub record SpanBytes (m : List ℕ) (a n : ℕ) (xs : List ℕ) : Type 0 where
  pub long : length xs ≡ n
  pub each : (k : ℕ) → k < n → slice_index xs k ≡ slice_index m (a + k)

-- what each byte of memory m' is, where n bytes put from a on left it, of which byte k is f k: the others are as in m
pub record PutBytes (m : List ℕ) (a n : ℕ) (f : ℕ → ℕ) (m' : List ℕ) : Type 0 where
  pub long : length m' ≡ length m
  pub inside : (k : ℕ) → k < n → a + k < length m → slice_index m' (a + k) ≡ f k
  pub outside : (k : ℕ) → (k < a) ⊎ (a + n ≤ k) → slice_index m' k ≡ slice_index m k

-- what each byte of memory is, where bytes were put from a on
abbrev pub StoredBytes : List ℕ → ℕ → List ℕ → List ℕ → Type 0
StoredBytes m a xs m' = PutBytes m a (length xs) (slice_index xs) m'

-- what each byte of memory is, where a pixel was put so many times from a on
abbrev pub FilledBytes : List ℕ → ℕ → List ℕ → ℕ → List ℕ → Type 0
FilledBytes m a xs n m' = PutBytes m a (n * length xs) (λ k. slice_index xs (k % length xs)) m'

-- the byte read from a on at turn k, where turn after turn bytes are put from c on: the new one if it has been put by then
abbrev pub seen : List ℕ → List ℕ → ℕ → ℕ → ℕ → ℕ
seen m m' a c k = cond (nat_lt a c && nat_le c (a + k)) (slice_index m' (a + k)) (slice_index m (a + k))

-- what each byte of memory is, where bytes from a and from b on were merged from c on
abbrev pub MergedBytes : (ℕ → ℕ → ℕ) → List ℕ → ℕ → ℕ → ℕ → ℕ → List ℕ → Type 0
MergedBytes f m a b c n m' = PutBytes m c n (λ k. f (seen m m' a c k) (seen m m' b c k)) m'

-- what each byte of memory is, where bytes from a on were copied from c on
abbrev pub CopiedBytes : List ℕ → ℕ → ℕ → ℕ → List ℕ → Type 0
CopiedBytes m a c n m' = PutBytes m c n (seen m m' a c) m'
