-- Values in buffers of bytes.
use Rattle.std.proofs.lemmas.List.Edits.{sets, sets-eq, paste_all}
use Rattle.std.proofs.lemmas.Slice.{put_mid-paste}
use borrow.Rule.Slice.PartMut.{put_mid}
use Rattle.std.proofs.Common.{◌≡◌, ◌≢◌, ℕ, zero, suc, ◌+◌, ◌*◌, ◌/◌, ◌%◌, ◌<◌, ◌≤◌, Some, None, Option, List, [], ◌∷◌, ◌++◌, length, get_or, set, take, drop, refl, sym, ap, ◌∙◌, add-one, append_assoc, subst, ◌^◌, mul-suc, pow-add, lit<, arith}
use Rattle.std.specs.Option.{unwrap_or}
use Rattle.std.proofs.lemmas.List.{set-get_or}
use Rattle.std.proofs.Math.Nat.{div-div-eq-div-mul}
use Rattle.memory.specs.Spans.{OfBytes}
use Rattle.window.specs.Values.{value_at, stored}
use Rattle.window.proofs.Values.{four_bytes}
use Rattle.colour.specs.declared.Colour.{Colour}
use Rattle.colour.specs.declared.Palette.{Palette}
use Rattle.colour.specs.declared.fields.Fields.{Fields}
use Rattle.colour.specs.Formats.{Format}
use Rattle.rules.specs.Yields.{Yields}
use Rattle.rules.specs.declared.values.ValueRule.{ValueRule}
use Rattle.rules.specs.declared.values.ValueRule.TheVariants.{Fill, First, Raster, Key, Expand, Blend}
use Rattle.rules.specs.Values.{by_bytes, by_fields, gives, Fits, Agrees}
use Rattle.engine.specs.Strips.{put_value, stripped, rgb332, rgb565, rgb888, Common, of_332, of_565, of_888, Alike, made}

-- the lowest b bytes of a number
pub bytes_of : ℕ → ℕ → List ℕ
bytes_of zero v = []
bytes_of (suc b) v = v % 256 ∷ bytes_of b (v / 256)

stored_is : (m : List ℕ) (a b v : ℕ) → stored m a b v ≡ sets m a (bytes_of b v)
unfolding stored bytes_of
stored_is m a zero v = refl
stored_is m a (suc b) v = rw (add-one a) (stored_is (set m a (v % 256)) (suc a) b (v / 256))

take_bytes : (b v : ℕ) → b ≤ 4 → take b (four_bytes v) ≡ bytes_of b v
unfolding bytes_of
take_bytes zero v h = refl
take_bytes (suc zero) v h = refl
take_bytes (suc (suc zero)) v h = refl
take_bytes (suc (suc (suc zero))) v h = rw (div-div-eq-div-mul v 256 256) refl
take_bytes (suc (suc (suc (suc zero)))) v h = rw (div-div-eq-div-mul v 256 256, div-div-eq-div-mul v 65536 256) refl
take_bytes (suc (suc (suc (suc (suc b))))) v h = absurd (omega arith)

length_bytes : (b v : ℕ) → length (bytes_of b v) ≡ b
unfolding bytes_of
length_bytes zero v = refl
length_bytes (suc b) v = ap suc (length_bytes b (v / 256))

-- the bytes of a value, put as one piece
pub stored_piece : (m bs : List ℕ) (a b v : ℕ) → b ≤ 4 → bs ≡ four_bytes v → a + b ≤ length m → put_mid a b m (take b bs) ≡ stored m a b v
stored_piece m bs a b v few is room =
    let xs = bytes_of b v in
    let long = length_bytes b v in
    let piece : take b bs ≡ xs = ap (take b) is ∙ take_bytes b v few in
    let mid : put_mid a b m xs ≡ take a m ++ (xs ++ drop (a + b) m) = put_mid-paste a b m xs xs b refl refl (sym long) ∙ paste_all m a xs b (sym long) in
    let one : sets m a xs ≡ take a m ++ (xs ++ drop (a + length xs) m) = sets-eq xs m a (omega arith) ∙ append_assoc (take a m) xs (drop (a + length xs) m) in
    let same : take a m ++ (xs ++ drop (a + length xs) m) ≡ take a m ++ (xs ++ drop (a + b) m) = ap (λ n. take a m ++ (xs ++ drop (a + n) m)) long in
    let whole : put_mid a b m (take b bs) ≡ put_mid a b m xs = ap (λ ys. put_mid a b m ys) piece in
    whole ∙ mid ∙ sym same ∙ sym one ∙ sym (stored_is m a b v)

-- one pixel more
pub stripped_more : (f : ℕ → ℕ → Option ℕ) (b1 b2 b : ℕ) (x y : List ℕ) (n : ℕ) (t : List ℕ)
    → put_value (n * b) b (f (value_at x (n * b1) b1) (value_at y (n * b2) b2)) (stripped f b1 b2 b x y n t) ≡ stripped f b1 b2 b x y (n + 1) t
unfolding stripped
stripped_more f b1 b2 b x y n t = rw (add-one n) refl

-- a value that is put where it was read changes nothing
pub put_back : (m : List ℕ) → ((k : ℕ) → get_or m k 0 < 256) → (a b : ℕ) → stored m a b (value_at m a b) ≡ m
unfolding stored value_at
put_back m s a zero = refl
put_back m s a (suc b) =
    let g = s a in
    let x = get_or m a 0 in
    let r = value_at m (a + 1) b in
    let low : (x + 256 * r) % 256 ≡ x = omega arith in
    let high : (x + 256 * r) / 256 ≡ r = omega arith in
    let same : set m a ((x + 256 * r) % 256) ≡ m = ap (set m a) low ∙ set-get_or m a 0 in
    ap (λ n. stored n (a + 1) b ((x + 256 * r) / 256)) same ∙ ap (stored m (a + 1) b) high ∙ put_back m s (a + 1) b

-- so a pixel without a value may be stored as it was
pub put_always : (m : List ℕ) → ((k : ℕ) → get_or m k 0 < 256) → (a b : ℕ) (o : Option ℕ) → stored m a b (unwrap_or o (value_at m a b)) ≡ put_value a b o m
put_always m s a b None = put_back m s a b
put_always m s a b (Some v) = refl

-- a strip of values is one of their bytes
module _ (f : ℕ → ℕ → ℕ) (fits : OfBytes f) (x y : List ℕ) (xs : (k : ℕ) → get_or x k 0 < 256) (ys : (k : ℕ) → get_or y k 0 < 256) (t : List ℕ) where
  abbrev byte_by_byte : ℕ → List ℕ
  byte_by_byte n = stripped (λ a c. Some (f (a % 256) (c % 256))) 1 1 1 x y n t

  byte_more : (a : ℕ) → byte_by_byte (a + 1) ≡ set (byte_by_byte a) a (f (get_or x a 0) (get_or y a 0))
  unfolding stripped value_at stored
  byte_more a =
      let one : a + 1 ≡ suc a = omega arith in
      let at : a * 1 ≡ a = omega arith in
      let u : (get_or x a 0 + 256 * 0) % 256 ≡ get_or x a 0 = omega (arith, xs a) in
      let v : (get_or y a 0 + 256 * 0) % 256 ≡ get_or y a 0 = omega (arith, ys a) in
      let w : f (get_or x a 0) (get_or y a 0) % 256 ≡ f (get_or x a 0) (get_or y a 0) = omega (arith, fits (get_or x a 0) (get_or y a 0) (xs a) (ys a)) in
      rw (one, at, u, v, w) refl

  bytes_run : (a b : ℕ) → byte_by_byte (a + b) ≡ stored (byte_by_byte a) a b (by_bytes f b (value_at x a b) (value_at y a b))
  unfolding stored value_at by_bytes
  bytes_run a zero = let e : a + 0 ≡ a = omega arith in rw e refl
  bytes_run a (suc b) =
      let e : a + suc b ≡ a + 1 + b = omega arith in
      let p = get_or x a 0 in
      let q = get_or y a 0 in
      let r = value_at x (a + 1) b in
      let s = value_at y (a + 1) b in
      let low : (p + 256 * r) % 256 ≡ p = omega (arith, xs a) in
      let low' : (q + 256 * s) % 256 ≡ q = omega (arith, ys a) in
      let high : (p + 256 * r) / 256 ≡ r = omega (arith, xs a) in
      let high' : (q + 256 * s) / 256 ≡ s = omega (arith, ys a) in
      let rest = by_bytes f b r s in
      let first : (f p q + 256 * rest) % 256 ≡ f p q = omega (arith, fits p q (xs a) (ys a)) in
      let above : (f p q + 256 * rest) / 256 ≡ rest = omega (arith, fits p q (xs a) (ys a)) in
      rw (e, low, low', high, high', first, above)
      (bytes_run (a + 1) b ∙ ap (λ m. stored m (a + 1) b rest) (byte_more a))

  pub by_bytes_stripped : (b n : ℕ) → byte_by_byte (n * b) ≡ stripped (λ u v. Some (by_bytes f b u v)) b b b x y n t
  unfolding stripped
  by_bytes_stripped b zero = let e : 0 * b ≡ 0 = omega arith in rw e refl
  by_bytes_stripped b (suc n) =
      let e : suc n * b ≡ n * b + b = omega arith in
      rw e (bytes_run (n * b) b ∙ ap (λ m. stored m (n * b) b (by_bytes f b (value_at x (n * b) b) (value_at y (n * b) b))) (by_bytes_stripped b n))

-- strips of the same values
pub stripped_same : (f g : ℕ → ℕ → Option ℕ) (b1 b2 c1 c2 b : ℕ) (x y u v : List ℕ) (n : ℕ) (t : List ℕ)
    → ((i : ℕ) → i < n → f (value_at x (i * b1) b1) (value_at y (i * b2) b2) ≡ g (value_at u (i * c1) c1) (value_at v (i * c2) c2))
    → stripped f b1 b2 b x y n t ≡ stripped g c1 c2 b u v n t
unfolding stripped
stripped_same f g b1 b2 c1 c2 b x y u v zero t e = refl
stripped_same f g b1 b2 c1 c2 b x y u v (suc n) t e =
    ap (put_value (n * b) b (f (value_at x (n * b1) b1) (value_at y (n * b2) b2))) (stripped_same f g b1 b2 c1 c2 b x y u v n t (λ i h. e i (omega arith)))
    ∙ ap (λ o. put_value (n * b) b o (stripped g c1 c2 b u v n t)) (e n (omega arith))

-- the first of each two bytes
by_first : (b x y : ℕ) → x < 2 ^ (8 * b) → by_bytes (λ u _. u) b x y ≡ x
unfolding by_bytes
by_first zero x y h = omega arith
by_first (suc b) x y h =
    let room : x / 256 < 2 ^ (8 * b) = omega (arith, ap (λ k. 2 ^ k) (mul-suc 8 b), pow-add 2 (8 * b) 8) in
    omega (arith, by_first b (x / 256) (y / 256) room)

-- a value has no more bits than its bytes
pub value_few : (m : List ℕ) → ((k : ℕ) → get_or m k 0 < 256) → (a b : ℕ) → value_at m a b < 2 ^ (8 * b)
unfolding value_at
value_few m s a zero = lit< tt
value_few m s a (suc b) = rw (mul-suc 8 b, pow-add 2 (8 * b) 8) (omega (arith, s a, value_few m s (a + 1) b))

module _ (x y : List ℕ) (xs : (k : ℕ) → get_or x k 0 < 256) where
  pub first_stripped : (b b2 n : ℕ) (t : List ℕ) → stripped (λ u v. Some (by_bytes (λ a _. a) b u v)) b b b x x n t ≡ stripped (λ u _. Some u) b b2 b x y n t
  first_stripped b b2 n t =
      stripped_same (λ u v. Some (by_bytes (λ a _. a) b u v)) (λ u _. Some u) b b b b2 b x x x y n t
      (λ i h. ap Some (by_first b (value_at x (i * b) b) (value_at x (i * b) b) (value_few x xs (i * b) b)))

-- three bytes are three fields
bytes_are_fields : (f : ℕ → ℕ → ℕ) (x y : ℕ) → x < 16777216 → y < 16777216 → by_bytes f 3 x y ≡ by_fields f rgb888 x y
unfolding by_bytes
bytes_are_fields f x y h k =
    let x1 : x / 256 / 256 % 256 ≡ x / 65536 % 256 = omega arith in
    let y1 : y / 256 / 256 % 256 ≡ y / 65536 % 256 = omega arith in
    rw (x1, y1) (omega arith)

pub mean_stripped : (f : ℕ → ℕ → ℕ) (x y : List ℕ) → ((k : ℕ) → get_or x k 0 < 256) → ((k : ℕ) → get_or y k 0 < 256) → (n : ℕ) (t : List ℕ)
    → stripped (λ u v. Some (by_bytes f 3 u v)) 3 3 3 x y n t ≡ stripped (λ u v. Some (by_fields f rgb888 u v)) 3 3 3 x y n t
mean_stripped f x y xs ys n t =
    stripped_same (λ u v. Some (by_bytes f 3 u v)) (λ u v. Some (by_fields f rgb888 u v)) 3 3 3 3 3 x y x y n t
    (λ i h. ap Some (bytes_are_fields f (value_at x (i * 3) 3) (value_at y (i * 3) 3) (value_few x xs (i * 3) 3) (value_few y ys (i * 3) 3)))

-- the values of strips that are alike fit the rule
pub fits_alike : (r : ValueRule) (b1 b2 b u v : ℕ) → Alike r b1 b2 b → u < 2 ^ (8 * b1) → v < 2 ^ (8 * b2) → Fits r b u v
fits_alike (Fill _) b1 b2 b u v alike h k = absurd alike
fits_alike First b1 b2 b u v alike h k = subst (λ w. u < 2 ^ (8 * w)) alike.0 h
fits_alike (Raster _) b1 b2 b u v alike h k = (subst (λ w. u < 2 ^ (8 * w)) alike.0 h, subst (λ w. v < 2 ^ (8 * w)) alike.1 k)
fits_alike (Key _) b1 b2 b u v alike h k = subst (λ w. u < 2 ^ (8 * w)) alike.0 h
fits_alike (Expand _ _) b1 b2 b u v alike h k = tt
fits_alike (Blend _ _) b1 b2 b u v alike h k = (subst (λ w. u < 2 ^ (8 * w)) alike.0 h, subst (λ w. v < 2 ^ (8 * w)) alike.1 k)

-- so a strip drawn by what a rule does on values is the strip that the rule makes
pub known_stripped : (y : Yields) (f : Format) (narrow : Colour → ℕ) (r : ValueRule) (p : Palette) (b1 b2 : ℕ) (x z : List ℕ) (n : ℕ) (t : List ℕ)
    → Agrees y f narrow r → Alike r b1 b2 f.width → ((k : ℕ) → get_or x k 0 < 256) → ((k : ℕ) → get_or z k 0 < 256)
    → stripped (gives r f.width) b1 b2 f.width x z n t ≡ stripped (made narrow (y p)) b1 b2 f.width x z n t
known_stripped y f narrow r p b1 b2 x z n t agrees alike xs zs =
    stripped_same (gives r f.width) (made narrow (y p)) b1 b2 b1 b2 f.width x z x z n t
    (λ i h. let u = value_at x (i * b1) b1 in let v = value_at z (i * b2) b2 in
    sym (agrees p u v (fits_alike r b1 b2 f.width u v alike (value_few x xs (i * b1) b1) (value_few z zs (i * b2) b2))))

-- the fields of a width that there is a loop for
pub common_one : (f : Fields) (b : ℕ) → Common f b → b ≡ 1 → f ≡ rgb332
common_one f b of_332 e = refl
common_one f b of_565 e = absurd (omega arith)
common_one f b of_888 e = absurd (omega arith)

pub common_two : (f : Fields) (b : ℕ) → Common f b → b ≡ 2 → f ≡ rgb565
common_two f b of_332 e = absurd (omega arith)
common_two f b of_565 e = refl
common_two f b of_888 e = absurd (omega arith)

pub common_three : (f : Fields) (b : ℕ) → Common f b → b ≢ 1 → b ≢ 2 → (f ≡ rgb888) × (b ≡ 3)
common_three f b of_332 h k = absurd (h refl)
common_three f b of_565 h k = absurd (k refl)
common_three f b of_888 h k = (refl, refl)

-- a mean in these fields and widths
pub mean_as : (level : ℕ) (f g : Fields) (b w b1 b2 : ℕ) (x y : List ℕ) (n : ℕ) (t : List ℕ) → f ≡ g → b ≡ w → b1 ≡ b → b2 ≡ b
    → stripped (gives (Blend level g) w) w w w x y n t ≡ stripped (gives (Blend level f) b) b1 b2 b x y n t
mean_as level f g b w b1 b2 x y n t same wide first second =
    ap (λ h. stripped (gives (Blend level h) w) w w w x y n t) (sym same)
    ∙ ap (λ v. stripped (gives (Blend level f) v) v v v x y n t) (sym wide)
    ∙ ap (λ v. stripped (gives (Blend level f) b) v b b x y n t) (sym first)
    ∙ ap (λ v. stripped (gives (Blend level f) b) b1 v b x y n t) (sym second)

-- fields of the same widths
pub same_fields : (f g : Fields) → f.high ≡ g.high → f.middle ≡ g.middle → f.low ≡ g.low → f ≡ g
same_fields f g h m l =
    ap (λ x. record { high = x; middle = f.middle; low = f.low }) h
    ∙ ap (λ x. record { high = g.high; middle = x; low = f.low }) m
    ∙ ap (λ x. record { high = g.high; middle = g.middle; low = x }) l
