-- The bytes of a burst line, one pair of digits after another.
use Rattle.std.proofs.Common.{◌≡◌, ℕ, zero, suc, ◌+◌, ◌-◌, ◌/◌, ◌%◌, ◌<◌, ◌≤◌, true, ◌&&◌, eqb, leb, List, [], ◌∷◌, ◌++◌, length, take, drop, set, replicate, get_or, Some, None, Option, sym, refl, ap, ◌∙◌, append_assoc, arith}
use Rattle.std.proofs.lemmas.Bool.{cond-true}
use Rattle.std.proofs.lemmas.Bool.Decides.{nat_tests}
use Rattle.std.proofs.lemmas.List.{take_more_set, drop_more, get_or-drop, drop-drop, drop-set-lt}
use Rattle.std.specs.Simd.{first_chunks}
use Rattle.bench_lines.specs.Digits.{byte_of, byte_at, spaced}
use Rattle.bench_lines.specs.Commands.{burst_line, as_burst, with_first, bytes_at}

-- what pairs of digits spell
abbrev pub pairs_spell : List (List ℕ) → Option (List ℕ)
pairs_spell [] = Some []
pairs_spell (p ∷ ps) = with_first (byte_at p 0) (pairs_spell ps)

pub bytes_at-drop : (l : List ℕ) (j k n : ℕ) → bytes_at (drop j l) k n ≡ bytes_at l (j + k) n
bytes_at-drop l j k zero = refl
bytes_at-drop l j k (suc n) =
    let e : j + (k + 1) ≡ j + k + 1 = omega arith in
    let f : j + (k + 2) ≡ j + k + 2 = omega arith in
    rw (get_or-drop j l k 0, get_or-drop j l (k + 1) 0, e, bytes_at-drop l j (k + 2) n, f)

pub pairs_spell_all : (l : List ℕ) (n : ℕ) → pairs_spell (first_chunks 2 n l) ≡ bytes_at l 0 n
pairs_spell_all l zero = refl
pairs_spell_all [] (suc n) = ap (λ o. with_first (byte_at [] 0) o) (pairs_spell_all [] n ∙ bytes_at-drop [] 2 0 n)
pairs_spell_all (x ∷ []) (suc n) = ap (λ o. with_first (byte_at (x ∷ []) 0) o) (pairs_spell_all [] n ∙ bytes_at-drop (x ∷ []) 2 0 n)
pairs_spell_all (x ∷ y ∷ l) (suc n) = ap (λ o. with_first (byte_of x y) o) (pairs_spell_all l n ∙ bytes_at-drop (x ∷ y ∷ l) 2 0 n)

-- bytes that stand before others, if those are there
abbrev pub prefixed : List ℕ → Option (List ℕ) → Option (List ℕ)
prefixed xs None = None
prefixed xs (Some ys) = Some (xs ++ ys)

prefixed_next : (xs : List ℕ) (b : ℕ) (o : Option (List ℕ)) → prefixed (xs ++ b ∷ []) o ≡ prefixed xs (with_first (Some b) o)
prefixed_next xs b None = refl
prefixed_next xs b (Some ys) = ap Some (append_assoc xs (b ∷ []) ys)

pub pair_some : (ps : List (List ℕ)) (bs : List ℕ) (i b : ℕ) → i < length ps → i < length bs → byte_at (get_or ps i []) 0 ≡ Some b
    → prefixed (take (i + 1) (set bs i b)) (pairs_spell (drop (i + 1) ps)) ≡ prefixed (take i bs) (pairs_spell (drop i ps))
pair_some ps bs i b h k e =
    rw (take_more_set bs i b k, drop_more ps i [] h, e) (prefixed_next (take i bs) b (pairs_spell (drop (i + 1) ps)))

pub pair_none : (ps : List (List ℕ)) (bs : List ℕ) (i : ℕ) → i < length ps → byte_at (get_or ps i []) 0 ≡ None → prefixed bs (pairs_spell (drop i ps)) ≡ None
pair_none ps bs i h e = rw (drop_more ps i [] h, e)

pub burst_shaped : (l : List ℕ) → 4 ≤ length l → length l ≤ 66 → length l % 2 ≡ 0 → spaced l 1 ≡ true → burst_line l ≡ as_burst (bytes_at l 2 ((length l - 2) / 2))
burst_shaped l a b e s =
    let p : (leb 4 (length l) && (leb (length l) 66 && (eqb (length l % 2) 0 && spaced l 1))) ≡ true = grind (arith, nat_tests) in
    cond-true _ (as_burst (bytes_at l 2 ((length l - 2) / 2))) None p

-- a burst whose digits are some pairs
pub burst_pairs : (ds : List ℕ) (ps : List (List ℕ)) → ps ≡ first_chunks 2 (length ds / 2) ds → length ps ≡ length ds / 2 → length ds % 2 ≡ 0 → 1 ≤ length ps → length ps ≤ 32
    → as_burst (pairs_spell ps) ≡ burst_line (66 ∷ 32 ∷ ds)
burst_pairs ds ps e n even low high =
    let l = 66 ∷ 32 ∷ ds in
    let half : length ds / 2 ≡ (length l - 2) / 2 = omega arith in
    ap (λ x. as_burst (pairs_spell x)) e ∙ ap as_burst (pairs_spell_all ds (length ds / 2) ∙ bytes_at-drop l 2 0 (length ds / 2))
    ∙ ap (λ k. as_burst (bytes_at l 2 k)) half
    ∙ sym (burst_shaped l (omega arith) (omega arith) (omega arith) refl)

-- the array past the bytes that are set stays zeros
pub zeros_next : (bs : List ℕ) (i b : ℕ) → i < 32 → drop i bs ≡ replicate (32 - i) 0 → drop (i + 1) (set bs i b) ≡ replicate (32 - (i + 1)) 0
zeros_next bs i b h e =
    let more : 32 - i ≡ suc (32 - (i + 1)) = omega arith in
    drop-set-lt (i + 1) bs i b (omega arith) ∙ sym (drop-drop 1 i bs) ∙ ap (drop 1) e ∙ ap (λ n. drop 1 (replicate n 0)) more
