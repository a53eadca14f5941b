-- How the first line is cut off.
use Rattle.std.proofs.Common.{◌≡◌, ℕ, zero, suc, ◌+◌, ◌<◌, ◌≤◌, true, false, eqb, List, [], ◌∷◌, ◌++◌, length, get_or, take, drop, Some, None, refl, sym, ap, ◌∙◌, append_assoc, append-nil, arith}
use Rattle.std.proofs.lemmas.Bool.{cond-true, cond-false}
use Rattle.std.proofs.lemmas.Bool.Decides.{nat_tests}
use Rattle.std.proofs.lemmas.List.Quantifiers.{position-Some}
use Rattle.std.proofs.lemmas.List.Sums.{fails_before_first}
use Rattle.std.specs.List.{position, position_or_len}
use Rattle.bench.specs.Scripts.{lines_from, lines}

none_from : (begun xs : List ℕ) → ((k : ℕ) → k < length xs → eqb (get_or xs k 0) 10 ≡ false) → lines_from begun xs ≡ []
none_from begun [] h = refl
none_from begun (c ∷ cs) h = cond-false (eqb c 10) _ _ (h 0 (omega arith)) ∙ none_from (begun ++ c ∷ []) cs (λ k l. h (suc k) (omega arith))

next_from : (begun xs : List ℕ) (i : ℕ) → i < length xs → eqb (get_or xs i 0) 10 ≡ true → ((k : ℕ) → k < i → eqb (get_or xs k 0) 10 ≡ false)
    → lines_from begun xs ≡ (begun ++ take i xs) ∷ lines (drop (i + 1) xs)
next_from begun [] i l e h = absurd (omega arith)
next_from begun (c ∷ cs) zero l e h = cond-true (eqb c 10) _ _ e ∙ ap (λ b. b ∷ lines cs) (sym (append-nil begun))
next_from begun (c ∷ cs) (suc i) l e h =
    let e₁ : suc i + 1 ≡ suc (i + 1) = omega arith in
    rw e₁ (cond-false (eqb c 10) _ _ (h 0 (omega arith))
    ∙ next_from (begun ++ c ∷ []) cs i (omega arith) e (λ k l. h (suc k) (omega arith))
    ∙ ap (λ b. b ∷ lines (drop (i + 1) cs)) (append_assoc begun (c ∷ []) (take i cs)))

pub lines_none : (xs : List ℕ) → position (λ c. eqb c 10) xs ≡ None → lines xs ≡ []
lines_none xs e =
    let past : length xs ≤ position_or_len (λ c. eqb c 10) xs = grind (arith, nat_tests) in
    none_from [] xs (λ k l. fails_before_first (λ c. eqb c 10) xs k 0 (omega arith))

pub lines_next : (xs : List ℕ) (i : ℕ) → position (λ c. eqb c 10) xs ≡ Some i → lines xs ≡ take i xs ∷ lines (drop (i + 1) xs)
lines_next xs i e = let p = position-Some (λ c. eqb c 10) xs i 0 e in next_from [] xs i p.0 p.1 p.2
