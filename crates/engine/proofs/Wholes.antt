-- The bytes of a whole pixel or unit.
use Rattle.std.proofs.Common.{◌≡◌, ℕ, zero, suc, ◌+◌, ◌*◌, ◌<◌, ◌≤◌, true, false, ltb, List, [], ◌∷◌, ◌++◌, length, get_or, sym, refl, ap, ◌∙◌, add-one, append_assoc, length-append, arith}
use Rattle.std.proofs.lemmas.Bool.{lt-ltb, le-ltb}
use Rattle.colour.specs.declared.Palette.{Palette}
use Rattle.window.specs.Values.{value_at}
use Rattle.source.specs.Origins.{awaited}
use Rattle.engine.specs.Painted.{Op}
use Rattle.engine.specs.Fed.{Stage, number, takes, due, whole, fed}
use Rattle.engine.specs.Laws.{WholesHold}
use Rattle.engine.proofs.Laws.{painted_holds}

-- bytes behind another hold what they hold alone
pub behind : (x : ℕ) (xs : List ℕ) (a n : ℕ) → value_at (x ∷ xs) (suc a) n ≡ value_at xs a n
unfolding value_at
behind x xs a zero = refl
behind x xs a (suc n) = rw (add-one, add-one) (ap (λ v. get_or xs a 0 + 256 * v) (behind x xs (suc a) n))

-- the number of bytes is the value that they have in memory
pub number_is : (bytes : List ℕ) → number bytes ≡ value_at bytes 0 (length bytes)
unfolding value_at
number_is [] = refl
number_is (b ∷ bytes) = ap (λ v. b + 256 * v) (number_is bytes ∙ sym (behind b bytes 0 (length bytes)))

module _ (o : Op) (p : Palette) where
  -- the last bytes of a pixel or unit, behind those that wait
  rest_come : (s : Stage) (b : ℕ) (bytes : List ℕ) → takes o s.drawn ≡ true → length s.waiting + suc (length bytes) ≡ awaited o.first
      → fed o p s (b ∷ bytes) ≡ whole o p s (number (s.waiting ++ b ∷ bytes))
  rest_come s b [] e all =
      let ws = s.waiting ++ b ∷ [] in
      let full : ltb (length ws) (awaited o.first) ≡ false = le-ltb _ _ (omega (arith, length-append s.waiting (b ∷ []))) in
      rw (e, full)
  rest_come s b (c ∷ bytes) e all =
      let ws = s.waiting ++ b ∷ [] in
      let more : ltb (length ws) (awaited o.first) ≡ true = lt-ltb _ _ (omega (arith, length-append s.waiting (b ∷ []))) in
      rw (e, more)
      (rest_come (record s { waiting = ws }) c bytes e (omega (arith, length-append s.waiting (b ∷ [])))
      ∙ ap (λ xs. whole o p s (number xs)) (append_assoc s.waiting (b ∷ []) (c ∷ bytes)))

  whole_come : (s : Stage) (bytes : List ℕ) → takes o s.drawn ≡ true → length s.waiting < awaited o.first → length s.waiting + length bytes ≡ awaited o.first
      → fed o p s bytes ≡ whole o p s (value_at (s.waiting ++ bytes) 0 (length (s.waiting ++ bytes)))
  whole_come s [] e some all = absurd (omega arith)
  whole_come s (b ∷ bytes) e some all = rest_come s b bytes e all ∙ ap (whole o p s) (number_is (s.waiting ++ b ∷ bytes))

  pub wholes_hold : 1 ≤ o.target.width → o.target.left + o.target.width ≤ o.target.image → 1 ≤ o.target.height → WholesHold o p
  wholes_hold across fits down s bytes e some all =
      let all_bytes = s.waiting ++ bytes in
      let v = value_at all_bytes 0 (length all_bytes) in
      rw (whole_come s bytes e some all) (record {
        holds = painted_holds o p v across fits down s.drawn (due o s.drawn) s.memory (omega arith);
        drawn_is = refl;
        none_waits = refl;
      })
