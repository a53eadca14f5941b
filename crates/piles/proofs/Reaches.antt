-- A stretch has an address where its part of the memory below does.
use Rattle.std.proofs.Common.{◌≡◌, ℕ, ◌+◌, ◌-◌, min, Bool, true, false, cond, ltb, List, [], length, set, Ok, Err, sym, refl, ap, ◌∙◌, ⊎_elim, arith}
use Rattle.std.proofs.lemmas.Bool.Decides.{nat_tests}
use Rattle.std.proofs.lemmas.Bool.{cases_lt, lt-ltb, le-ltb, cond-true, cond-false}
use Rattle.std.proofs.lemmas.List.{length-set, get_or-set_same}
use Rattle.memory.specs.Bytes.{read_at, put_at}
use Rattle.memory.proofs.Access.{read_in, read_past}
use Rattle.layers.specs.Part.{part, part_length, put_under}
use Rattle.layers.specs.Queue.{queue, pushed, queued, taken}
use Rattle.piles.specs.Reach.{has}

reached : (n s l a : ℕ) → ltb a (min l (n - s)) ≡ cond (ltb a l) (ltb (s + a) n) false
reached n s l a = grind (arith, nat_tests)

module _ (m : List ℕ) (s l a : ℕ) where
  has_part : ltb a (length (part m s l)) ≡ has m s l a
  unfolding has
  has_part = ap (ltb a) (part_length m s l) ∙ reached (length m) s l a

  pub put_has : put_at (part m s l) a ≡ cond (has m s l a) (Ok tt) (Err 12)
  put_has = ap (λ b. cond b (Ok tt) (Err 12)) has_part

  pub under_has : (v : ℕ) → put_under m s l a v ≡ cond (has m s l a) (set m (s + a) v) m
  unfolding put_under
  under_has v = ap (λ b. cond b (set m (s + a) v) m) has_part

  pub read_has : (v : ℕ) → read_at (set (part m s l) a v) a ≡ cond (has m s l a) (Ok v) (Err 12)
  read_has v =
      let p = part m s l in
      ⊎_elim
      (λ in'.
      sym (read_in (set p a v) a (omega (arith, length-set p a v))) ∙ ap Ok (get_or-set_same p a v 0 in')
      ∙ sym (cond-true (ltb a (length p)) (Ok v) (Err 12) (lt-ltb a (length p) in')))
      (λ past.
      sym (read_past (set p a v) a (omega (arith, length-set p a v))) ∙ sym (cond-false (ltb a (length p)) (Ok v) (Err 12) (le-ltb a (length p) past)))
      (cases_lt a (length p))
      ∙ ap (λ b. cond b (Ok v) (Err 12)) has_part

  pub first_has : (v : ℕ) → length (queued (queue (part m s l) []) a v).entries ≡ cond (has m s l a) 1 0
  unfolding queued taken
  first_has v = first (ltb a (length (part m s l))) ∙ ap (λ b. cond b 1 0) has_part
    where
      first : (b : Bool) → length (cond b (pushed (queue (part m s l) []) a v) (queue (part m s l) [])).entries ≡ cond b 1 0
      first true = refl
      first false = refl
