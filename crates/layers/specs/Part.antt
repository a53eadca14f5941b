-- The bytes from a start on.
use Rattle.std.specs.Prelude.{◌≡◌, ℕ, ◌+◌, ◌-◌, ◌<◌, ◌≤◌, min, cond, List, length, take, drop, nat_lt, slice_index, slice_set}
use Rattle.std.proofs.Common.{ap, ◌∙◌, ⊎_elim, arith, length-take, length-drop, get_or-take, get_or-drop, lit<}
use Rattle.std.proofs.Math.Seq.{take-set-lt}
use Rattle.std.proofs.lemmas.List.{drop-set-add, get_or_past}
use Rattle.std.proofs.lemmas.Bool.{cases_lt}
use Rattle.memory.specs.Bytes.{Sound}

unfoldable pub part : List ℕ → ℕ → ℕ → List ℕ
part m start most = take most (drop start m)

pub part_length : (m : List ℕ) (start most : ℕ) → length (part m start most) ≡ min most (length m - start)
unfolding part
part_length m start most = simp (length-take, length-drop)

pub part_at : (m : List ℕ) (start most k : ℕ) → k < most → slice_index (part m start most) k ≡ slice_index m (start + k)
unfolding part
part_at m start most k h = get_or-take most (drop start m) k 0 h ∙ get_or-drop start m k 0

pub part_set : (m : List ℕ) (start most k v : ℕ) → k < most → part (slice_set m (start + k) v) start most ≡ slice_set (part m start most) k v
unfolding part
part_set m start most k v h = ap (take most) (drop-set-add start m k v) ∙ take-set-lt most (drop start m) k v h

pub part_sound : (m : List ℕ) (start most : ℕ) → Sound m → Sound (part m start most)
part_sound m start most s = record {
  short = omega (arith, part_length m start most, s.short);
  bytes = λ k. ⊎_elim
      (λ in'. rw (part_at m start most k in') (s.bytes (start + k)))
      (λ past. let p : length (part m start most) ≤ k = omega (arith, part_length m start most) in rw (get_or_past (part m start most) k 0 p) (lit< tt))
      (cases_lt k most);
}

-- what a put to a part leaves of the memory below: outside the part nothing changes
unfoldable pub put_under : List ℕ → ℕ → ℕ → ℕ → ℕ → List ℕ
put_under m start most a v = cond (nat_lt a (length (part m start most))) (slice_set m (start + a) v) m
