-- A read of a part is one of the memory below, from the start on, and what a put leaves there.
use Rattle.std.proofs.Common.{◌≡◌, ℕ, ◌+◌, ◌<◌, ◌≤◌, List, length, set, Ok, sym, refl, ap, ◌∙◌, arith}
use Rattle.std.proofs.lemmas.Bool.{lt-ltb, le-ltb}
use Rattle.memory.specs.Bytes.{read_at}
use Rattle.layers.specs.Part.{part, part_length, part_at, put_under}
use Rattle.memory.proofs.Access.{read_in}

module _ (m : List ℕ) (start most a : ℕ) (h : a < length (part m start most)) where
  pub within : start + a < length m
  within = omega (arith, part_length m start most)

  pub part_read : read_at m (start + a) ≡ read_at (part m start most) a
  part_read =
      sym (read_in m (start + a) within) ∙ ap Ok (sym (part_at m start most a (omega (arith, part_length m start most)))) ∙ read_in (part m start most) a h

pub under_in : (m : List ℕ) (start most a v : ℕ) → a < length (part m start most) → set m (start + a) v ≡ put_under m start most a v
unfolding put_under
under_in m start most a v h = rw (lt-ltb a (length (part m start most)) h) refl

pub under_past : (m : List ℕ) (start most a v : ℕ) → length (part m start most) ≤ a → m ≡ put_under m start most a v
unfolding put_under
under_past m start most a v h = rw (le-ltb a (length (part m start most)) h) refl
