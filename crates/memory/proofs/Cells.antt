-- Where the cell of an address lies, and what a read and a put make of what cells show.
use Rattle.std.proofs.Common.{◌≡◌, ℕ, ◌+◌, ◌*◌, ◌/◌, ◌<◌, ◌≤◌, ◌⊎◌, min, List, map, length, get_or, set, sym, ◌∙◌, ⊎_elim, arith}
use Rattle.std.proofs.Math.Nat.{mul-le-mul_left, le_of_lt}
use Rattle.std.proofs.lemmas.Bool.{cases_eq, cases_lt}
use Rattle.std.proofs.lemmas.Nat.{div_below}
use Rattle.std.proofs.lemmas.List.{length-map, map-set, length-set, get_or-map, get_or-set_same, get_or-set_other}
use Rattle.memory.specs.View.{view_put, view_length, view_at}
use Rattle.memory.specs.Cells.{CellLaws, in_cells, of_cells, cells_sound}

module _ {C : Type 0} {n : ℕ} {byte : C → ℕ → ℕ} {with_byte : C → ℕ → ℕ → C} (laws : CellLaws n byte with_byte) (cs : List C) where
  pub cells_length : length (of_cells n byte cs) ≡ min 16777216 (n * length cs)
  cells_length = view_length (min 16777216 (n * length cs)) (in_cells n byte cs)

  -- the bytes of as many cells as memory has
  pub cells_size : n * min (length cs) (16777216 / n) ≡ length (of_cells n byte cs)
  cells_size =
      let long = cells_length in
      let all = laws.fills in
      ⊎_elim
      (λ few.
      let fits : n * length cs ≤ n * (16777216 / n) = mul-le-mul_left n (le_of_lt few) in
      let least : min (length cs) (16777216 / n) ≡ length cs = omega arith in
      rw least (omega arith))
      (λ many.
      let fits : n * (16777216 / n) ≤ n * length cs = mul-le-mul_left n many in
      let least : min (length cs) (16777216 / n) ≡ 16777216 / n = omega arith in
      rw least (omega arith))
      (cases_lt (length cs) (16777216 / n))

  -- where an address lies in memory, and where it does not
  pub cells_in : (a : ℕ) → a < 16777216 → a / n < length cs → a < length (of_cells n byte cs)
  cells_in a most h =
      let some = laws.some in
      let fits : n * (a / n + 1) ≤ n * length cs = mul-le-mul_left n (omega arith) in
      omega (arith, cells_length)

  pub cells_past : (a : ℕ) → (16777216 ≤ a) ⊎ (length cs ≤ a / n) → length (of_cells n byte cs) ≤ a
  cells_past a h =
      let some = laws.some in
      ⊎_elim
      (λ most. omega (arith, cells_length))
      (λ past. let all : n * length cs ≤ n * (a / n) = mul-le-mul_left n past in omega (arith, cells_length))
      h

  pub cell_within : (a : ℕ) → a < length (of_cells n byte cs) → a / n < length cs
  cell_within a h =
      let long = cells_length in
      div_below a n (length cs) laws.some (omega arith)

  pub cell_below : (a : ℕ) → a < length (of_cells n byte cs) → a / n < 16777216 / n
  cell_below a h =
      let long = cells_length in
      let all = laws.fills in
      div_below a n (16777216 / n) laws.some (omega arith)

  pub cells_at : (a v : ℕ) (d : C) → a < length (of_cells n byte cs) → v ≡ byte (get_or cs (a / n) d) a → v < 256 → v ≡ get_or (of_cells n byte cs) a 0
  cells_at a v d h is fits =
      let long = cells_length in
      let read : v ≡ in_cells n byte cs a = is ∙ sym (get_or-map (λ c. byte c a) cs (a / n) d 0 (cell_within a h)) in
      read ∙ sym (view_at (min 16777216 (n * length cs)) (in_cells n byte cs) a (omega arith) (rw read at fits))

  pub cells_put : (a v : ℕ) (d : C) → a < length (of_cells n byte cs) → v < 256
      → of_cells n byte (set cs (a / n) (with_byte (get_or cs (a / n) d) a v)) ≡ set (of_cells n byte cs) a v
  cells_put a v d h fits =
      let i = a / n in
      let c = get_or cs i d in
      let new = with_byte c a v in
      let long = cells_length in
      let row : (k : ℕ) → i < length (map (λ x. byte x k) cs) = λ k. rw (length-map cs (λ x. byte x k)) (cell_within a h) in
      let same : (k : ℕ) → get_or (map (λ x. byte x k) (set cs i new)) i 0 ≡ byte new k =
      λ k. rw (map-set (λ x. byte x k) cs i new) (get_or-set_same (map (λ x. byte x k) cs) i (byte new k) 0 (row k)) in
      rw (length-set cs i new)
      (view_put (min 16777216 (n * length cs)) (in_cells n byte cs) (in_cells n byte (set cs i new)) a v (omega arith) fits
      (same a ∙ laws.here c a v fits)
      (λ k ne. ⊎_elim
      (λ e. rw e (same k ∙ laws.there c a v k fits e ne ∙ sym (get_or-map (λ x. byte x k) cs i d 0 (cell_within a h))))
      (λ apart. rw (map-set (λ x. byte x k) cs i new) (get_or-set_other (map (λ x. byte x k) cs) i (k / n) (byte new k) 0 apart))
      (cases_eq (k / n) i)))

pub cells_few : {C : Type 0} (n : ℕ) (byte : C → ℕ → ℕ) (cs : List C) → length (of_cells n byte cs) ≤ 16777216
cells_few n byte cs = (cells_sound n byte cs).short
