-- What a block of cells shows, where a cell is some bytes at addresses in a row.
use Rattle.std.specs.Prelude.{◌≡◌, ◌≢◌, ℕ, ◌*◌, ◌/◌, ◌<◌, min, List, map, length, slice_index}
use Rattle.std.proofs.Common.{arith}
use Rattle.memory.specs.Bytes.{Sound, view}
use Rattle.memory.specs.View.{view_sound}

-- of n bytes in a cell: whole cells fill display memory, and a byte is replaced alone
pub record CellLaws {C : Type 0} (n : ℕ) (byte : C → ℕ → ℕ) (with_byte : C → ℕ → ℕ → C) : Type 0 where
  pub some : 0 < n
  pub fills : n * (16777216 / n) ≡ 16777216
  pub here : (c : C) (a v : ℕ) → v < 256 → byte (with_byte c a v) a ≡ v
  pub there : (c : C) (a v k : ℕ) → v < 256 → k / n ≡ a / n → k ≢ a → byte (with_byte c a v) k ≡ byte c k

-- the byte at an address, of the cell that has it
abbrev pub in_cells : {C : Type 0} → ℕ → (C → ℕ → ℕ) → List C → ℕ → ℕ
in_cells n byte cs k = slice_index (map (λ c. byte c k) cs) (k / n)

-- what a block of cells of n bytes shows
abbrev pub of_cells : {C : Type 0} → ℕ → (C → ℕ → ℕ) → List C → List ℕ
of_cells n byte cs = view (min 16777216 (n * length cs)) (in_cells n byte cs)

pub cells_sound : {C : Type 0} (n : ℕ) (byte : C → ℕ → ℕ) (cs : List C) → Sound (of_cells n byte cs)
cells_sound n byte cs = view_sound (min 16777216 (n * length cs)) (in_cells n byte cs) (omega arith)
