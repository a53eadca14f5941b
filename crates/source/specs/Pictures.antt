-- One-bit pictures by column and row: which bit of which unit a pixel takes, and which pixels a unit gives.
use Rattle.std.specs.Prelude.{◌≡◌, ℕ, ◌+◌, ◌-◌, ◌*◌, ◌/◌, ◌<◌, ◌≤◌}
use Rattle.source.specs.Rows.{Rows, row_units, bit_of, unit_of}

-- column c of a row is n units and d bits away from the top bit of the row's first unit, the row beginning at the start bit
pub record Away (r : Rows) (c n d : ℕ) : Type 0 where
  pub in_row : c < r.columns
  pub bits : d < r.unit
  pub is : c + (r.unit - 1 - r.start) ≡ n * r.unit + d

-- so it is that bit of that unit of its row, and the rows follow one another without gaps
pub record TakesBit (r : Rows) (c row n d : ℕ) : Type 0 where
  pub bit : bit_of r (row * r.columns + c) ≡ r.unit - 1 - d
  pub unit : unit_of r (row * r.columns + c) ≡ row * row_units r + n

abbrev pub BitsInRowOrder : Rows → Type 0
BitsInRowOrder r = (c row n d : ℕ) → Away r c n d → TakesBit r c row n d

-- n units are enough for a row, and no fewer are
pub record FewestUnits (r : Rows) (n : ℕ) : Type 0 where
  pub enough : r.columns + (r.unit - 1 - r.start) ≤ n * r.unit
  pub fewest : (m : ℕ) → r.columns + (r.unit - 1 - r.start) ≤ m * r.unit → n ≤ m

-- of the pixels from k on, the first n and no others lie in the unit of pixel k
pub record GivesItsOwn (r : Rows) (k n : ℕ) : Type 0 where
  pub own : (j : ℕ) → j < n → unit_of r (k + j) ≡ unit_of r k
  pub others : (j : ℕ) → unit_of r (k + j) ≡ unit_of r k → j < n

-- where unit n of a row begins, if the rows begin at an address
abbrev pub unit_begins : Rows → ℕ → ℕ → ℕ → ℕ
unit_begins r start row n = start + (row * row_units r + n) * (r.unit / 8)

-- x is a byte of a unit that holds a pixel of so many rows, if they begin at an address
pub record UnitByte (r : Rows) (start height x : ℕ) : Type 0 where
  pub column : ℕ
  pub row : ℕ
  pub unit : ℕ
  pub bit : ℕ
  pub byte : ℕ
  pub holds : Away r column unit bit
  pub in_rows : row < height
  pub in_unit : byte < r.unit / 8
  pub is : x ≡ unit_begins r start row unit + byte
