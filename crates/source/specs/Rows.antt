-- One-bit pictures: which bit of which unit a pixel takes.
use Rattle.std.specs.Prelude.{◌≡◌, ℕ, ◌+◌, ◌-◌, ◌*◌, ◌/◌, ◌%◌, ◌<◌, ◌≤◌, ◌⊎◌, min, if◌then◌else◌, Ok, Err, Result, nat_lt}
use Rattle.refusal.specs.declared.Refusal.{Refusal}
use Rattle.refusal.specs.Numbers.{number_of}
use Rattle.source.specs.declared.rows.BitRows.{BitRows}
use Rattle.source.specs.Units.{unit_bits}

-- rows of bits: the bits of a unit, the start bit, and the pixels of a row
pub record Rows : Type 0 where
  pub unit : ℕ
  pub start : ℕ
  pub columns : ℕ

abbrev pub rows_of : BitRows → Rows
rows_of b = record { unit = unit_bits b.unit; start = b.start_bit; columns = b.columns }

-- the bits of a row's first unit that lie above the start bit
abbrev pub skipped : Rows → ℕ
skipped r = r.unit - 1 - r.start

-- the units of a row: (columns + unit - start - 1) / unit, rounded up
abbrev pub row_units : Rows → ℕ
row_units r = (r.columns + skipped r + (r.unit - 1)) / r.unit

-- how far pixel k lies from the top bit of its row's first unit
abbrev pub depth_in_row : Rows → ℕ → ℕ
depth_in_row r k = k % r.columns + skipped r

-- the bit of its unit that pixel k takes
abbrev pub bit_of : Rows → ℕ → ℕ
bit_of r k = r.unit - 1 - depth_in_row r k % r.unit

-- the unit of pixel k, counted from the first row's first
abbrev pub unit_of : Rows → ℕ → ℕ
unit_of r k = k / r.columns * row_units r + depth_in_row r k / r.unit

-- how many pixels a unit gives whose first pixel is k
abbrev pub unit_pixels : Rows → ℕ → ℕ
unit_pixels r k = min (r.unit - depth_in_row r k % r.unit) (r.columns - k % r.columns)

-- where the unit of pixel k begins, if the rows begin at an address
abbrev pub unit_address : Rows → ℕ → ℕ → ℕ
unit_address r start k = start + unit_of r k * (r.unit / 8)

-- how many bytes the units have that hold n pixels of a row, the first of them being k
abbrev pub units_bytes : Rows → ℕ → ℕ → ℕ
units_bytes r k n = (depth_in_row r k % r.unit + n + (r.unit - 1)) / r.unit * (r.unit / 8)

-- where the byte lies that holds the bit of pixel k, if the rows begin at an address
abbrev pub bit_address : Rows → ℕ → ℕ → ℕ
bit_address r start k = unit_address r start k + bit_of r k / 8

-- the first address past so many rows, if they begin at an address
abbrev pub rows_reach : Rows → ℕ → ℕ → ℕ
rows_reach r start height = start + row_units r * height * (r.unit / 8)

-- rows of bits, or 5 where the start bit is no bit of the unit, or 7 where there are no columns
abbrev pub rows_at : Rows → Result Rows ℕ
rows_at r = if nat_lt r.start r.unit then (if nat_lt 0 r.columns then Ok r else Err 7) else Err 5

abbrev pub shown_rows : Result BitRows Refusal → Result Rows ℕ
shown_rows (Ok b) = Ok (rows_of b)
shown_rows (Err e) = Err (number_of e)

-- rows that are made are those that were asked for, their start bit is a bit of the unit, and they have columns; else 5 is
-- answered where it is none, and 7 where it is one but there are no columns
abbrev pub RowsMade : Rows → Result Rows ℕ → Type 0
RowsMade r (Ok q) = (q ≡ r) × (r.start < r.unit) × (0 < r.columns)
RowsMade r (Err n) = ((n ≡ 5) × (r.unit ≤ r.start)) ⊎ ((n ≡ 7) × (r.start < r.unit) × (r.columns ≡ 0))
