-- What a source takes from memory ends within its reach.
use Rattle.std.proofs.Common.{◌≡◌, ℕ, ◌+◌, ◌-◌, ◌*◌, ◌/◌, ◌%◌, ◌<◌, ◌≤◌, min, mul_comm, div-mul-le_self, arith}
use Rattle.std.proofs.lemmas.Nat.{mul-le, div_below, mod_below, le-div}
use Rattle.window.specs.Places.{area_of, cell}
use Rattle.window.proofs.Limits.{limits_of}
use Rattle.window.proofs.Places.{place_inside, cell_below}
use Rattle.source.specs.declared.source.Source.{Source}
use Rattle.source.specs.declared.source.Source.TheVariants.{Unused, Host, HostBits, Image, Pattern, Bits}
use Rattle.source.specs.declared.rows.Unit.{Unit}
use Rattle.source.specs.declared.rows.Unit.TheVariants.{Eight, Sixteen}
use Rattle.source.specs.Units.{unit_bits}
use Rattle.source.specs.Rows.{Rows, rows_of, row_units, depth_in_row, bit_of, unit_of, bit_address}
use Rattle.source.specs.Origins.{origin_of}
use Rattle.source.specs.Reaches.{TakenInside}

module _ (r : Rows) (some : 1 ≤ r.unit) (across : 1 ≤ r.columns) where
  -- a pixel's unit is one of its row
  unit_in_row : (k : ℕ) → depth_in_row r k / r.unit + 1 ≤ row_units r
  unit_in_row k =
      let u = r.unit in
      let d = depth_in_row r k in
      let column = mod_below k r.columns across in
      let below = div-mul-le_self d u in
      le-div (d / u + 1) (r.columns + (u - 1 - r.start) + (u - 1)) u some (omega arith)

  -- and of the rectangle
  pub unit_inside : (height k : ℕ) → k < r.columns * height → unit_of r k + 1 ≤ row_units r * height
  unit_inside height k h =
      let row = div_below k r.columns height across (omega (arith, mul_comm r.columns height)) in
      let rows = mul-le (k / r.columns + 1) (row_units r) height (row_units r) (omega arith) (omega arith) in
      omega (arith, unit_in_row k, mul_comm (row_units r) height)

  bit_inside : (start height k : ℕ) → r.unit % 8 ≡ 0 → k < r.columns * height → bit_address r start k + 1 ≤ start + row_units r * height * (r.unit / 8)
  bit_inside start height k whole h =
      let w = r.unit / 8 in
      let byte : bit_of r k / 8 + 1 ≤ w = omega arith in
      let all = mul-le (unit_of r k + 1) w (row_units r * height) w (unit_inside height k h) (omega arith) in
      omega arith

pub unit_some : (u : Unit) → 1 ≤ unit_bits u
unit_some Eight = omega arith
unit_some Sixteen = omega arith

pub unit_whole : (u : Unit) → unit_bits u % 8 ≡ 0
unit_whole Eight = omega arith
unit_whole Sixteen = omega arith

-- units of bits, rounded up
pub rounded_up : (u : Unit) (x : ℕ) → x / unit_bits u + min 1 (x % unit_bits u) ≡ (x + (unit_bits u - 1)) / unit_bits u
rounded_up Eight x = omega arith
rounded_up Sixteen x = omega arith

pub taken_inside : (s : Source) (height : ℕ) → TakenInside (origin_of s) height
taken_inside Unused height k h = omega arith
taken_inside (Host _) height k h = omega arith
taken_inside (HostBits _) height k h = omega arith
taken_inside (Image w s) height k h = let l = limits_of w in place_inside (area_of w) l.width_some s.bytes k l.height_some h
taken_inside (Pattern w s columns) height k h =
    let l = limits_of w in
    let a = area_of w in
    place_inside a l.width_some s.bytes (cell a columns k) l.height_some (cell_below a l.width_some columns k l.height_some)
taken_inside (Bits b start) height k h = bit_inside (rows_of b) (unit_some b.unit) b.some start height k (unit_whole b.unit) h
