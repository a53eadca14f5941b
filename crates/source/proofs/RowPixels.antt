-- Pixels of one row of a source: where they lie, and that none is overwritten before it is taken.
use Rattle.std.proofs.Common.{◌≡◌, ℕ, ◌+◌, ◌-◌, ◌*◌, ◌/◌, ◌%◌, ◌<◌, ◌≤◌, ◌⊎◌, max, ◌≢◌, false, eqb, List, ◌++◌, length, get_or, sym, ap, ◌∙◌, ⊎_elim, mod-eq_of_lt, arith}
use Rattle.std.proofs.Math.Nat.{mod-add-mod, mul-add-div_right, add-mul}
use Rattle.std.proofs.lemmas.Bool.Decides.{nat_tests}
use Rattle.std.proofs.lemmas.Bool.{cases_eq}
use Rattle.std.proofs.lemmas.List.{get_or_append_left}
use Rattle.std.proofs.lemmas.Nat.{mul-le, le-div, mod_below, div-mul-add, mod-mul-add, div-add-mod'}
use Rattle.window.specs.declared.area.Area.{Area}
use Rattle.window.specs.declared.window.Window.{Window}
use Rattle.window.specs.Places.{area_of, place, cell}
use Rattle.window.proofs.Limits.{limits_of}
use Rattle.window.specs.Values.{value_at}
use Rattle.window.proofs.Rows.{row_beside}
use Rattle.window.proofs.Spans.{value_same}
use Rattle.source.proofs.Repeating.{byte_in_row}
use Rattle.source.specs.declared.rows.BitRows.{BitRows}
use Rattle.source.proofs.Reaches.{unit_some, unit_whole}
use Rattle.source.specs.Rows.{Rows, rows_of, row_units, depth_in_row, bit_of, unit_of, unit_address, units_bytes, bit_address}
use Rattle.source.specs.Origins.{Origin, pattern, bits, taken_from, taken}
use Rattle.source.specs.Strips.{Ahead}

-- a later pixel of the same row
module _ (w k i : ℕ) (in_row : k % w + i < w) where
  same_row : (k + i) / w ≡ k / w
  same_row =
      let all : k + i ≡ k / w * w + (k % w + i) = omega (arith, div-add-mod' k w) in
      ap (λ n. n / w) all ∙ div-mul-add (k / w) w (k % w + i) in_row

  later_column : (k + i) % w ≡ k % w + i
  later_column = sym (mod-add-mod k w i) ∙ mod-eq_of_lt in_row

module _ (r : Rows) (k i : ℕ) (in_row : k % r.columns + i < r.columns) where
  depth_more : depth_in_row r (k + i) ≡ depth_in_row r k + i
  depth_more = omega (arith, later_column r.columns k i in_row)

  pub bit_more : bit_of r (k + i) ≡ r.unit - 1 - (depth_in_row r k % r.unit + i) % r.unit
  bit_more = ap (λ x. r.unit - 1 - x % r.unit) depth_more ∙ ap (λ x. r.unit - 1 - x) (sym (mod-add-mod (depth_in_row r k) r.unit i))

  pub unit_more : 1 ≤ r.unit → unit_of r (k + i) ≡ unit_of r k + (depth_in_row r k % r.unit + i) / r.unit
  unit_more some =
      let u = r.unit in
      let d = depth_in_row r k in
      let all : d + i ≡ d / u * u + (d % u + i) = omega (arith, div-add-mod' d u) in
      let units : (d + i) / u ≡ d / u + (d % u + i) / u = ap (λ n. n / u) all ∙ mul-add-div_right some (d / u) (d % u + i) in
      let rows = ap (λ n. n * row_units r) (same_row r.columns k i in_row) in
      let depth = ap (λ n. n / u) depth_more in
      omega arith

  -- where the byte lies that holds its bit
  pub bit_place : 1 ≤ r.unit → (start : ℕ) → bit_address r start (k + i)
      ≡ unit_address r start k + ((depth_in_row r k % r.unit + i) / r.unit * (r.unit / 8) + (r.unit - 1 - (depth_in_row r k % r.unit + i) % r.unit) / 8)
  bit_place some start =
      let u = r.unit in
      let b = u / 8 in
      let d = depth_in_row r k % u in
      let units : unit_of r (k + i) * b ≡ unit_of r k * b + (d + i) / u * b =
      ap (λ x. x * b) (unit_more some) ∙ add-mul (unit_of r k) ((d + i) / u) b in
      let bit : bit_of r (k + i) / 8 ≡ (u - 1 - (d + i) % u) / 8 = ap (λ x. x / 8) bit_more in
      omega arith

  -- a bit that is taken lies in the units of its row's pixels from k on
  pub bit_inside : (start n : ℕ) → 1 ≤ r.unit → 8 * (r.unit / 8) ≡ r.unit → i < n
      → (unit_address r start k ≤ bit_address r start (k + i)) × (bit_address r start (k + i) + 1 ≤ unit_address r start k + units_bytes r k n)
  bit_inside start n some whole h =
      let u = r.unit in
      let b = u / 8 in
      let d = depth_in_row r k % u in
      let e = bit_place some start in
      let below : (d + i) / u + 1 ≤ (d + n + (u - 1)) / u =
      let q : (d + i) / u * u ≤ d + i = omega (arith, div-add-mod' (d + i) u) in
      le-div ((d + i) / u + 1) (d + n + (u - 1)) u some (omega arith) in
      let units = mul-le ((d + i) / u + 1) b ((d + n + (u - 1)) / u) b below (omega arith) in
      (omega arith, omega arith)

-- the pixels of a pattern lie in one of its rows
module _ (a : Area) (across : 1 ≤ a.width) (columns k i : ℕ) (in_row : i < max 1 (columns - k % columns)) where
  -- the cell of pixel k + i, in terms of that of pixel k
  abbrev Later : Type 0
  Later = cell a columns (k + i) ≡ cell a columns k / a.width * a.width + (cell a columns k % a.width + i) % a.width

  later_cell : Later
  later_cell = ⊎_elim none some (cases_eq columns 0)
    where
      none : columns ≡ 0 → Later
      none e = grind (arith, nat_tests)

      some : columns ≢ 0 → Later
      some ne =
          let w = a.width in
          let row = k / columns % a.height in
          let column = k % columns in
          let test : eqb columns 0 ≡ false = grind (arith, nat_tests) in
          let within : column + i < columns = omega arith in
          let below = mod_below column w across in
          rw (test, same_row columns k i within, later_column columns k i within, div-mul-add row w (column % w) below, mod-mul-add row w (column % w) below)
          (ap (λ n. row * w + n) (sym (mod-add-mod column w i)))

  -- where its bytes begin
  pub pattern_place : (b : ℕ)
      → place a b (cell a columns (k + i)) ≡ place a b (cell a columns k / a.width * a.width) + (cell a columns k % a.width + i) % a.width * b
  pattern_place b =
      let w = a.width in
      let q = cell a columns k / w in
      let c = (cell a columns k % w + i) % w in
      let e : q * w ≡ q * w + 0 = omega arith in
      let first : q * w % w ≡ 0 = ap (λ n. n % w) e ∙ mod-mul-add q w 0 across in
      let inside = mod_below (cell a columns k % w + i) w across in
      ap (place a b) later_cell ∙ row_beside a (q * w) c (omega arith) b

  pub pattern_inside : (b : ℕ) → let row = place a b (cell a columns k / a.width * a.width) in
      (row ≤ place a b (cell a columns (k + i))) × (place a b (cell a columns (k + i)) + b ≤ row + a.width * b)
  pattern_inside b =
      let c = (cell a columns k % a.width + i) % a.width in
      let inside = mul-le (c + 1) b a.width b (omega (arith, mod_below (cell a columns k % a.width + i) a.width across)) (omega arith) in
      (omega (arith, pattern_place b), omega (arith, pattern_place b))

-- a value of a pattern, from the bytes of its row again and again
pub pattern_value : (m x rest : List ℕ) (w : Window) (b columns k i cell' start first row : ℕ) → i < max 1 (columns - k % columns) → cell' ≡ cell (area_of w) columns k
    → start ≡ place (area_of w) b (cell' / w.area.width * w.area.width) → first ≡ cell' % w.area.width * b → row ≡ w.area.width * b → i * b + b ≤ length x
    → ((j : ℕ) → j < length x → get_or x j 0 ≡ get_or m (start + (first + j) % row) 0)
    → value_at (x ++ rest) (i * b) b ≡ value_at m (place (area_of w) b (cell (area_of w) columns (k + i))) b
pattern_value m x rest w b columns k i cell' start first row in_row is from part whole fits each =
    let a = area_of w in
    let across = (limits_of w).width_some in
    let c = cell' % a.width in
    let here : place a b (cell a columns (k + i)) ≡ start + (c + i) % a.width * b =
    pattern_place a across columns k i in_row b ∙ ap (λ n. place a b (n / a.width * a.width) + (n % a.width + i) % a.width * b) (sym is)
    ∙ ap (λ n. n + (c + i) % a.width * b) (sym from) in
    value_same (x ++ rest) m (i * b) (place a b (cell a columns (k + i))) b
    (λ t h.
    let byte : (first + (i * b + t)) % row ≡ (c + i) % a.width * b + t =
    ap (λ n. (n + (i * b + t)) % row) part ∙ ap (λ n. (c * b + (i * b + t)) % n) whole ∙ byte_in_row a.width b c i t across h in
    let e : start + (first + (i * b + t)) % row ≡ place a b (cell a columns (k + i)) + t = omega arith in
    get_or_append_left x rest 0 (i * b + t) (omega arith)
    ∙ each (i * b + t) (omega arith)
    ∙ ap (λ n. get_or m n 0) e)

-- pixels that take their bytes within a span that lies apart from all that is written keep ahead
pub ahead_apart : (o : Origin) (k n at b from long : ℕ)
    → ((i : ℕ) → i < n → (from ≤ taken_from o (k + i)) × (taken_from o (k + i) + taken o ≤ from + long))
    → (at + n * b ≤ from) ⊎ (from + long ≤ at) → Ahead o k n at b
ahead_apart o k n at b from long inside apart i h x hx y hy e =
    let t = inside i h in
    let some = mul-le i b n b (omega arith) (omega arith) in
    ⊎_elim (λ p. omega arith) (λ p. omega arith) apart

pub pattern_ahead : (w : Window) (b columns k n at bytes from long first : ℕ) → n ≤ max 1 (columns - k % columns) → first ≡ cell (area_of w) columns k
    → from ≡ place (area_of w) b (first / w.area.width * w.area.width) → long ≡ w.area.width * b
    → (at + n * bytes ≤ from) ⊎ (from + long ≤ at) → Ahead (pattern (area_of w) b columns) k n at bytes
pattern_ahead w b columns k n at bytes from long first few e f g apart =
    let a = area_of w in
    ahead_apart (pattern a b columns) k n at bytes from long
    (λ i h.
    let t = pattern_inside a (limits_of w).width_some columns k i (omega arith) b in
    let row : from ≡ place a b (cell a columns k / a.width * a.width) = f ∙ ap (λ x. place a b (x / a.width * a.width)) e in
    (omega arith, omega arith))
    apart

pub bits_ahead : (q : BitRows) (start k n at bytes from long : ℕ) → n ≤ max 1 (q.columns - k % q.columns) → from ≡ unit_address (rows_of q) start k
    → long ≡ units_bytes (rows_of q) k n → (at + n * bytes ≤ from) ⊎ (from + long ≤ at) → Ahead (bits (rows_of q) start) k n at bytes
bits_ahead q start k n at bytes from long few f g apart =
    ahead_apart (bits (rows_of q) start) k n at bytes from long
    (λ i h.
    let column = mod_below k q.columns q.some in
    let t = bit_inside (rows_of q) k i (omega arith) start n (unit_some q.unit) (omega (arith, unit_whole q.unit)) h in
    (omega arith, omega arith))
    apart
