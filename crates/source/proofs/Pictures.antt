-- The laws of one-bit pictures.
use Rattle.std.proofs.Common.{◌≡◌, ℕ, ◌+◌, ◌-◌, ◌*◌, ◌/◌, ◌%◌, ◌<◌, ◌≤◌, Bool, true, false, cond, nat_lt, Ok, Err, Result, inl, inr, sym, ap, ◌∙◌, refl, ⊎_elim, mul_comm, arith}
use Rattle.std.proofs.lemmas.Nat.{mul-le, mod_below, div_below, div-mul-add, mod-mul-add, div-add-mod', le-div}
use Rattle.std.proofs.lemmas.Bool.{cases_lt, ltb-true, ltb-false}
use Rattle.std.proofs.Math.Nat.{lt-div-mul-add, div-mul-le_self}
use Rattle.window.specs.Geometry.{BytePast}
use Rattle.source.specs.declared.rows.BitRows.{BitRows}
use Rattle.source.proofs.Reaches.{unit_some}
use Rattle.source.specs.Rows.{Rows, rows_of, rows_at, RowsMade, row_units, depth_in_row, unit_of, unit_pixels, rows_reach}
use Rattle.source.specs.Meanings.{away}
use Rattle.source.specs.Pictures.{Away, BitsInRowOrder, FewestUnits, GivesItsOwn, UnitByte, unit_begins}

module _ (r : Rows) where
  depth_of : (c row n d : ℕ) → Away r c n d → depth_in_row r (row * r.columns + c) ≡ n * r.unit + d
  depth_of c row n d a = rw (mod-mul-add row r.columns c a.in_row) a.is

  pub bits_in_row_order : BitsInRowOrder r
  bits_in_row_order c row n d a = record {
    bit = ap (λ x. r.unit - 1 - x % r.unit) (depth_of c row n d a) ∙ ap (λ x. r.unit - 1 - x) (mod-mul-add n r.unit d a.bits);
    unit =
        ap (λ x. (row * r.columns + c) / r.columns * row_units r + x / r.unit) (depth_of c row n d a)
        ∙ ap (λ x. (row * r.columns + c) / r.columns * row_units r + x) (div-mul-add n r.unit d a.bits)
        ∙ ap (λ x. x * row_units r + n) (div-mul-add row r.columns c a.in_row);
  }

  module _ (some : 1 ≤ r.unit) where
    -- where column c lies
    pub away_in : (c : ℕ) → c < r.columns → Away r c (away r c / r.unit) (away r c % r.unit)
    away_in c h = record { in_row = h; bits = mod_below (away r c) r.unit some; is = sym (div-add-mod' (away r c) r.unit) }

    pub fewest_units : FewestUnits r (row_units r)
    fewest_units =
        let x = r.columns + (r.unit - 1 - r.start) in
        let low : x + (r.unit - 1) < (x + (r.unit - 1)) / r.unit * r.unit + r.unit = lt-div-mul-add some in
        record {
          enough = omega arith;
          fewest = λ m h. let q = div_below (x + (r.unit - 1)) r.unit (m + 1) some (omega arith) in omega arith;
        }

    module _ (across : 1 ≤ r.columns) where
      -- where pixel k lies
      away_of : (k : ℕ) → Away r (k % r.columns) (depth_in_row r k / r.unit) (depth_in_row r k % r.unit)
      away_of k = record {
        in_row = mod_below k r.columns across;
        bits = mod_below (depth_in_row r k) r.unit some;
        is = sym (div-add-mod' (depth_in_row r k) r.unit);
      }

      -- a unit that a pixel is away is one of its row
      pub unit_below : (c n d : ℕ) → Away r c n d → n < row_units r
      unit_below c n d a =
          ⊎_elim (λ h. h) (λ h. let m = mul-le (row_units r) r.unit n r.unit h (omega arith) in absurd (omega (arith, fewest_units.enough, a.is, a.in_row))) (cases_lt n (row_units r))

      pub unit_at : (c row n d k : ℕ) → Away r c n d → k ≡ row * r.columns + c → unit_of r k ≡ row * row_units r + n
      unit_at c row n d k a e = ap (unit_of r) e ∙ (bits_in_row_order c row n d a).unit

      -- past the pixels that a unit gives lies the next unit
      pub next_unit : (k : ℕ) → unit_of r (k + unit_pixels r k) ≡ unit_of r k + 1
      next_unit k =
          let w = r.columns in
          let u = r.unit in
          let c = k % w in
          let row = k / w in
          let n = depth_in_row r k / u in
          let d = depth_in_row r k % u in
          let a = away_of k in
          let here = div-add-mod' k w in
          let low = unit_below c n d a in
          ⊎_elim
          (λ (h : c + (u - d) < w).
          let e : k + unit_pixels r k ≡ row * w + (c + (u - d)) = omega (arith, a.bits) in
          unit_at (c + (u - d)) row (n + 1) 0 (k + unit_pixels r k) (record { in_row = h; bits = some; is = omega (arith, a.is, a.bits) }) e ∙ omega arith)
          (λ (h : w ≤ c + (u - d)).
          let e : k + unit_pixels r k ≡ (row + 1) * w + 0 = omega (arith, a.bits, a.in_row) in
          let all = fewest_units.fewest (n + 1) (omega (arith, a.is, a.bits)) in
          unit_at 0 (row + 1) 0 (u - 1 - r.start) (k + unit_pixels r k) (record { in_row = across; bits = omega arith; is = omega arith }) e ∙ omega arith)
          (cases_lt (c + (u - d)) w)

      -- a later pixel lies in no earlier unit
      pub units_rise : (j k : ℕ) → unit_of r k ≤ unit_of r (k + j)
      units_rise j k =
          let w = r.columns in
          let u = r.unit in
          let l = k + j in
          let a = away_of k in
          let b = away_of l in
          let hk = div-add-mod' k w in
          let hl = div-add-mod' l w in
          ⊎_elim
          (λ (h : k / w < l / w).
          let rows = mul-le (k / w + 1) (row_units r) (l / w) (row_units r) (omega arith) (omega arith) in
          omega (arith, unit_below _ _ _ a))
          (λ (h : l / w ≤ k / w).
          let rows = le-div (k / w) l w across (omega arith) in
          let same : k / w ≡ l / w = omega arith in
          let later : depth_in_row r k ≤ depth_in_row r l = omega (arith, ap (λ x. x * w) same) in
          let units = le-div (depth_in_row r k / u) (depth_in_row r l) u some (omega (arith, div-mul-le_self (depth_in_row r k) u)) in
          omega (arith, ap (λ x. x * row_units r) same))
          (cases_lt (k / w) (l / w))

      pub gives_its_own : (k : ℕ) → GivesItsOwn r k (unit_pixels r k)
      gives_its_own k =
          let w = r.columns in
          let u = r.unit in
          let c = k % w in
          let row = k / w in
          let n = depth_in_row r k / u in
          let d = depth_in_row r k % u in
          let a = away_of k in
          let here = div-add-mod' k w in
          record {
            own = λ j h. unit_at (c + j) row n (d + j) (k + j) (record { in_row = omega (arith, a.in_row); bits = omega (arith, a.bits); is = omega (arith, a.is) }) (omega arith);
            others = λ j e.
                ⊎_elim (λ h. h)
                (λ (h : unit_pixels r k ≤ j).
                let s = unit_pixels r k in
                let i : k + j ≡ k + s + (j - s) = omega arith in
                let later = units_rise (j - s) (k + s) in
                absurd (omega (arith, next_unit k, e, ap (unit_of r) i)))
                (cases_lt j (unit_pixels r k));
          }

      -- the last byte of the last row's last unit is the one before the reach
      module _ (start height : ℕ) where
        pub unit_inside_reach : (x : ℕ) → UnitByte r start height x → x < rows_reach r start height
        unit_inside_reach x b =
            let w = r.unit / 8 in
            let n = unit_below b.column b.unit b.bit b.holds in
            let rows = mul-le (b.row + 1) (row_units r) height (row_units r) (omega (arith, b.in_rows)) (omega arith) in
            let all = mul-le (b.row * row_units r + b.unit + 1) w (row_units r * height) w (omega (arith, mul_comm (row_units r) height)) (omega arith) in
            omega (arith, b.is, b.in_unit)

        module _ (down : 1 ≤ height) (whole : 1 ≤ r.unit / 8) where
          pub unit_past_size : (size : ℕ) → size < rows_reach r start height → BytePast (UnitByte r start height) size
          unit_past_size size h =
              let x = r.columns - 1 + (r.unit - 1 - r.start) in
              let w = r.unit / 8 in
              let n = x / r.unit in
              let g = height - 1 in
              let a : Away r (r.columns - 1) n (x % r.unit) = record { in_row = omega arith; bits = mod_below x r.unit some; is = sym (div-add-mod' x r.unit) } in
              let above = unit_below (r.columns - 1) n (x % r.unit) a in
              let below = fewest_units.fewest (n + 1) (omega (arith, a.is, a.bits)) in
              let last : n + 1 ≡ row_units r = omega arith in
              let e : height ≡ g + 1 = omega arith in
              let units : g * row_units r + n + 1 ≡ row_units r * height = omega (arith, ap (λ y. row_units r * y) e, mul_comm (row_units r) g) in
              let bytes = ap (λ y. y * w) units in
              record {
                address = unit_begins r start g n + (w - 1);
                meant = record { column = r.columns - 1; row = g; unit = n; bit = x % r.unit; byte = w - 1; holds = a; in_rows = omega arith; in_unit = omega arith; is = refl };
                past = omega arith;
              }

-- the same of rows that exist
pub row_fewest : (b : BitRows) → FewestUnits (rows_of b) (row_units (rows_of b))
row_fewest b = fewest_units (rows_of b) (unit_some b.unit)

pub row_gives : (b : BitRows) (k : ℕ) → GivesItsOwn (rows_of b) k (unit_pixels (rows_of b) k)
row_gives b k = gives_its_own (rows_of b) (unit_some b.unit) b.some k

pub rows_made : (r : Rows) (x : Result Rows ℕ) → x ≡ rows_at r → RowsMade r x
rows_made r x e = rw e (by (nat_lt r.start r.unit) (nat_lt 0 r.columns) refl refl)
  where
    by : (b c : Bool) → nat_lt r.start r.unit ≡ b → nat_lt 0 r.columns ≡ c → RowsMade r (cond b (cond c (Ok r) (Err 7)) (Err 5))
    by true true e f = (refl, ltb-true r.start r.unit e, ltb-true 0 r.columns f)
    by true false e f = let none = ltb-false 0 r.columns f in inr (refl, ltb-true r.start r.unit e, omega arith)
    by false c e f = inl (refl, ltb-false r.start r.unit e)
