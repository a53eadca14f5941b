-- The geometry of a window.
use Rattle.std.proofs.Common.{◌≡◌, ℕ, ◌+◌, ◌-◌, ◌*◌, ◌<◌, ◌≤◌, Bool, true, false, cond, eqb, Ok, Err, Result, refl, arith}
use Rattle.std.proofs.lemmas.Nat.{mul-le, div-mul-add, mod-mul-add}
use Rattle.std.proofs.lemmas.Bool.Decides.{nat_tests, when_true, when_false}
use Rattle.std.specs.Bool.{MatchBool}
use Rattle.window.specs.Limits.{within, Within, MadeExactly}
use Rattle.window.specs.declared.area.Area.{Area}
use Rattle.window.specs.declared.window.Window.{Window}
use Rattle.window.specs.Places.{area_of, window_at, place, reach}
use Rattle.window.specs.Geometry.{begins, InRowOrder, Repeats, PixelByte, BytePast, LeastSize}
use Rattle.window.proofs.Limits.{limits_of}

pub in_row_order : (a : Area) (b : ℕ) → InRowOrder a b
unfolding place
in_row_order a b c r h = rw (div-mul-add r a.width c h, mod-mul-add r a.width c h)

pub repeats : (a : Area) (columns : ℕ) → Repeats a columns
repeats a columns c r h =
    let some : eqb columns 0 ≡ false = grind (arith, nat_tests) in
    rw (some, div-mul-add r columns c h, mod-mul-add r columns c h)

-- the end of the last pixel is the least size that holds the window
module _ (a : Area) (across : 1 ≤ a.width) (down : 1 ≤ a.height) where
  pub byte_inside : (b x : ℕ) → PixelByte a b x → x < reach a b
  byte_inside b x p =
      let rows = mul-le (a.top + p.row) a.image (a.top + a.height - 1) a.image (omega (arith, p.in_window)) (omega arith) in
      let i = (a.top + p.row) * a.image + a.left + p.column in
      let all = mul-le (i + 1) b ((a.top + a.height - 1) * a.image + a.left + a.width) b (omega (arith, p.in_row)) (omega arith) in
      omega (arith, p.is, p.in_pixel)

  last_byte : (b : ℕ) → 1 ≤ b → begins a b (a.width - 1) (a.height - 1) + (b - 1) + 1 ≡ reach a b
  last_byte b some =
      let e : a.top + (a.height - 1) ≡ a.top + a.height - 1 = omega arith in
      let i = (a.top + a.height - 1) * a.image + a.left + (a.width - 1) in
      let f : (a.top + a.height - 1) * a.image + a.left + a.width ≡ i + 1 = omega arith in
      rw (e, f) (omega arith)

  pub byte_past : (b size : ℕ) → 1 ≤ b → size < reach a b → BytePast (PixelByte a b) size
  byte_past b size some h = record {
    address = begins a b (a.width - 1) (a.height - 1) + (b - 1);
    meant = record { column = a.width - 1; row = a.height - 1; byte = b - 1; in_row = omega arith; in_window = omega arith; in_pixel = omega arith; is = refl };
    past = omega (arith, last_byte b some);
  }

pub reach_least : (w : Window) (b : ℕ) → 1 ≤ b → LeastSize (PixelByte (area_of w) b) (reach (area_of w) b)
reach_least w b some =
    let l = limits_of w in
    record { holds = byte_inside (area_of w) l.width_some l.height_some b; least = λ s h. byte_past (area_of w) l.width_some l.height_some b s some h }

-- the test passes exactly where the numbers are within the limits
abbrev pub WithinExactly : ℕ → Area → Type 0
WithinExactly limit a = MatchBool (within limit a) (Within limit a) (Within limit a → ⊥)

pub within_exactly : (limit : ℕ) (a : Area) → WithinExactly limit a
within_exactly limit a = by (within limit a) refl
  where
    by : (b : Bool) → within limit a ≡ b → MatchBool b (Within limit a) (Within limit a → ⊥)
    by true e = record {
      image = (grind (arith, nat_tests), grind (arith, nat_tests), grind (arith, nat_tests));
      width = (grind (arith, nat_tests), grind (arith, nat_tests), grind (arith, nat_tests));
      height = (grind (arith, nat_tests), grind (arith, nat_tests), grind (arith, nat_tests));
      left = grind (arith, nat_tests);
      top = grind (arith, nat_tests);
      columns = grind (arith, nat_tests);
    }
    by false e = λ w. grind (arith, nat_tests, w.image, w.width, w.height, w.left, w.top, w.columns)

pub made_exactly : (limit : ℕ) (a : Area) (r : Result Area ℕ) → r ≡ window_at limit a → MadeExactly limit a r
made_exactly limit a r e = rw e (by (within limit a) refl)
  where
    by : (b : Bool) → within limit a ≡ b → MadeExactly limit a (cond b (Ok a) (Err 7))
    by true e = (refl, when_true (Within limit a) (Within limit a → ⊥) e (within_exactly limit a))
    by false e = (refl, when_false (Within limit a) (Within limit a → ⊥) e (within_exactly limit a))
