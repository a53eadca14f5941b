-- The last test of a start: whether its bytes lie below the size. And the bytes that an accepted one takes from the host.
use Rattle.std.proofs.Common.{◌≡◌, ℕ, ◌/◌, ◌<◌, ◌≤◌, Bool, true, false, ◌&&◌, cond, Some, None, Option, refl, eqb, arith}
use Rattle.std.proofs.lemmas.Bool.Decides.{nat_tests, when_true, when_false}
use Rattle.window.proofs.Limits.{limits}
use Rattle.window.specs.declared.area.Area.{Area}
use Rattle.window.specs.Limits.{within, Within}
use Rattle.window.proofs.Geometry.{within_exactly}
use Rattle.formats.specs.Depths.{depth_format}
use Rattle.formats.specs.OverlayKinds.{overlay_format}
use Rattle.source.proofs.Meanings.{Proper}
use Rattle.std.specs.Bool.{MatchBool}
use Rattle.window.specs.Geometry.{BytePast}
use Rattle.source.specs.Origins.{awaited}
use Rattle.source.specs.Shapes.{AsWide}
use Rattle.engine.specs.Painted.{Op}
use Rattle.engine.specs.Inside.{OpByte, Covered, InsideExactly}
use Rattle.engine.proofs.Bytes.{inside_exactly}
use Rattle.engine.proofs.Totals.{takes_in_all}
use Rattle.job.specs.declared.operation.FirstKind.{FirstKind}
use Rattle.job.specs.declared.operation.FirstKind.TheVariants as kind
use Rattle.job.specs.declared.settings.Settings.{Settings}
use Rattle.job.specs.Operations.{first_kind, uses_second, either}
use Rattle.job.specs.Plans.{plan_at, op_at, first_at, second_at, area_at, side_of, unit_at, depth_at, overlay_at, kind_bytes, depth_bytes}
use Rattle.job.specs.Grounds.{grounds, inside, first_limited, second_limited, all_limited}
use Rattle.job.specs.Works.{clearing, judged}
use Rattle.job.specs.Bounds.{HostBytes}
use Rattle.job.proofs.Starts.{limited_none}
use Rattle.job.proofs.Bounds.{has_first, has_second}

unit_bytes : (d : ℕ) → (1 ≤ unit_at d) × (1 ≤ unit_at d / 8)
unit_bytes d = by (eqb d 0)
  where
    by : (b : Bool) → (1 ≤ cond b 8 16) × (1 ≤ cond b 8 16 / 8)
    by true = (omega arith, omega arith)
    by false = (omega arith, omega arith)

kind_some : (k : ℕ) → 1 ≤ kind_bytes k
kind_some k = by (either 4 5 k)
  where
    by : (b : Bool) → 1 ≤ cond b (overlay_format (overlay_at k)).width (depth_bytes k)
    by true = (overlay_format (overlay_at k)).some
    by false = (depth_format (depth_at k)).some

pub parts : (x y z : Bool) → (x && (y && z)) ≡ true → (x ≡ true) × (y ≡ true) × (z ≡ true)
parts x y z e = grind arith

-- each byte lies below the size, or one lies past it
abbrev pub BytesExactly : Op → ℕ → Bool → Type 0
BytesExactly o size inside = MatchBool inside ((x : ℕ) → OpByte o x → x < size) (BytePast (OpByte o) size)

by_bytes : (o : Op) (size : ℕ) → Covered o → (b : Bool) → InsideExactly o size b → BytesExactly o size b
by_bytes o size c true i = i.below
by_bytes o size c false i = i c

module _ (s : Settings) where
  proper_first : (k : FirstKind) → first_limited s k ≡ true → Proper (first_at s k)
  proper_first kind.Nothing h = tt
  proper_first kind.HostPixels h = (depth_format (depth_at s.first.depth)).some
  proper_first kind.Pixels h = let l = limits (area_at s.first s.width s.height) h in (l.width_some, l.height_some, (depth_format (depth_at s.first.depth)).some)
  proper_first kind.Pattern h = let l = limits (area_at s.first (side_of s) (side_of s)) h in (l.width_some, l.height_some, (depth_format (depth_at s.first.depth)).some)
  proper_first kind.HostBits h = let u = unit_bytes s.first.depth in (u.0, grind (arith, nat_tests), u.1)
  proper_first kind.Bits h = let u = unit_bytes s.first.depth in (u.0, grind (arith, nat_tests), u.1)

  proper_second : (used : Bool) → second_limited s used ≡ true → Proper (second_at s used)
  proper_second false h = tt
  proper_second true h = let l = limits (area_at s.second s.width s.height) h in (l.width_some, l.height_some, kind_some s.second.depth)

  -- the sources of a start have the rectangle's shape
  as_wide : (k : FirstKind) → AsWide (first_at s k) s.width
  as_wide kind.Nothing = tt
  as_wide kind.HostPixels = tt
  as_wide kind.Pixels = refl
  as_wide kind.Pattern = refl
  as_wide kind.HostBits = refl
  as_wide kind.Bits = refl

  second_wide : (used : Bool) → AsWide (second_at s used) s.width
  second_wide true = refl
  second_wide false = tt

  second_in_memory : (used : Bool) → awaited (second_at s used) ≡ 0
  second_in_memory true = refl
  second_in_memory false = refl

  covered : Covered (op_at (plan_at s))
  covered = record {
    first = record { wide = as_wide (first_kind s.operation); has = has_first s (first_kind s.operation) };
    second = record { wide = second_wide (uses_second s.operation); has = has_second s (uses_second s.operation) };
    in_memory = second_in_memory (uses_second s.operation);
  }

  -- so its bytes alone decide whether it lies inside
  pub exactly : all_limited s s.operation ≡ true → (size : ℕ) → BytesExactly (op_at (plan_at s)) size (inside (plan_at s) size)
  exactly h size =
      let each = parts (first_limited s (first_kind s.operation)) (second_limited s (uses_second s.operation)) _ h in
      let l = limits (area_at s.target s.width s.height) each.2 in
      by_bytes (op_at (plan_at s)) size covered _
      (inside_exactly (op_at (plan_at s)) (proper_first (first_kind s.operation) each.0) (proper_second (uses_second s.operation) each.1) l.width_some l.height_some size)

module _ (s : Settings) (size : ℕ) where
  bytes_by : (o : Option ℕ) → grounds s size ≡ o → HostBytes (judged s size o)
  bytes_by None e = λ p.
      let each = parts (first_limited s (first_kind s.operation)) (second_limited s (uses_second s.operation)) _ (limited_none s size e) in
      takes_in_all (op_at (plan_at s)) p (proper_first s (first_kind s.operation) each.0) (as_wide s (first_kind s.operation))
  bytes_by (Some n) e = tt

  pub host_bytes : HostBytes (clearing s size)
  host_bytes = bytes_by (grounds s size) refl

-- the test of a window's limits
pub is_within : (a : Area) → within 8191 a ≡ true → Within 8191 a
is_within a e = when_true (Within 8191 a) (Within 8191 a → ⊥) e (within_exactly 8191 a)

pub not_within : (a : Area) → within 8191 a ≡ false → Within 8191 a → ⊥
not_within a e = when_false (Within 8191 a) (Within 8191 a → ⊥) e (within_exactly 8191 a)
