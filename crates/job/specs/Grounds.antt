-- The grounds on which a start is declined.
use Rattle.std.specs.Prelude.{ℕ, Bool, true, cond, ◌&&◌, ◌||◌, is_some, Some, None, Ok, Err, Option, Result, nat_le, nat_lt}
use Rattle.refusal.specs.declared.Refusal.{Refusal}
use Rattle.refusal.specs.Numbers.{number_of}
use Rattle.formats.specs.declared.Depth.{Depth}
use Rattle.rules.specs.declared.chosen.Rule.{Rule}
use Rattle.engine.specs.declared.drawing.Drawing.{Drawing}
use Rattle.engine.specs.Inside.{lies_inside}
use Rattle.window.specs.Limits.{within}
use Rattle.window.specs.declared.area.Area.{Area}
use Rattle.source.specs.declared.source.Source.{Source}
use Rattle.source.specs.Origins.{Origin, origin_of}
use Rattle.job.specs.declared.operation.FirstKind.{FirstKind}
use Rattle.job.specs.declared.operation.FirstKind.TheVariants.{Nothing, HostPixels, Pixels, Pattern, HostBits, Bits}
use Rattle.job.specs.declared.settings.Settings.{Settings}
use Rattle.job.specs.Operations.{operation_at, first_kind, uses_second, blends, either}
use Rattle.job.specs.Plans.{area_at, unit_at, side_of, Plan, plan_of, plan_at, op_at}

-- 4: pixels have any depth, 0 to 3; one-bit units only depths 0 and 1
abbrev pub depth_taken : FirstKind → ℕ → Bool
depth_taken Nothing d = true
depth_taken HostPixels d = nat_le d 3
depth_taken Pixels d = nat_le d 3
depth_taken Pattern d = nat_le d 3
depth_taken HostBits d = nat_le d 1
depth_taken Bits d = nat_le d 1

-- 4: a second source that is used has kind 0 to 2, and for a blend also 4 or 5
abbrev pub kind_taken : ℕ → ℕ → Bool
kind_taken n k = cond (uses_second n) (nat_le k 2 || (blends n && either 4 5 k)) true

abbrev pub depths_taken : Settings → ℕ → Bool
depths_taken s n = depth_taken (first_kind n) s.first.depth && (kind_taken n s.second.depth && nat_le s.target.depth 3)

-- 5: the start bit of an expansion is below the bits of its unit
abbrev pub start_fits : Settings → FirstKind → Bool
start_fits s Nothing = true
start_fits s HostPixels = true
start_fits s Pixels = true
start_fits s Pattern = true
start_fits s HostBits = nat_lt s.code (unit_at s.first.depth)
start_fits s Bits = nat_lt s.code (unit_at s.first.depth)

-- 6: the level register is at most 32 where a blend uses it
abbrev pub level_fits : Settings → ℕ → Bool
level_fits s n = cond (blends n && nat_le s.second.depth 2) (nat_le s.level 32) true

-- 7: windows lie within their limits
abbrev pub limited : Area → Bool
limited a = within 8191 a

abbrev pub first_limited : Settings → FirstKind → Bool
first_limited s Nothing = true
first_limited s HostPixels = true
first_limited s Pixels = limited (area_at s.first s.width s.height)
first_limited s Pattern = limited (area_at s.first (side_of s) (side_of s))
first_limited s HostBits = nat_lt 0 s.width
first_limited s Bits = nat_lt 0 s.width

abbrev pub second_limited : Settings → Bool → Bool
second_limited s used = cond used (limited (area_at s.second s.width s.height)) true

abbrev pub all_limited : Settings → ℕ → Bool
all_limited s n =
    first_limited s (first_kind n) && (second_limited s (uses_second n) && limited (area_at s.target s.width s.height))

-- 8: sources and destination lie inside a memory of some size
abbrev pub inside : Plan → ℕ → Bool
inside p size = lies_inside (op_at p) size

-- the lowest number whose test fails, of the tests 3 to 8
abbrev pub lowest : Bool → Bool → Bool → Bool → Bool → Bool → Option ℕ
lowest t3 t4 t5 t6 t7 t8 =
    cond t3 (cond t4 (cond t5 (cond t6 (cond t7 (cond t8 None (Some 8)) (Some 7)) (Some 6)) (Some 5)) (Some 4)) (Some 3)

-- the lowest ground against a start over a memory of some size, if there is one
abbrev pub grounds : Settings → ℕ → Option ℕ
grounds s size =
    lowest (is_some (operation_at s.operation)) (depths_taken s s.operation) (start_fits s (first_kind s.operation))
    (level_fits s s.operation) (all_limited s s.operation) (inside (plan_at s) size)

-- a source or a drawing that was made, or the number of a refusal
abbrev pub source_shown : Result Source Refusal → Result Origin ℕ
source_shown (Ok x) = Ok (origin_of x)
source_shown (Err e) = Err (number_of e)

abbrev pub plan_shown : Result (Drawing Rule Depth) Refusal → Result Plan ℕ
plan_shown (Ok d) = Ok (plan_of d)
plan_shown (Err e) = Err (number_of e)

-- what passes a test, or the number of the test
abbrev pub tested : {A : Type 0} → ℕ → Bool → A → Result A ℕ
tested n b x = cond b (Ok x) (Err n)

-- what passes its test, or 7
abbrev pub or_7 : {A : Type 0} → Bool → A → Result A ℕ
or_7 b x = tested 7 b x

-- what a start answers: the plan, or the ground against it
abbrev pub outcome : {A : Type 0} → Option ℕ → A → Result A ℕ
outcome None x = Ok x
outcome (Some n) x = Err n
