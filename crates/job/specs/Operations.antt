-- The codes of the operations, and what each takes.
use Rattle.std.specs.Prelude.{◌≡◌, ℕ, Bool, cond, ◌||◌, Some, None, Option, Result, IfOk, ◌==◌}
use Rattle.std.specs.Option.{ok_or}
use Rattle.refusal.specs.declared.Refusal.{Refusal}
use Rattle.refusal.specs.declared.Refusal.TheVariants.{NoSuchOperation}
use Rattle.job.specs.declared.operation.Operation.{Operation}
use Rattle.job.specs.declared.operation.Operation.TheVariants as operation
use Rattle.job.specs.declared.operation.FirstKind.{FirstKind}
use Rattle.job.specs.declared.operation.FirstKind.TheVariants.{Nothing, HostPixels, Pixels, Pattern, HostBits, Bits}

abbrev pub code_of : Operation → ℕ
code_of operation.RasterFromHost = 0
code_of operation.RasterFromMemory = 2
code_of operation.KeyFromHost = 4
code_of operation.KeyFromMemory = 5
code_of operation.PatternRaster = 6
code_of operation.PatternKey = 7
code_of operation.ExpandFromHost = 8
code_of operation.ExpandOverFromHost = 9
code_of operation.BlendFromMemory = 10
code_of operation.BlendFromHost = 11
code_of operation.Fill = 12
code_of operation.ExpandFromMemory = 14
code_of operation.ExpandOverFromMemory = 15

-- the operation with a code; 1, 3, 13 and everything above 15 are none
abbrev pub operation_at : ℕ → Option Operation
operation_at n =
    cond (n == 0) (Some operation.RasterFromHost)
    (cond (n == 2) (Some operation.RasterFromMemory)
    (cond (n == 4) (Some operation.KeyFromHost)
    (cond (n == 5) (Some operation.KeyFromMemory)
    (cond (n == 6) (Some operation.PatternRaster)
    (cond (n == 7) (Some operation.PatternKey)
    (cond (n == 8) (Some operation.ExpandFromHost)
    (cond (n == 9) (Some operation.ExpandOverFromHost)
    (cond (n == 10) (Some operation.BlendFromMemory)
    (cond (n == 11) (Some operation.BlendFromHost)
    (cond (n == 12) (Some operation.Fill)
    (cond (n == 14) (Some operation.ExpandFromMemory)
    (cond (n == 15) (Some operation.ExpandOverFromMemory) None))))))))))))

-- what is told of a code: the operation that has it, or that there is none
pub record Decodes (n : ℕ) (r : Result Operation Refusal) : Type 0 where
  pub is : r ≡ ok_or (operation_at n) NoSuchOperation
  pub code : IfOk r (λ o. code_of o ≡ n)

-- n is one of two or three codes
abbrev pub either : ℕ → ℕ → ℕ → Bool
either a b n = n == a || n == b

abbrev pub any : ℕ → ℕ → ℕ → ℕ → Bool
any a b c n = n == a || (n == b || n == c)

-- where the first source comes from
abbrev pub first_kind : ℕ → FirstKind
first_kind n =
    cond (any 0 4 11 n) HostPixels
    (cond (any 2 5 10 n) Pixels
    (cond (either 6 7 n) Pattern
    (cond (either 8 9 n) HostBits
    (cond (either 14 15 n) Bits Nothing))))

abbrev pub blends : ℕ → Bool
blends n = either 10 11 n

-- 0, 2, 6, 10 and 11 use the second source
abbrev pub uses_second : ℕ → Bool
uses_second n = any 0 2 6 n || blends n
