-- Calls as plain values.
use Rattle.std.specs.Prelude.{ℕ, List}
use Rattle.panel_calls.specs.declared.Call as code
use Rattle.panel_calls.specs.declared.Call.TheVariants as variant

-- a call with its values, the bytes of a burst as a list
pub data Call : Type 0 where
  write : ℕ → ℕ → Call
  read : ℕ → Call
  burst : List ℕ → Call
  run : ℕ → Call
  stop : Call
  status : Call
  memory : ℕ → Call

abbrev pub call_of : code.Call → Call
call_of (variant.Write r v) = write r v
call_of (variant.Read r) = read r
call_of (variant.Burst bs) = burst bs.now
call_of (variant.Run n) = run n
call_of variant.Stop = stop
call_of variant.Status = status
call_of (variant.Memory a) = memory a
