-- What the bench answers to a line, and what the line leaves.
use Rattle.std.specs.Prelude.{ℕ, Some, None, Ok, Err, Option, Result}
use Rattle.panel_calls.specs.Calls.{Call}
use Rattle.panel_calls.specs.Replies as call
use Rattle.panel.specs.State.{State}
use Rattle.panel.specs.Calls.{answered, left_by}
use Rattle.bench_lines.specs.Answers.{Reply, done, byte, count, counts, refused, malformed}

-- what is printed for a result: the value in its form, or the refusal's number
abbrev pub printed_as : {A : Type 0} → (A → Reply) → Result A ℕ → Reply
printed_as form (Ok x) = form x
printed_as form (Err n) = refused n

-- what is printed for the answer of a call
abbrev pub printed : call.Reply → Reply
printed (call.write r) = printed_as (λ _. done) r
printed (call.read r) = printed_as byte r
printed (call.burst r) = printed_as (λ p. counts p.0 p.1) r
printed (call.run r) = printed_as count r
printed (call.stop r) = printed_as count r
printed (call.status v) = byte v
printed (call.memory r) = printed_as byte r

-- a malformed line changes nothing
abbrev pub line_reply : State → Option Call → Reply
line_reply s None = malformed
line_reply s (Some c) = printed (answered s c)

abbrev pub line_after : State → Option Call → State
line_after s None = s
line_after s (Some c) = left_by s c
