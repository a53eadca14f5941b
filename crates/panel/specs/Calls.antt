-- What each of the seven calls answers, and what it leaves.
use Rattle.std.specs.Prelude.{◌≡◌, ℕ, ◌≤◌, Bool, true, false, cond, List, fold, Some, None, Ok, Err, Option, Result}
use Rattle.memory.specs.Bytes.{read_at}
use Rattle.panel_calls.specs.Calls.{Call}
use Rattle.panel_calls.specs.Calls as call
use Rattle.panel_calls.specs.Replies.{Reply}
use Rattle.panel_calls.specs.Replies as reply
use Rattle.panel.specs.declared.activity.Activity.{Activity}
use Rattle.panel.specs.declared.activity.Activity.TheVariants.{Idle, Drawing, Awaiting, PaletteLoad}
use Rattle.panel.specs.State.{State, fresh, busy, starts, answer_of, after_of, written, register_read, burst_answer, burst_after, run_answer, run_after, stop_answer, stopped, status_of}

abbrev pub answered : State → Call → Reply
answered s (call.write r v) = reply.write (answer_of (written s r v))
answered s (call.read r) = reply.read (register_read s r)
answered s (call.burst xs) = reply.burst (burst_answer s s.doing xs)
answered s (call.run n) = reply.run (run_answer s s.doing n)
answered s call.stop = reply.stop (stop_answer s.doing)
answered s call.status = reply.status (status_of s.doing)
answered s (call.memory a) = reply.memory (read_at s.memory a)

abbrev pub left_by : State → Call → State
left_by s (call.write r v) = after_of s (written s r v)
left_by s (call.read r) = s
left_by s (call.burst xs) = burst_after s s.doing xs
left_by s (call.run n) = run_after s s.doing n
left_by s call.stop = stopped s
left_by s call.status = s
left_by s (call.memory a) = s

-- the number of a refusal, if there is one
abbrev pub refusal_in : {A : Type 0} → Result A ℕ → Option ℕ
refusal_in (Ok _) = None
refusal_in (Err n) = Some n

-- the number by which a call was declined, if it was
abbrev pub declined_by : Reply → Option ℕ
declined_by (reply.write r) = refusal_in r
declined_by (reply.read r) = refusal_in r
declined_by (reply.burst r) = refusal_in r
declined_by (reply.run r) = refusal_in r
declined_by (reply.stop r) = refusal_in r
declined_by (reply.status _) = None
declined_by (reply.memory r) = refusal_in r

-- a declined call leaves the whole state as it was
abbrev pub DeclinedChangesNothing : Option ℕ → State → State → Type 0
DeclinedChangesNothing None s t = Unit {0}
DeclinedChangesNothing (Some n) s t = t ≡ s

-- bytes are awaited, of an operation or a palette
abbrev pub awaiting : Activity → Bool
awaiting Idle = false
awaiting (Drawing _) = false
awaiting (Awaiting _) = true
awaiting (PaletteLoad _) = true

-- an operation that memory serves is under way
abbrev pub drawing : Activity → Bool
drawing Idle = false
drawing (Drawing _) = true
drawing (Awaiting _) = false
drawing (PaletteLoad _) = false

-- the numbers that a call can be declined with, and of a burst, a run and a stop in which states; those from 3 to 8 are of starts alone
abbrev pub OwnNumber : Activity → Call → ℕ → Type 0
OwnNumber d (call.write r v) n = (1 ≤ n) × (n ≤ cond (starts r v) 8 2)
OwnNumber d (call.read r) n = n ≡ 1
OwnNumber d (call.burst xs) n = (awaiting d ≡ false) × (n ≡ 9)
OwnNumber d (call.run k) n = (drawing d ≡ false) × (n ≡ 10)
OwnNumber d call.stop n = (busy d ≡ false) × (n ≡ 11)
OwnNumber d call.status n = ⊥
OwnNumber d (call.memory a) n = n ≡ 12

-- the panel after some calls
abbrev pub ends : State → List Call → State
ends s cs = fold left_by s cs

-- calls left a new panel in this state: so an operation under way was cleared for a memory of this size and has pixels left, which
-- a state by itself need not say
pub record LeftByCalls (s : State) : Type 0 where
  pub memory : List ℕ
  pub made : List Call
  pub is : s ≡ ends (fresh memory) made
