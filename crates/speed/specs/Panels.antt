-- What register writes, and then a run or bytes, do to a panel, however the bytes are cut into bursts.
use Rattle.std.specs.Prelude.{ℕ, min, cond, List, [], ◌∷◌, length, is_ok, Ok, Err, Result, ◌==◌}
use Rattle.std.specs.Result.{result_unwrap_or}
use Rattle.panel.specs.State.{State, answer_of, after_of, written, burst_answer, burst_after, run_answer, run_after}
use Rattle.speed.specs.declared.settings.RegisterWrite.{RegisterWrite}

-- a panel after some calls, and their answer
pub record Called : Type 0 where
  pub answer : Result Unit ℕ
  pub state : State

-- writes in order, up to the first that is declined
abbrev pub after_writes : State → List RegisterWrite → Called
after_writes s [] = record { answer = Ok tt; state = s }
after_writes s (w ∷ ws) =
    cond (is_ok (written s w.register w.value))
    (after_writes (after_of s (written s w.register w.value)) ws)
    (record { answer = answer_of (written s w.register w.value); state = s })

-- bytes, if there are any
abbrev pub sent_after : State → List ℕ → State
sent_after s [] = s
sent_after s (x ∷ xs) = burst_after s s.doing (x ∷ xs)

-- the pixels that they draw, none where they are declined
abbrev pub burst_pixels : State → List ℕ → ℕ
burst_pixels s xs = (result_unwrap_or (burst_answer s s.doing xs) (0, 0)).1

abbrev pub sent_pixels : State → List ℕ → ℕ
sent_pixels s [] = 0
sent_pixels s (x ∷ xs) = burst_pixels s (x ∷ xs)

-- with no byte to send, a run up to the last pixel
abbrev pub moved_answer : State → List ℕ → Result ℕ ℕ
moved_answer s xs = cond (length xs == 0) (run_answer s s.doing 4294967295) (Ok (min (sent_pixels s xs) 4294967295))

abbrev pub moved_after : State → List ℕ → State
moved_after s xs = cond (length xs == 0) (run_after s s.doing 4294967295) (sent_after s xs)

-- no more is done after a write that was declined
abbrev pub answer_after : Result Unit ℕ → Result ℕ ℕ → Result ℕ ℕ
answer_after (Ok _) r = r
answer_after (Err n) r = Err n

abbrev pub panel_answer : State → List RegisterWrite → List ℕ → Result ℕ ℕ
panel_answer s ws xs = answer_after (after_writes s ws).answer (moved_answer (after_writes s ws).state xs)

abbrev pub panel_after : State → List RegisterWrite → List ℕ → State
panel_after s ws xs =
    cond (is_ok (after_writes s ws).answer) (moved_after (after_writes s ws).state xs) (after_writes s ws).state
