-- What a host's calls do to a panel, step by step.
use Rattle.std.specs.Prelude.{ℕ, Bool, cond, not, ◌&&◌, List, is_ok, fold}
use Rattle.complete.specs.Parts.{Portion, feed, run}
use Rattle.panel.specs.State.{State, after_of, busy, written, burst_after, run_after, stopped}
use Rattle.complete_panels.specs.declared.operation.RegisterWrite.{RegisterWrite}
use Rattle.complete_panels.specs.Settings.{is_setting, control_value}

-- a write, a declined one too
abbrev pub left_by_write : State → ℕ → ℕ → State
left_by_write s r v = after_of s (written s r v)

abbrev pub burst_in : State → List ℕ → State
burst_in s xs = burst_after s s.doing xs

-- a palette load is opened, fed, and stopped where the bytes fall short
abbrev pub palette_loaded : State → List ℕ → State
palette_loaded s xs = stopped (burst_in (left_by_write s 0x03 0x03) xs)

abbrev pub one_set : State → RegisterWrite → State
one_set s w = cond (is_setting w.register) (left_by_write s w.register w.value) s

abbrev pub all_set : State → List RegisterWrite → State
all_set s ws = fold one_set s ws

-- a part is a burst or a run
abbrev pub played : State → Portion → State
played s (feed xs) = burst_in s xs
played s (run n) = run_after s s.doing n

abbrev pub all_played : State → List Portion → State
all_played s ps = fold played s ps

-- an accepted start, and then the parts; a declined one leaves the panel as it was
abbrev pub performed : State → Bool → List Portion → State
performed s large ps = cond (is_ok (written s 0x90 (control_value large))) (all_played (left_by_write s 0x90 (control_value large)) ps) s

-- whether the start is accepted, and nothing is under way after the parts
abbrev pub finished : State → Bool → List Portion → Bool
finished s large ps = is_ok (written s 0x90 (control_value large)) && not (busy (performed s large ps).doing)
