-- A panel as plain values, and what each call answers and leaves.
use Rattle.std.specs.Prelude.{ℕ, ◌/◌, ◌%◌, Bool, true, false, cond, ◌&&◌, List, [], length, replicate, Ok, Err, Result, ◌==◌, bit_and, bit_or, slice_index, slice_set}
use Rattle.colour.specs.declared.Palette.{Palette}
use Rattle.palette_load.specs.Loads.{Load, Loading, loading, unfinished, loaded_by, bytes_taken}
use Rattle.job.specs.Works as job
use Rattle.job.specs.Works.{Work, Clearing, cleared, declined, clearing, serves, awaits, runs, at_stage, run_stage, fed_stage}
use Rattle.panel.specs.declared.activity.Activity.{Activity}
use Rattle.panel.specs.declared.activity.Activity.TheVariants.{Idle, Drawing, Awaiting, PaletteLoad}
use Rattle.panel.specs.declared.panel.Panel.{Panel}
use Rattle.panel.specs.Registers.{exists, settings_of}

pub record State : Type 0 where
  pub memory : List ℕ
  pub registers : List ℕ
  pub palette : Palette
  pub doing : Activity

abbrev pub seen : {M : Type 0} → (M → List ℕ) → Panel M → State
seen bytes p = record {
  memory = bytes p.memory;
  registers = p.registers.places;
  palette = p.palette;
  doing = p.activity;
}

-- a new panel: all registers and palette entries zero, nothing under way
abbrev pub fresh : List ℕ → State
fresh m = record { memory = m; registers = replicate 256 0; palette = record { entries = replicate 64 0 }; doing = Idle }

abbrev pub busy : Activity → Bool
busy Idle = false
busy (Drawing _) = true
busy (Awaiting _) = true
busy (PaletteLoad _) = true

abbrev pub with_doing : State → Activity → State
with_doing s d = record { memory = s.memory; registers = s.registers; palette = s.palette; doing = d }

-- a call that succeeds leads to another state; a declined one has a number alone
abbrev pub answer_of : Result State ℕ → Result Unit ℕ
answer_of (Ok _) = Ok tt
answer_of (Err n) = Err n

abbrev pub after_of : State → Result State ℕ → State
after_of s (Ok t) = t
after_of s (Err _) = s

-- 90h is stored without bit 4
abbrev pub kept : ℕ → ℕ → ℕ
kept r v = cond (r == 0x90) (bit_and v 0xEF) v

abbrev pub with_register : State → ℕ → ℕ → State
with_register s r v = record { memory = s.memory; registers = slice_set s.registers r (kept r v); palette = s.palette; doing = s.doing }

-- a write of 90h with bit 4 starts an operation
abbrev pub starts : ℕ → ℕ → Bool
starts r v = r == 0x90 && v / 16 % 2 == 1

-- a write of 03h whose bits 1 and 0 are set opens a palette load
abbrev pub opens : ℕ → ℕ → Bool
opens r v = r == 0x03 && v % 4 == 3

-- an operation that was begun: the host serves it, or memory does
abbrev pub under_way : Work → Activity
under_way w = cond (awaits w) (Awaiting w) (Drawing w)

abbrev pub started_in : State → Clearing → Result State ℕ
started_in s (cleared w) = Ok (with_doing s (under_way w))
started_in s (declined _ n) = Err n

-- a start by a write of register r
abbrev pub started : State → ℕ → ℕ → Result State ℕ
started s r v = started_in (with_register s r v) (clearing (settings_of s.registers v) (length s.memory))

-- a load of which no byte has come
abbrev pub new_load : Load
new_load = record { entries = 0; waiting = [] }

abbrev pub written : State → ℕ → ℕ → Result State ℕ
written s r v =
    cond (exists r)
    (cond (busy s.doing) (Err 2)
    (cond (starts r v) (started s r v)
    (Ok (cond (opens r v) (with_doing (with_register s r v) (PaletteLoad new_load)) (with_register s r v)))))
    (Err 1)

-- 90h reads with bit 4 while an operation is under way
abbrev pub shown : Activity → ℕ → ℕ → ℕ
shown Idle r v = v
shown (Drawing _) r v = cond (r == 0x90) (bit_or v 0x10) v
shown (Awaiting _) r v = cond (r == 0x90) (bit_or v 0x10) v
shown (PaletteLoad _) r v = v

abbrev pub register_read : State → ℕ → Result ℕ ℕ
register_read s r = cond (exists r) (Ok (shown s.doing r (slice_index s.registers r))) (Err 1)

abbrev pub run_answer : State → Activity → ℕ → Result ℕ ℕ
run_answer s Idle n = Err 10
run_answer s (Drawing w) n = job.run_answer w s.memory n
run_answer s (Awaiting _) n = Err 10
run_answer s (PaletteLoad _) n = Err 10

-- an operation ends with its last pixel
abbrev pub still_drawing : Work → Activity
still_drawing w = cond (runs w) (Drawing w) Idle

abbrev pub ran : State → Work → ℕ → State
ran s w n = record {
  memory = (run_stage w s.palette s.memory n).memory;
  registers = s.registers;
  palette = s.palette;
  doing = still_drawing (at_stage w (run_stage w s.palette s.memory n));
}

abbrev pub run_after : State → Activity → ℕ → State
run_after s Idle n = s
run_after s (Drawing w) n = cond (serves w s.memory && runs w) (ran s w n) s
run_after s (Awaiting _) n = s
run_after s (PaletteLoad _) n = s

-- an operation that the host serves awaits bytes up to its last pixel
abbrev pub still_awaiting : Work → Activity
still_awaiting w = cond (awaits w) (Awaiting w) Idle

abbrev pub fed_in : State → Work → List ℕ → State
fed_in s w xs = record {
  memory = (fed_stage w s.palette s.memory xs).memory;
  registers = s.registers;
  palette = s.palette;
  doing = still_awaiting (at_stage w (fed_stage w s.palette s.memory xs));
}

-- a palette load ends with its last entry
abbrev pub still_loading : Loading → Activity
still_loading l = cond (unfinished l.entries) (PaletteLoad (record { entries = l.entries; waiting = l.waiting })) Idle

abbrev pub loaded_in : State → Loading → State
loaded_in s l = record { memory = s.memory; registers = s.registers; palette = l.palette; doing = still_loading l }

-- a burst answers the bytes taken and the pixels drawn; a palette load draws none
abbrev pub burst_answer : State → Activity → List ℕ → Result (ℕ × ℕ) ℕ
burst_answer s Idle xs = Err 9
burst_answer s (Drawing _) xs = Err 9
burst_answer s (Awaiting w) xs = job.feed_answer w s.palette s.memory xs
burst_answer s (PaletteLoad l) xs = Ok (bytes_taken (loading s.palette l) xs, 0)

abbrev pub burst_after : State → Activity → List ℕ → State
burst_after s Idle xs = s
burst_after s (Drawing _) xs = s
burst_after s (Awaiting w) xs = cond (serves w s.memory && awaits w) (fed_in s w xs) s
burst_after s (PaletteLoad l) xs = loaded_in s (loaded_by (loading s.palette l) xs)

-- a stop answers the pixels drawn
abbrev pub stop_answer : Activity → Result ℕ ℕ
stop_answer Idle = Err 11
stop_answer (Drawing w) = Ok w.drawn
stop_answer (Awaiting w) = Ok w.drawn
stop_answer (PaletteLoad _) = Ok 0

-- and leaves nothing under way
abbrev pub stopped : State → State
stopped s = with_doing s Idle

abbrev pub status_of : Activity → ℕ
status_of d = cond (busy d) 0x5C 0x54
