-- What a whole job draws, however its bytes are cut into bursts.
use Rattle.std.specs.Prelude.{ℕ, cond, List, length, replicate, Ok, Err, Result}
use Rattle.colour.specs.declared.Palette.{Palette}
use Rattle.engine.specs.Fed.{Stage}
use Rattle.job.specs.declared.settings.Settings.{Settings}
use Rattle.job.specs.Works.{Work, Clearing, cleared, declined, clearing, awaits, fed_stage, run_after}

-- a job at its end: fed all that is sent where bytes are awaited, and else run up to its last pixel
abbrev pub ended : Work → Palette → List ℕ → List ℕ → Stage
ended w p m xs = cond (awaits w) (fed_stage w p m xs) (run_after w p m 4294967295)

-- a palette whose entries are all zero
abbrev pub blank : Palette
blank = record { entries = replicate 64 0 }

-- the pixels that a cleared job draws, or the ground against it
abbrev pub pixels_drawn : Clearing → List ℕ → List ℕ → Result ℕ ℕ
pixels_drawn (cleared w) m xs = Ok (ended w blank m xs).drawn
pixels_drawn (declined s n) m xs = Err n

abbrev pub job_answer : Settings → List ℕ → List ℕ → Result ℕ ℕ
job_answer s m xs = pixels_drawn (clearing s (length m)) m xs

-- and what they leave of memory
abbrev pub memory_left : Clearing → List ℕ → List ℕ → List ℕ
memory_left (cleared w) m xs = (ended w blank m xs).memory
memory_left (declined s n) m xs = m

abbrev pub job_memory : Settings → List ℕ → List ℕ → List ℕ
job_memory s m xs = memory_left (clearing s (length m)) m xs
