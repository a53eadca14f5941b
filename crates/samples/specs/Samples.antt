-- What samples are made of.
use Rattle.std.specs.Prelude.{ℕ, List, [], ◌∷◌, ◌++◌, length, Ok, Err, Result}
use Rattle.colour.specs.declared.Colour.{Colour}
use Rattle.colour.specs.declared.Palette.{Palette}
use Rattle.colour.specs.Channels.{rgb}
use Rattle.window.specs.declared.area.Area.{Area}
use Rattle.job.specs.declared.settings.Settings.{Settings}
use Rattle.job.specs.declared.settings.Surface.{Surface}
use Rattle.job.specs.Works.{Work, Clearing, cleared, declined, clearing, at_stage, run_answer, run_after, feed_answer, feed_after}

abbrev pub black : Colour
black = rgb 0 0 0

-- an image, from its first pixel on
abbrev pub sample_surface : ℕ → ℕ → ℕ → Surface
sample_surface depth start image = record { depth = depth; start = start; image = image; left = 0; top = 0 }

-- two pixels in a row, an image of their own
abbrev pub pair_at : ℕ → Area
pair_at start = record { start = start; image = 2; left = 0; top = 0; width = 2; height = 1 }

-- the job that was begun, or the ground against it
abbrev pub begun_of : Clearing → Result Work ℕ
begun_of (cleared w) = Ok w
begun_of (declined s n) = Err n

-- an answer goes on to the next one and the memory that it leaves; a ground ends it over the memory that is there
abbrev pub onward_over : {A B : Type 0} → Result A ℕ → List ℕ → (A → Result B ℕ × List ℕ) → Result B ℕ × List ℕ
onward_over (Ok x) m f = f x
onward_over (Err n) m f = (Err n, m)

-- a run of 1,000 pixels of a job that was begun
abbrev pub draw_outcome : Settings → Palette → List ℕ → Result ℕ ℕ × List ℕ
draw_outcome s p m = onward_over (begun_of (clearing s (length m))) m (λ w. (run_answer w m 1000, (run_after w p m 1000).memory))

-- bursts, one after another up to the first that is declined, with their answers after those so far
unfoldable pub bursts_fed : List (ℕ × ℕ) → Work → Palette → List ℕ → List (List ℕ) → Result (List (ℕ × ℕ)) ℕ × List ℕ
bursts_fed rs w p m [] = (Ok rs, m)
bursts_fed rs w p m (xs ∷ xss) =
    let s = feed_after w p m xs in
    onward_over (feed_answer w p m xs) s.memory (λ r. bursts_fed (rs ++ r ∷ []) (at_stage w s) p s.memory xss)

-- bursts for a job that was begun
abbrev pub feed_outcome : Settings → Palette → List ℕ → List (List ℕ) → Result (List (ℕ × ℕ)) ℕ × List ℕ
feed_outcome s p m xss = onward_over (begun_of (clearing s (length m))) m (λ w. bursts_fed [] w p m xss)
