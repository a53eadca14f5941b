-- A drawing in parts: what a host gives it at a time.
use Rattle.std.specs.Prelude.{ℕ, ◌+◌, ◌-◌, min, Bool, cond, List, [], ◌==◌, fold}
use Rattle.std.specs.List.{flat_map}
use Rattle.colour.specs.declared.Palette.{Palette}
use Rattle.window.specs.Places.{pixels}
use Rattle.source.specs.Origins.{awaited}
use Rattle.engine.specs.Painted.{Op, plotted, painted}
use Rattle.engine.specs.Fed.{Stage, fed}
use Rattle.complete.specs.declared.part.Part.{Part}
use Rattle.complete.specs.declared.part.Part.TheVariants as part

-- bytes, or an allowance of pixels
pub data Portion : Type 0 where
  feed : List ℕ → Portion
  run : ℕ → Portion

abbrev pub portion_of : Part → Portion
portion_of (part.Feed xs) = feed xs.now
portion_of (part.Run n) = run n

-- the bytes that a portion brings
abbrev pub sent_by : Portion → List ℕ
sent_by (feed xs) = xs
sent_by (run n) = []

-- the bytes of the feeds, in order
abbrev pub sent_in : List Portion → List ℕ
sent_in ps = flat_map sent_by ps

-- whether memory alone serves an operation
abbrev pub by_memory : Op → Bool
by_memory o = awaited o.first == 0

-- how many pixels an allowance draws
abbrev pub allowed : Op → Stage → ℕ → ℕ
allowed o s n = min n (pixels o.target - s.drawn)

-- an allowance spent: the pixels that it draws
abbrev pub advanced : Op → Palette → Stage → ℕ → Stage
advanced o p s n = record { memory = painted (plotted o p 0) s.drawn n s.memory; drawn = s.drawn + n; waiting = s.waiting }

-- one part more: an operation that the host serves draws by its bytes, and one that memory serves by allowances
abbrev pub stepped : Op → Palette → Stage → Portion → Stage
stepped o p s (feed xs) = fed o p s xs
stepped o p s (run n) = cond (by_memory o) (advanced o p s (allowed o s n)) s

-- parts, one after another
abbrev pub parted : Op → Palette → Stage → List Portion → Stage
parted o p s ps = fold (stepped o p) s ps
