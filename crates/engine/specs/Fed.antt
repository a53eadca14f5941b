-- What the bytes that a host sends do to a drawing.
use Rattle.std.specs.Prelude.{◌≡◌, ℕ, ◌+◌, ◌-◌, ◌*◌, min, Bool, cond, ◌&&◌, List, [], ◌∷◌, ◌++◌, length, nat_lt}
use Rattle.feeding.specs.Feeding.{one_fed, all_fed, count_taken}
use Rattle.colour.specs.declared.Palette.{Palette}
use Rattle.window.specs.Places.{pixels}
use Rattle.source.specs.Origins.{awaited, served}
use Rattle.engine.specs.declared.drawing.Progress.{Progress}
use Rattle.engine.specs.declared.waiting.Waiting.{Waiting}
use Rattle.engine.specs.declared.waiting.Waiting.TheVariants as waiting
use Rattle.engine.specs.Painted.{Op, plotted, painted}

-- the bytes that wait, in the order in which they came
abbrev pub waits : Waiting → List ℕ
waits waiting.None = []
waits (waiting.One a) = a ∷ []
waits (waiting.Two a b) = a ∷ b ∷ []
waits (waiting.Three a b c) = a ∷ b ∷ c ∷ []

-- the number that bytes hold, low byte first
abbrev pub number : List ℕ → ℕ
number [] = 0
number (b ∷ bs) = b + 256 * number bs

-- how far a drawing has come: memory, the pixels drawn, and the bytes that wait
pub record Stage : Type 0 where
  pub memory : List ℕ
  pub drawn : ℕ
  pub waiting : List ℕ

abbrev pub stage : List ℕ → Progress → Stage
stage m p = record { memory = m; drawn = p.drawn; waiting = waits p.waiting }

-- a byte is taken while the host serves the operation and pixels are left
abbrev pub takes : Op → ℕ → Bool
takes o drawn = nat_lt 0 (awaited o.first) && nat_lt drawn (pixels o.target)

-- how many pixels are drawn by what is whole now
abbrev pub due : Op → ℕ → ℕ
due o drawn = min (served o.first drawn) (pixels o.target - drawn)

-- a pixel or a unit is whole, and its pixels are drawn
abbrev pub whole : Op → Palette → Stage → ℕ → Stage
whole o p s v = record { memory = painted (plotted o p v) s.drawn (due o s.drawn) s.memory; drawn = s.drawn + due o s.drawn; waiting = [] }

-- these bytes of a pixel or a unit have come
abbrev pub come : Op → Palette → Stage → List ℕ → Stage
come o p s bs =
    cond (nat_lt (length bs) (awaited o.first))
    (record { memory = s.memory; drawn = s.drawn; waiting = bs })
    (whole o p s (number bs))

-- one byte more: where it is taken, it comes behind those that wait
abbrev pub takes_at : Op → Stage → Bool
takes_at o s = takes o s.drawn

abbrev pub byte_come : Op → Palette → Stage → ℕ → Stage
byte_come o p s b = come o p s (s.waiting ++ b ∷ [])

abbrev pub byte_fed : Op → Palette → Stage → ℕ → Stage
byte_fed o p = one_fed (takes_at o) (byte_come o p)

-- bytes, one after another
abbrev pub fed : Op → Palette → Stage → List ℕ → Stage
fed o p = all_fed (takes_at o) (byte_come o p)

-- how many of them are taken
abbrev pub bytes_taken : Op → Palette → Stage → List ℕ → ℕ
bytes_taken o p = count_taken (takes_at o) (byte_come o p)

-- feeding xs leads from s to t, with so many bytes taken and pixels drawn
pub record Feed (o : Op) (p : Palette) (s : Stage) (xs : List ℕ) (t : Stage) (taken drawn : ℕ) : Type 0 where
  pub after : t ≡ fed o p s xs
  pub taken_is : taken ≡ bytes_taken o p s xs
  pub drawn_is : drawn ≡ t.drawn - s.drawn
