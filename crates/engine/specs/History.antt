-- The history of an operation: what memory was before each of its pixels, from its start on.
use Rattle.std.specs.Prelude.{◌≡◌, ℕ, ◌+◌, ◌/◌, ◌%◌, ◌<◌, ◌≤◌, Bool, true, List, [], ◌++◌, length, take, Some, None, Ok, Err, Option, Result, slice_index}
use Rattle.colour.specs.declared.Colour.{Colour}
use Rattle.colour.specs.declared.Palette.{Palette}
use Rattle.window.specs.Apart.{Off}
use Rattle.window.specs.Geometry.{begins}
use Rattle.window.specs.Values.{value_at, Replaced}
use Rattle.source.specs.Origins.{awaited}
use Rattle.source.specs.Meanings.{value_of, sent_at}
use Rattle.engine.specs.Painted.{Op}
use Rattle.engine.specs.Fed.{Stage}
use Rattle.engine.specs.Laws.{value_after}
use Rattle.engine.specs.Totals.{UnderWay, bytes_used, at_start}

-- from memory m to n the pixel in column c and row r became a colour, narrowed; none left all as it was
abbrev pub Becomes : Op → ℕ → ℕ → Option Colour → List ℕ → List ℕ → Type 0
Becomes o c row None m n = n ≡ m
Becomes o c row (Some x) m n = Replaced (begins o.target o.format.width c row) o.format.width (o.narrow x) m n

-- the number of the pixel in column c and row r, or of its unit, among all bytes that the host has sent since the start
abbrev pub number_sent : Op → List ℕ → ℕ → ℕ → ℕ
number_sent o sent c row = value_at sent (sent_at o.first o.target.width c row) (awaited o.first)

-- what the rule yields there on memory m: the host sends nothing for the second source
abbrev pub colour_in : Op → Palette → List ℕ → List ℕ → ℕ → ℕ → Option Colour
colour_in o p sent m c row =
    o.yields p (value_of o.first (number_sent o sent c row) m c row) (value_of o.second 0 m c row)

-- from memory m to n that pixel was drawn, once its bytes had come
pub record PixelDrawn (o : Op) (p : Palette) (sent : List ℕ) (c row : ℕ) (m n : List ℕ) : Type 0 where
  pub came : sent_at o.first o.target.width c row + awaited o.first ≤ length sent
  pub becomes : Becomes o c row (colour_in o p sent m c row) m n

-- the memories from the start to now, one more for each pixel in row order: pixel k is in column k mod width and row k div width
pub record History (o : Op) (p : Palette) (start sent : List ℕ) (drawn : ℕ) (now : List ℕ) : Type 0 where
  pub before : ℕ → List ℕ
  pub begins : before 0 ≡ start
  pub each : (k : ℕ) → k < drawn → PixelDrawn o p sent (k % o.target.width) (k / o.target.width) (before k) (before (k + 1))
  pub ends : before drawn ≡ now

-- what the bytes hold of the pixel in column c and row r
abbrev pub held : Op → List ℕ → ℕ → ℕ → ℕ
held o m c row = value_at m (begins o.target o.format.width c row) o.format.width

-- so each pixel drawn holds what its rule yielded on memory as it was when the pixel was reached, narrowed, or what it held at the
-- start where the rule yielded none
abbrev pub EachHeld : (o : Op) (p : Palette) (start sent : List ℕ) (drawn : ℕ) (now : List ℕ) → History o p start sent drawn now → Type 0
EachHeld o p start sent drawn now h =
    (k : ℕ) → k < drawn
    → let c = k % o.target.width in
    let row = k / o.target.width in
    held o now c row ≡ value_after o (colour_in o p sent (h.before k) c row) (held o start c row)

-- and every other byte is as at the start
abbrev pub OthersKept : Op → List ℕ → ℕ → List ℕ → Type 0
OthersKept o start drawn now =
    (x : ℕ)
    → ((k : ℕ) → k < drawn → Off (begins o.target o.format.width (k % o.target.width) (k / o.target.width)) o.format.width x)
    → slice_index now x ≡ slice_index start x

-- an operation has come from its start, in memory `start`, to a stage, by the bytes that it has taken from the host since
pub record Reached (o : Op) (p : Palette) (start sent : List ℕ) (s : Stage) : Type 0 where
  pub history : History o p start sent s.drawn s.memory
  pub holds : EachHeld o p start sent s.drawn s.memory history
  pub others : OthersKept o start s.drawn s.memory
  pub under_way : UnderWay o s.drawn s.waiting
  -- the bytes of the pixels that are drawn, up to where those of the next begin, and behind them the bytes that wait
  pub used : List ℕ
  pub joined : sent ≡ used ++ s.waiting
  pub count : length used ≡ bytes_used o s.drawn

-- an operation that lies inside memory begins with memory as it is, no pixel and no byte
abbrev pub Begins : Op → Bool → Type 0
Begins o inside = inside ≡ true → (p : Palette) (m : List ℕ) → Reached o p m [] (at_start m)

-- so many of the bytes xs led on from a stage to t, whatever the start was and the bytes that had come; where the feed was
-- declined, the stage is as it was
abbrev pub GoesOn : Op → Palette → Stage → List ℕ → Result (ℕ × ℕ) ℕ → Stage → Type 0
GoesOn o p s xs (Ok r) t = (start sent : List ℕ) → Reached o p start sent s → Reached o p start (sent ++ take r.0 xs) t
GoesOn o p s xs (Err _) t = t ≡ s

-- drawing so many pixels, from the first on, of an operation that memory serves led on from there
abbrev pub RunsOn : Op → Palette → ℕ → Result ℕ ℕ → List ℕ → List ℕ → Type 0
RunsOn o p first (Ok n) before after =
    awaited o.first ≡ 0 → (start sent waiting : List ℕ)
    → Reached o p start sent (record { memory = before; drawn = first; waiting = waiting })
    → Reached o p start sent (record { memory = after; drawn = first + n; waiting = waiting })
RunsOn o p first (Err _) before after = after ≡ before
