-- Laws of drawing.
use Rattle.std.specs.Prelude.{◌≡◌, ℕ, ◌+◌, ◌*◌, ◌%◌, ◌^◌, ◌<◌, ◌≤◌, true, List, [], ◌++◌, length, Some, None, Option, slice_index}
use Rattle.feeding.specs.Feeding.{InParts}
use Rattle.colour.specs.declared.Colour.{Colour}
use Rattle.colour.specs.declared.Palette.{Palette}
use Rattle.window.specs.Apart.{Off}
use Rattle.window.specs.Places.{pixels, place, reach}
use Rattle.window.specs.Values.{value_at}
use Rattle.source.specs.Origins.{awaited}
use Rattle.engine.specs.Painted.{Op, yielded, plotted, painted}
use Rattle.engine.specs.Fed.{Stage, takes, due, takes_at, byte_come, fed}

-- where pixel k of an operation's window begins
abbrev pub pixel_at : Op → ℕ → ℕ
pixel_at o k = place o.target o.format.width k

-- what pixel k holds
abbrev pub pixel_value : Op → List ℕ → ℕ → ℕ
pixel_value o m k = value_at m (pixel_at o k) o.format.width

-- what a pixel that held v holds once its rule has yielded: the colour narrowed, as far as the pixel's bytes hold it
abbrev pub value_after : Op → Option Colour → ℕ → ℕ
value_after o None v = v
value_after o (Some c) v = o.narrow c % 2 ^ (8 * o.format.width)

-- count pixels from the first on were drawn, from memory m to n: each holds what its rule yielded on memory as it was
-- when the pixel was reached, or, where it yielded none, what it held before
abbrev pub EachHolds : Op → Palette → ℕ → ℕ → ℕ → List ℕ → List ℕ → Type 0
EachHolds o p sent first count m n =
    (j : ℕ) → j < count
    → pixel_value o n (first + j) ≡ value_after o (yielded o p sent (first + j) (painted (plotted o p sent) first j m)) (pixel_value o m (first + j))

-- so it is if the window lies in memory
abbrev pub PixelsHold : Op → Palette → ℕ → ℕ → ℕ → List ℕ → List ℕ → Type 0
PixelsHold o p sent first count m n = reach o.target o.format.width ≤ length m → EachHolds o p sent first count m n

-- from memory m to n nothing changed but count pixels of the window from the first on
pub record OnlyPixels (o : Op) (first count : ℕ) (m n : List ℕ) : Type 0 where
  -- they are pixels of the window
  pub own : (j : ℕ) → j < count → first + j < pixels o.target
  -- memory is as long as it was
  pub size : length n ≡ length m
  -- and each byte outside them holds what it held
  pub rest : (x : ℕ) → ((j : ℕ) → j < count → Off (pixel_at o (first + j)) o.format.width x) → slice_index n x ≡ slice_index m x

-- bytes may be fed in parts: xs and then ys have the effect of both together, and as many of them are taken
abbrev pub FeedsInParts : Op → Palette → Type 0
FeedsInParts o p = InParts (takes_at o) (byte_come o p)

-- the bytes of a whole pixel or unit, the last of which come at s, lead to t
pub record WholeCome (o : Op) (p : Palette) (s : Stage) (bytes : List ℕ) (t : Stage) : Type 0 where
  -- each pixel that they serve holds what its rule yielded for the number that they hold, read as a pixel in memory is and not
  -- by the definition that feeding goes by, so that a wrong order of bytes there breaks the law
  pub holds : PixelsHold o p (value_at bytes 0 (length bytes)) s.drawn (due o s.drawn) s.memory t.memory
  -- these pixels are drawn
  pub drawn_is : t.drawn ≡ s.drawn + due o s.drawn
  -- and no byte waits
  pub none_waits : t.waiting ≡ []

-- where bytes are taken, the last ones of a whole pixel or unit do that, together with those that wait
abbrev pub WholesHold : Op → Palette → Type 0
WholesHold o p =
    (s : Stage) (bytes : List ℕ) → takes o s.drawn ≡ true → length s.waiting < awaited o.first → length s.waiting + length bytes ≡ awaited o.first
    → WholeCome o p s (s.waiting ++ bytes) (fed o p s bytes)
