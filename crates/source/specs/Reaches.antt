-- How far into memory a source reaches.
use Rattle.std.specs.Prelude.{ℕ, ◌+◌, ◌*◌, ◌<◌, ◌≤◌}
use Rattle.window.specs.Places.{pixels, reach}
use Rattle.source.specs.Origins.{Origin, unused, host, host_bits, image, pattern, bits, taken_from, taken}
use Rattle.source.specs.Rows.{rows_reach}

-- the first address past all that a source takes from memory for a rectangle so many rows high
abbrev pub reach_of : Origin → ℕ → ℕ
reach_of unused height = 0
reach_of (host _) height = 0
reach_of (host_bits _) height = 0
reach_of (image a b) height = reach a b
reach_of (pattern a b _) height = reach a b
reach_of (bits r start) height = rows_reach r start height

-- pixel k is one that the source has for such a rectangle: a window has its own pixels, and rows of bits have so many
-- rows; the others have every pixel
abbrev pub Has : Origin → ℕ → ℕ → Type 0
Has unused height k = Unit {0}
Has (host _) height k = Unit {0}
Has (host_bits _) height k = Unit {0}
Has (image a _) height k = k < pixels a
Has (pattern _ _ _) height k = Unit {0}
Has (bits r _) height k = k < r.columns * height

-- what a pixel takes from memory ends within the reach
abbrev pub TakenInside : Origin → ℕ → Type 0
TakenInside o height = (k : ℕ) → Has o height k → taken_from o k + taken o ≤ reach_of o height
