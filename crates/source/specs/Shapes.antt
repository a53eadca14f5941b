-- The shape of a source beside the rectangle that it serves.
use Rattle.std.specs.Prelude.{◌≡◌, ℕ, ◌*◌, ◌<◌, Bool, true, ◌&&◌, ◌==◌, nat_le}
use Rattle.std.specs.Bool.{MatchBool}
use Rattle.source.specs.Origins.{Origin, unused, host, host_bits, image, pattern, bits}
use Rattle.source.specs.Reaches.{Has}

-- a source is as wide as a rectangle: a window has its width, and a pattern and rows of bits have its columns
abbrev pub AsWide : Origin → ℕ → Type 0
AsWide unused w = Unit {0}
AsWide (host _) w = Unit {0}
AsWide (host_bits r) w = r.columns ≡ w
AsWide (image a _) w = a.width ≡ w
AsWide (pattern _ _ columns) w = columns ≡ w
AsWide (bits r _) w = r.columns ≡ w

-- a source covers a rectangle w pixels wide and h rows high: a window is as wide, and as high or higher; a pattern, and rows of
-- bits, have its columns
abbrev pub covers : Origin → ℕ → ℕ → Bool
covers unused w h = true
covers (host _) w h = true
covers (host_bits r) w h = r.columns == w
covers (image a _) w h = a.width == w && nat_le h a.height
covers (pattern _ _ columns) w h = columns == w
covers (bits r _) w h = r.columns == w

-- it is as wide and has each pixel
pub record HasEach (o : Origin) (w h : ℕ) : Type 0 where
  pub wide : AsWide o w
  pub has : (k : ℕ) → k < w * h → Has o h k

-- the test passes exactly where it has
abbrev pub CoversExactly : Origin → ℕ → ℕ → Type 0
CoversExactly o w h = MatchBool (covers o w h) (HasEach o w h) (HasEach o w h → ⊥)
