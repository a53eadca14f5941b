-- A strip: pixels of an operation that lie side by side.
use Rattle.std.specs.Prelude.{◌≡◌, ℕ, ◌*◌, ◌≤◌}
use Rattle.window.specs.Places.{place}
use Rattle.window.specs.Geometry.{SideBySide}
use Rattle.source.specs.Strips.{Ahead}
use Rattle.engine.specs.Painted.{Op}

-- so many pixels from k on, up to `most`, that fit into a buffer, begin at `at` and lie side by side, and of which none takes a byte
-- that one before it wrote
pub record IsStrip (o : Op) (k most at count : ℕ) : Type 0 where
  pub begins : at ≡ place o.target o.format.width k
  pub few : count ≤ most
  pub room : count * o.format.width ≤ 1024
  pub gapless : SideBySide o.target k count
  pub first : Ahead o.first k count at o.format.width
  pub second : Ahead o.second k count at o.format.width
