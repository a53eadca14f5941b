-- An operation inside memory.
use Rattle.std.specs.Prelude.{◌≡◌, ℕ, Bool, ◌&&◌, ◌<◌, ◌==◌, nat_le}
use Rattle.std.specs.Bool.{MatchBool}
use Rattle.window.specs.Geometry.{PixelByte, BytePast}
use Rattle.window.specs.Places.{reach}
use Rattle.source.specs.Origins.{awaited}
use Rattle.source.specs.Meanings.{SourceByte}
use Rattle.source.specs.Reaches.{reach_of}
use Rattle.source.specs.Shapes.{covers, HasEach}
use Rattle.engine.specs.Painted.{Op}

-- whether the sources cover the window, and the second is not sent by the host
abbrev pub sources_cover : Op → Bool
sources_cover o =
    covers o.first o.target.width o.target.height
    && (covers o.second o.target.width o.target.height && awaited o.second == 0)

-- whether window and sources end inside a memory of some size
abbrev pub ends_inside : Op → ℕ → Bool
ends_inside o size =
    nat_le (reach_of o.first o.target.height) size
    && (nat_le (reach_of o.second o.target.height) size && nat_le (reach o.target o.format.width) size)

-- whether an operation lies inside: its window, and for each pixel what its sources have
abbrev pub lies_inside : Op → ℕ → Bool
lies_inside o size = sources_cover o && ends_inside o size

-- x is a byte of a pixel that is drawn, or one that a source has in memory
pub data OpByte (o : Op) (x : ℕ) : Type 0 where
  of_target : PixelByte o.target o.format.width x → OpByte o x
  of_first : SourceByte o.first o.target.height x → OpByte o x
  of_second : SourceByte o.second o.target.height x → OpByte o x

-- each source has a pixel for each of the window, and bytes are awaited for the first alone
pub record Covered (o : Op) : Type 0 where
  pub first : HasEach o.first o.target.width o.target.height
  pub second : HasEach o.second o.target.width o.target.height
  pub in_memory : awaited o.second ≡ 0

-- so it is, and each byte lies below the size
pub record Inside (o : Op) (size : ℕ) : Type 0 where
  pub covered : Covered o
  pub below : (x : ℕ) → OpByte o x → x < size

-- an operation lies inside exactly where that holds: where it does not, though the sources cover the window, a byte lies past
abbrev pub InsideExactly : Op → ℕ → Bool → Type 0
InsideExactly o size inside = MatchBool inside (Inside o size) (Covered o → BytePast (OpByte o) size)
