-- What memory is after some pixels of an operation.
use Rattle.std.specs.Prelude.{ℕ, zero, suc, ◌+◌, ◌-◌, ◌*◌, List, Some, None, Option}
use Rattle.colour.specs.declared.Colour.{Colour}
use Rattle.colour.specs.declared.Palette.{Palette}
use Rattle.colour.specs.Formats.{Format}
use Rattle.window.specs.declared.area.Area.{Area}
use Rattle.window.specs.Places.{area_of, place}
use Rattle.window.specs.Values.{value_at, stored}
use Rattle.source.specs.Origins.{Origin, origin_of, sampled}
use Rattle.rules.specs.Yields.{Yields}
use Rattle.engine.specs.declared.drawing.Drawing.{Drawing}

-- an operation: its rule, its sources, and the window and format that it draws in
pub record Op : Type 0 where
  pub yields : Yields
  pub first : Origin
  pub second : Origin
  pub format : Format
  pub narrow : Colour → ℕ
  pub target : Area

abbrev pub op_of : {R D : Type 0} → (R → Yields) → (D → Format) → (D → Colour → ℕ) → Drawing R D → Op
op_of yields format narrow d = record {
  yields = yields d.rule;
  first = origin_of d.first;
  second = origin_of d.second;
  format = format d.canvas;
  narrow = narrow d.canvas;
  target = area_of d.target;
}

-- what the rule yields for pixel k on memory as it then is, where the host sent a number
abbrev pub yielded : Op → Palette → ℕ → ℕ → List ℕ → Option Colour
yielded o p sent k m = o.yields p (sampled o.first m sent k) (sampled o.second m sent k)

-- a colour narrowed and stored at an address; none leaves the pixel
abbrev pub put_colour : ℕ → (Colour → ℕ) → ℕ → Option Colour → List ℕ → List ℕ
put_colour bytes narrow at None m = m
put_colour bytes narrow at (Some c) m = stored m at bytes (narrow c)

-- pixel k drawn
unfoldable pub plotted : Op → Palette → ℕ → ℕ → List ℕ → List ℕ
plotted o p sent k m = put_colour o.format.width o.narrow (place o.target o.format.width k) (yielded o p sent k m) m

-- n pixels drawn, from the first on, each over what the one before left
unfoldable pub painted : (ℕ → List ℕ → List ℕ) → ℕ → ℕ → List ℕ → List ℕ
painted draw first zero m = m
painted draw first (suc n) m = draw (first + n) (painted draw first n m)

-- pixel k drawn, where xs holds the values that the host sent, b bytes each, from that of a first pixel on
abbrev pub sent_drawn : Op → Palette → ℕ → ℕ → List ℕ → ℕ → List ℕ → List ℕ
sent_drawn o p b first xs k m = plotted o p (value_at xs ((k - first) * b) b) k m
