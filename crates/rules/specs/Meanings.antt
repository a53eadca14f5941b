-- What a rule that is chosen while the program runs means for a pixel, whose sources have two values.
use Rattle.std.specs.Prelude.{◌≡◌, ℕ, Some, None, Option}
use Rattle.colour.specs.declared.Colour.{Colour}
use Rattle.colour.specs.declared.Palette.{Palette}
use Rattle.formats.specs.declared.Depth.{Depth}
use Rattle.formats.specs.declared.overlays.OverlayKind.{OverlayKind}
use Rattle.formats.specs.Depths.{depth_format, depth_narrow}
use Rattle.formats.specs.OverlayKinds.{overlay_format, overlay_level}
use Rattle.pixel.specs.Each.{SomeEach}
use Rattle.pixel.specs.Rasters.{ChoosesBits}
use Rattle.pixel.specs.Blends.{IsMean}
use Rattle.pixel.specs.Choices.{IsKeyed, IsExpanded}
use Rattle.rules.specs.Chosen.{rule_yields}
use Rattle.rules.specs.declared.chosen.Rule.{Rule}
use Rattle.rules.specs.declared.chosen.Rule.TheVariants.{Raster, Key, Expand, ExpandOver, Blend, OverlayBlend, Fill}

-- the colour of a value in a canvas format, and in an overlay format
abbrev pub depth_colour : Depth → Palette → ℕ → Colour
depth_colour d = (depth_format d).colour

abbrev pub overlay_colour : OverlayKind → Palette → ℕ → Colour
overlay_colour k = (overlay_format k).colour

-- what comes of the values a and b under a palette
abbrev pub Means : Rule → Palette → ℕ → ℕ → Option Colour → Type 0
-- a colour, each bit of which is the bit of the rule that the bits of both colours number
Means (Raster r) p a b o =
    SomeEach (ChoosesBits r.rule) (depth_colour r.first p a) (depth_colour r.second p b) o
-- none where the value is the background in the format of the source, and else the value's colour
Means (Key r) p a b o = IsKeyed a (depth_narrow r.first r.background) (depth_colour r.first p a) o
-- the foreground of a 1, and the background of a 0
Means (Expand r) p a b o = IsExpanded a (Some r.foreground) (Some r.background) o
-- the foreground of a 1, and none of a 0
Means (ExpandOver r) p a b o = IsExpanded a (Some r.foreground) None o
-- a colour, each channel of which is the mean of both at the level of the rule
Means (Blend r) p a b o =
    SomeEach (IsMean r.level) (depth_colour r.first p a) (depth_colour r.second p b) o
-- the same at the level that the second value has
Means (OverlayBlend r) p a b o =
    let level = overlay_level r.second b in
    SomeEach (IsMean level) (depth_colour r.first p a) (overlay_colour r.second p b) o
-- the foreground
Means (Fill r) p a b o = o ≡ Some r.foreground

-- so of every two values, under every palette
abbrev pub RuleMeans : Rule → Type 0
RuleMeans r = (p : Palette) (a b : ℕ) → Means r p a b (rule_yields r p a b)
