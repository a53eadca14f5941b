-- What a rule yields that is chosen while the program runs.
use Rattle.colour.specs.Channels.{Channels}
use Rattle.formats.specs.Depths.{depth_format, depth_narrow}
use Rattle.formats.specs.OverlayKinds.{overlay_format, overlay_level}
use Rattle.rules.specs.Yields.{Yields, raster_yields, key_yields, expand_yields, expand_over_yields, blend_yields, overlay_blend_yields, fill_yields}
use Rattle.rules.specs.declared.chosen.Rule.{Rule}
use Rattle.rules.specs.declared.chosen.Rule.TheVariants.{Raster, Key, Expand, ExpandOver, Blend, OverlayBlend, Fill}

abbrev pub rule_yields : Rule → Yields
rule_yields (Raster r) = raster_yields (depth_format r.first) (depth_format r.second) r.rule
rule_yields (Key r) = key_yields (depth_format r.first) (depth_narrow r.first) r.background
rule_yields (Expand r) = expand_yields r.foreground r.background
rule_yields (ExpandOver r) = expand_over_yields r.foreground
rule_yields (Blend r) = blend_yields (depth_format r.first) (depth_format r.second) r.level
rule_yields (OverlayBlend r) = overlay_blend_yields (depth_format r.first) (overlay_format r.second) (overlay_level r.second)
rule_yields (Fill r) = fill_yields r.foreground

-- the colours that a rule holds have channels of 8 bits, as every colour of the code has
abbrev pub Holds : Rule → Type 0
Holds (Raster r) = Unit {0}
Holds (Key r) = Unit {0}
Holds (Expand r) = Channels r.foreground × Channels r.background
Holds (ExpandOver r) = Channels r.foreground
Holds (Blend r) = Unit {0}
Holds (OverlayBlend r) = Unit {0}
Holds (Fill r) = Channels r.foreground
