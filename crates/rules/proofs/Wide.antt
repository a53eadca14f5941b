-- What a rule yields has channels of 8 bits, if the colours that the rule holds have.
use Rattle.std.proofs.Common.{ℕ, ◌%◌, true, false, cond, eqb, Some, None}
use Rattle.colour.specs.declared.Colour.{Colour}
use Rattle.colour.specs.declared.Palette.{Palette}
use Rattle.colour.specs.Channels.{Channels}
use Rattle.colour.specs.Formats.{Format}
use Rattle.formats.specs.Depths.{depth_format, depth_narrow}
use Rattle.formats.specs.OverlayKinds.{overlay_format, overlay_level}
use Rattle.pixel.proofs.Rasters.{rastered_channels}
use Rattle.pixel.proofs.Blends.{blended_channels}
use Rattle.rules.specs.Yields.{Wide, raster_yields, key_yields, expand_yields, expand_over_yields, blend_yields, overlay_blend_yields, fill_yields}
use Rattle.rules.specs.Chosen.{rule_yields, Holds}
use Rattle.rules.specs.declared.chosen.Rule.{Rule}
use Rattle.rules.specs.declared.chosen.Rule.TheVariants.{Raster, Key, Expand, ExpandOver, Blend, OverlayBlend, Fill}

pub raster_wide : (f s : Format) (rule : ℕ) (p : Palette) (a b : ℕ) → Wide (raster_yields f s rule p a b)
raster_wide f s rule p a b = rastered_channels rule (f.colour p a) (s.colour p b)

pub key_wide : (f : Format) (narrow : Colour → ℕ) (background : Colour) (p : Palette) (a b : ℕ) → Wide (key_yields f narrow background p a b)
key_wide f narrow background p a b =
    elim (eqb a (narrow background)) as (λ t. Wide (cond t None (Some (f.colour p a)))) [ true ↦ tt | false ↦ f.wide p a ]

pub expand_wide : (foreground background : Colour) → Channels foreground → Channels background
    → (p : Palette) (a b : ℕ) → Wide (expand_yields foreground background p a b)
expand_wide foreground background h k p a b =
    elim (eqb (a % 2) 1) as (λ t. Channels (cond t foreground background)) [ true ↦ h | false ↦ k ]

pub expand_over_wide : (foreground : Colour) → Channels foreground → (p : Palette) (a b : ℕ) → Wide (expand_over_yields foreground p a b)
expand_over_wide foreground h p a b =
    elim (eqb (a % 2) 1) as (λ t. Wide (cond t (Some foreground) None)) [ true ↦ h | false ↦ tt ]

pub blend_wide : (f s : Format) (level : ℕ) (p : Palette) (a b : ℕ) → Wide (blend_yields f s level p a b)
blend_wide f s level p a b = blended_channels level (f.colour p a) (s.colour p b) (f.wide p a) (s.wide p b)

pub overlay_blend_wide : (f s : Format) (levels : ℕ → ℕ) (p : Palette) (a b : ℕ) → Wide (overlay_blend_yields f s levels p a b)
overlay_blend_wide f s levels p a b = blend_wide f s (levels b) p a b

pub fill_wide : (foreground : Colour) → Channels foreground → (p : Palette) (a b : ℕ) → Wide (fill_yields foreground p a b)
fill_wide foreground h p a b = h

pub rule_wide : (r : Rule) → Holds r → (p : Palette) (a b : ℕ) → Wide (rule_yields r p a b)
rule_wide (Raster r) h p a b = raster_wide (depth_format r.first) (depth_format r.second) r.rule p a b
rule_wide (Key r) h p a b = key_wide (depth_format r.first) (depth_narrow r.first) r.background p a b
rule_wide (Expand r) h p a b = expand_wide r.foreground r.background h.0 h.1 p a b
rule_wide (ExpandOver r) h p a b = expand_over_wide r.foreground h p a b
rule_wide (Blend r) h p a b = blend_wide (depth_format r.first) (depth_format r.second) r.level p a b
rule_wide (OverlayBlend r) h p a b = overlay_blend_wide (depth_format r.first) (overlay_format r.second) (overlay_level r.second) p a b
rule_wide (Fill r) h p a b = fill_wide r.foreground h p a b
