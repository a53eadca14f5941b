-- Each rule yields what it means.
use Rattle.std.proofs.Common.{◌≡◌, ℕ, Option, refl}
use Rattle.colour.specs.declared.Colour.{Colour}
use Rattle.colour.specs.declared.Palette.{Palette}
use Rattle.formats.specs.Depths.{depth_format, depth_narrow}
use Rattle.formats.specs.OverlayKinds.{overlay_format, overlay_level}
use Rattle.pixel.specs.Rasters.{rastered, ChoosesBits}
use Rattle.pixel.specs.Blends.{blended, IsMean}
use Rattle.pixel.specs.Each.{EachChannel}
use Rattle.pixel.proofs.Formulas.{raster_chooses}
use Rattle.pixel.proofs.Blends.{blend_weighed}
use Rattle.pixel.proofs.Choices.{keyed_means, expanded_means, expanded_over_means}
use Rattle.rules.specs.Chosen.{rule_yields}
use Rattle.rules.specs.Meanings.{Means, RuleMeans}
use Rattle.rules.specs.declared.chosen.Rule.{Rule}
use Rattle.rules.specs.declared.chosen.Rule.TheVariants.{Raster, Key, Expand, ExpandOver, Blend, OverlayBlend, Fill}

rastered_means : (rule : ℕ) (c d : Colour) → EachChannel (ChoosesBits rule) c d (rastered rule c d)
rastered_means rule c d = record {
  red = raster_chooses rule c.red d.red _ refl;
  green = raster_chooses rule c.green d.green _ refl;
  blue = raster_chooses rule c.blue d.blue _ refl;
}

blended_means : (level : ℕ) (c d : Colour) → EachChannel (IsMean level) c d (blended level c d)
blended_means level c d = record {
  red = blend_weighed level c.red d.red;
  green = blend_weighed level c.green d.green;
  blue = blend_weighed level c.blue d.blue;
}

pub rule_means : (r : Rule) → RuleMeans r
rule_means (Raster r) p a b = rastered_means r.rule ((depth_format r.first).colour p a) ((depth_format r.second).colour p b)
rule_means (Key r) p a b = keyed_means a (depth_narrow r.first r.background) ((depth_format r.first).colour p a)
rule_means (Expand r) p a b = expanded_means a r.foreground r.background
rule_means (ExpandOver r) p a b = expanded_over_means a r.foreground
rule_means (Blend r) p a b = blended_means r.level ((depth_format r.first).colour p a) ((depth_format r.second).colour p b)
rule_means (OverlayBlend r) p a b = blended_means (overlay_level r.second b) ((depth_format r.first).colour p a) ((overlay_format r.second).colour p b)
rule_means (Fill r) p a b = refl

pub means_of : (r : Rule) (p : Palette) (a b : ℕ) (o : Option Colour) → o ≡ rule_yields r p a b → Means r p a b o
means_of r p a b o e = rw e (rule_means r p a b)
