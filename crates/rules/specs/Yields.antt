-- What each pixel rule yields for the values of a pixel's sources under a palette.
use Rattle.std.specs.Prelude.{ℕ, Some, None, Option}
use Rattle.colour.specs.declared.Colour.{Colour}
use Rattle.colour.specs.declared.Palette.{Palette}
use Rattle.colour.specs.Channels.{Channels}
use Rattle.colour.specs.Formats.{Format}
use Rattle.pixel.specs.Rasters.{rastered}
use Rattle.pixel.specs.Blends.{blended}
use Rattle.pixel.specs.Choices.{keyed, expanded, expanded_over, filled}

-- a colour, or none, for the values of both sources
abbrev pub Yields : Type 0
Yields = Palette → ℕ → ℕ → Option Colour

-- none, or a colour whose channels have 8 bits
abbrev pub Wide : Option Colour → Type 0
Wide None = Unit {0}
Wide (Some c) = Channels c

abbrev pub raster_yields : Format → Format → ℕ → Yields
raster_yields f s rule p a b = Some (rastered rule (f.colour p a) (s.colour p b))

-- the key is the background, narrowed into the source's format
abbrev pub key_yields : Format → (Colour → ℕ) → Colour → Yields
key_yields f narrow background p a b = keyed a (narrow background) (f.colour p a)

abbrev pub expand_yields : Colour → Colour → Yields
expand_yields foreground background p a b = expanded a foreground background

abbrev pub expand_over_yields : Colour → Yields
expand_over_yields foreground p a b = expanded_over a foreground

abbrev pub blend_yields : Format → Format → ℕ → Yields
blend_yields f s level p a b = Some (blended level (f.colour p a) (s.colour p b))

-- the level is that of the second value
abbrev pub overlay_blend_yields : Format → Format → (ℕ → ℕ) → Yields
overlay_blend_yields f s levels p a b = Some (blended (levels b) (f.colour p a) (s.colour p b))

abbrev pub fill_yields : Colour → Yields
fill_yields foreground p a b = filled foreground
