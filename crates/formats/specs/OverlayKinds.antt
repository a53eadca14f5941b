-- The kinds of overlay: which format each one is.
use Rattle.std.specs.Prelude.{ℕ, ◌+◌}
use Rattle.colour.specs.declared.Colour.{Colour}
use Rattle.colour.specs.declared.Palette.{Palette}
use Rattle.colour.specs.Formats.{Format}
use Rattle.formats.specs.Overlays.{format26, level26, ShowsEntry, HasIndexLevel, format4444, level4444, ShowsArgb, HasArgbLevel}
use Rattle.formats.specs.declared.overlays.OverlayKind.{OverlayKind}
use Rattle.formats.specs.declared.overlays.OverlayKind.TheVariants.{Index26, Argb4444}

abbrev pub overlay_format : OverlayKind → Format
overlay_format Index26 = format26
overlay_format Argb4444 = format4444

abbrev pub overlay_level : OverlayKind → ℕ → ℕ
overlay_level Index26 = level26
overlay_level Argb4444 = level4444

-- the bits of all fields of a value
abbrev pub overlay_bits : OverlayKind → ℕ
overlay_bits Index26 = 2 + 6
overlay_bits Argb4444 = 4 + 4 + 4 + 4

-- the colour that a value shows under a palette
abbrev pub OverlayShows : OverlayKind → Palette → ℕ → Colour → Type 0
OverlayShows Index26 p = ShowsEntry p
OverlayShows Argb4444 p = ShowsArgb

-- the level that a value has
abbrev pub OverlayHasLevel : OverlayKind → ℕ → ℕ → Type 0
OverlayHasLevel Index26 = HasIndexLevel
OverlayHasLevel Argb4444 = HasArgbLevel
