-- Which colour and which level a value has that is made of fields, and what a colour narrows to.
use Rattle.std.proofs.Common.{◌≡◌, ℕ, zero, suc, ◌<◌, ◌≤◌, ◌+◌, ◌*◌, ◌/◌, ◌%◌, false, cond, eqb, slice_index, slice_index_or, ap, ◌∙◌, arith}
use Rattle.std.proofs.lemmas.Bool.{ne_eqb}
use Rattle.colour.specs.declared.Colour.{Colour}
use Rattle.colour.specs.declared.Palette.{Palette}
use Rattle.colour.specs.Packing.{composed, ShowsFields}
use Rattle.colour.specs.Entries.{entry_colour, palette_colour}
use Rattle.colour.proofs.FieldBits.{shown_composed}
use Rattle.formats.specs.Depths.{depth_narrow, DepthShows, DepthHolds}
use Rattle.formats.specs.Overlays.{index_entry, index_levels, level26, field_level, level4444, ShowsEntry, HasIndexLevel, ShowsArgb, HasArgbLevel}
use Rattle.formats.specs.OverlayKinds.{overlay_format, overlay_level, OverlayShows, OverlayHasLevel}
use Rattle.formats.specs.declared.Depth.{Depth}
use Rattle.formats.specs.declared.Depth.TheVariants.{Rgb332, Rgb565, Rgb888}
use Rattle.formats.specs.declared.overlays.OverlayKind.{OverlayKind}
use Rattle.formats.specs.declared.overlays.OverlayKind.TheVariants.{Index26, Argb4444}

-- the depth that is chosen while the program runs shows what its format shows
pub shows_332 : (d : Depth) (v : ℕ) (c : Colour) → d ≡ Rgb332 → ShowsFields 3 3 2 v c → DepthShows d v c
shows_332 d v c e h = rw e h

pub shows_565 : (d : Depth) (v : ℕ) (c : Colour) → d ≡ Rgb565 → ShowsFields 5 6 5 v c → DepthShows d v c
shows_565 d v c e h = rw e h

pub shows_888 : (d : Depth) (v : ℕ) (c : Colour) → d ≡ Rgb888 → ShowsFields 8 8 8 v c → DepthShows d v c
shows_888 d v c e h = rw e h

pub depth_holds : (d : Depth) (c : Colour) (v : ℕ) → v ≡ depth_narrow d c → DepthHolds d c v
depth_holds Rgb332 c v e = record { is = e }
depth_holds Rgb565 c v e = record { is = e }
depth_holds Rgb888 c v e = record { is = e }

-- what holds of each number below 4
four : (P : ℕ → Type 0) → P 0 → P 1 → P 2 → P 3 → (f : ℕ) → f < 4 → P f
four P a b c d zero h = a
four P a b c d (suc zero) h = b
four P a b c d (suc (suc zero)) h = c
four P a b c d (suc (suc (suc zero))) h = d
four P a b c d (suc (suc (suc (suc f)))) h = absurd (omega arith)

-- level f of the index format is f thirds of 32
thirds : (f : ℕ) → f < 4 → (3 * slice_index index_levels f ≤ 32 * f) × (32 * f < 3 * (slice_index index_levels f + 1))
thirds = four _ (omega arith, omega arith) (omega arith, omega arith) (omega arith, omega arith) (omega arith, omega arith)

pub index_level_of_field : (v level : ℕ) → level ≡ level26 v → HasIndexLevel v level
index_level_of_field v level e =
    let chosen : (f k : ℕ) → f < 4 → k < 64 → v ≡ f * 64 + k → level ≡ slice_index index_levels f =
    λ f k h l s. let field : v / 64 % 4 ≡ f = omega arith in e ∙ ap (slice_index index_levels) field in
    record {
      tabled = chosen;
      least = λ f k h l s. rw (chosen f k h l s) ((thirds f h).0);
      most = λ f k h l s. rw (chosen f k h l s) ((thirds f h).1);
    }

-- read from a row of the table, whatever stands past its end
pub index_level_of_row : (v level : ℕ) → ((d : ℕ) → level ≡ slice_index_or index_levels (v / 64 % 4) d) → HasIndexLevel v level
index_level_of_row v level read = index_level_of_field v level (read 0)

pub index_shows : (p : Palette) (v : ℕ) (c : Colour) → c ≡ palette_colour p (index_entry v) → ShowsEntry p v c
index_shows p v c e = record {
  each = λ f k h l s. let entry : v % 64 ≡ k = omega arith in e ∙ ap (palette_colour p) entry;
}

pub argb_shows : (v : ℕ) (c : Colour) → c ≡ entry_colour (v % 4096) → ShowsArgb v c
argb_shows v c e = record {
  each = λ f r g b h i j k s.
      let rest : v % 4096 ≡ composed 4 4 r g b = omega arith in
      (shown_composed 4 4 4 (v % 4096) c e).each r g b i j k rest;
}

argb_below : (f : ℕ) → f < 15 → field_level f ≡ 2 * f
argb_below f h = let other : eqb f 15 ≡ false = ne_eqb f 15 (λ e. omega arith) in ap (λ t. cond t 32 (2 * f)) other

pub argb_level_of_field : (v level : ℕ) → level ≡ level4444 v → HasArgbLevel v level
argb_level_of_field v level e = record {
  twice = λ f k h l s. let field : v / 4096 % 16 ≡ f = omega arith in e ∙ ap field_level field ∙ argb_below f h;
  greatest = λ k l s. let field : v / 4096 % 16 ≡ 15 = omega arith in e ∙ ap field_level field;
}

pub overlay_shows : (k : OverlayKind) (p : Palette) (v : ℕ) (c : Colour) → c ≡ (overlay_format k).colour p v → OverlayShows k p v c
overlay_shows Index26 p v c e = index_shows p v c e
overlay_shows Argb4444 p v c e = argb_shows v c e

pub overlay_has_level : (k : OverlayKind) (v level : ℕ) → level ≡ overlay_level k v → OverlayHasLevel k v level
overlay_has_level Index26 v level e = index_level_of_field v level e
overlay_has_level Argb4444 v level e = argb_level_of_field v level e
