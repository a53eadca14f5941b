-- The overlay formats: a level in the highest bits, and a colour in the others.
use Rattle.std.specs.Prelude.{◌≡◌, ℕ, ◌+◌, ◌*◌, ◌/◌, ◌%◌, ◌<◌, ◌≤◌, cond, List, [], ◌∷◌, ◌==◌, slice_index}
use Rattle.std.proofs.Common.{lit≤}
use Rattle.colour.specs.declared.Colour.{Colour}
use Rattle.colour.specs.declared.Palette.{Palette}
use Rattle.colour.specs.Widths.{widened}
use Rattle.colour.specs.Channels.{rgb}
use Rattle.colour.specs.Packing.{composed}
use Rattle.colour.specs.Entries.{entry_colour, entry_at, entry_channels, palette_colour}
use Rattle.colour.specs.Formats.{Format}

-- the palette entry that bits 5-0 choose
abbrev pub index_entry : ℕ → ℕ
index_entry v = v % 64

abbrev pub format26 : Format
format26 = record {
  width = 1;
  colour = λ p v. palette_colour p (index_entry v);
  some = lit≤ tt;
  few = lit≤ tt;
  wide = λ p v. entry_channels (entry_at p (index_entry v));
}

-- the levels that bits 7-6 choose from
abbrev pub index_levels : List ℕ
index_levels = 0 ∷ 10 ∷ 21 ∷ 32 ∷ []

abbrev pub level26 : ℕ → ℕ
level26 v = slice_index index_levels (v / 64 % 4)

-- bits 11-0 are as in a palette entry
abbrev pub format4444 : Format
format4444 = record {
  width = 2;
  colour = λ _ v. entry_colour (v % 4096);
  some = lit≤ tt;
  few = lit≤ tt;
  wide = λ _ v. entry_channels (v % 4096);
}

-- the level of a field of four bits
abbrev pub field_level : ℕ → ℕ
field_level f = cond (f == 15) 32 (2 * f)

-- bits 15-12 are that field
abbrev pub level4444 : ℕ → ℕ
level4444 v = field_level (v / 4096 % 16)

-- a value of Index 2:6 made of a level field and the number of an entry chooses that entry ..
pub record ChoosesEntry (value number : ℕ) : Type 0 where
  pub each : (f e : ℕ) → f < 4 → e < 64 → value ≡ f * 64 + e → number ≡ e

-- .. so it has that entry's colour ..
pub record ShowsEntry (p : Palette) (value : ℕ) (colour : Colour) : Type 0 where
  pub each : (f e : ℕ) → f < 4 → e < 64 → value ≡ f * 64 + e → colour ≡ palette_colour p e

-- .. and the level of that field, which is so many thirds of 32, rounded down
pub record HasIndexLevel (value level : ℕ) : Type 0 where
  pub tabled : (f e : ℕ) → f < 4 → e < 64 → value ≡ f * 64 + e → level ≡ slice_index index_levels f
  pub least : (f e : ℕ) → f < 4 → e < 64 → value ≡ f * 64 + e → 3 * level ≤ 32 * f
  pub most : (f e : ℕ) → f < 4 → e < 64 → value ≡ f * 64 + e → 32 * f < 3 * (level + 1)

-- a value of 4:4:4:4 made of a level field and the fields of a colour has that colour ..
pub record ShowsArgb (value : ℕ) (colour : Colour) : Type 0 where
  pub each : (f r g b : ℕ) → f < 16 → r < 16 → g < 16 → b < 16
      → value ≡ f * 4096 + composed 4 4 r g b
      → colour ≡ rgb (widened 4 r) (widened 4 g) (widened 4 b)

-- .. and twice the field as its level, but of the greatest field the greatest level
pub record HasArgbLevel (value level : ℕ) : Type 0 where
  pub twice : (f c : ℕ) → f < 15 → c < 4096 → value ≡ f * 4096 + c → level ≡ 2 * f
  pub greatest : (c : ℕ) → c < 4096 → value ≡ 15 * 4096 + c → level ≡ 32
