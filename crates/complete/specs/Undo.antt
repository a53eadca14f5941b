-- The exclusive or of a source and the pixels that are drawn on.
use Rattle.std.specs.Prelude.{◌≡◌, ℕ}
use Rattle.colour.specs.declared.Colour.{Colour}
use Rattle.colour.specs.declared.Palette.{Palette}
use Rattle.colour.specs.Formats.{Format, Narrows}
use Rattle.window.specs.Places.{area_of}
use Rattle.source.specs.Origins.{origin_of, image}
use Rattle.rules.specs.Yields.{raster_yields}
use Rattle.engine.specs.Painted.{Op}
use Rattle.complete.specs.declared.exclusive_or.ExclusiveOr.{ExclusiveOr}
use Rattle.complete.specs.Complete.{DrawsOn, TakesFrom}

-- raster rule 6, whose second source is the window that is drawn on
pub record IsExclusiveOr (o : Op) : Type 0 where
  pub first_format : Format
  pub yields_is : (p : Palette) (a b : ℕ) → o.yields p a b ≡ raster_yields first_format o.format 6 p a b
  pub second_is : o.second ≡ image o.target o.format.width
  pub narrows : Narrows o.format o.narrow

-- no byte that is drawn on is one that the first source takes
abbrev pub SourceApart : Op → Type 0
SourceApart o = (x : ℕ) → DrawsOn o x → TakesFrom o.first o x → ⊥

-- the exclusive or of a source and a window, from what their formats mean
abbrev pub exclusive_or_of : {F D : Type 0} → (F → Format) → (D → Format) → (D → Colour → ℕ) → ExclusiveOr F D → Op
exclusive_or_of f d narrow x = record {
  yields = raster_yields (f x.format) (d x.canvas) 6;
  first = origin_of x.first;
  second = image (area_of x.target) (d x.canvas).width;
  format = d x.canvas;
  narrow = narrow x.canvas;
  target = area_of x.target;
}
