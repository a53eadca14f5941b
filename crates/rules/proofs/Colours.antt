-- What each rule does in colours, and that it does the same on plain values, narrowed.
use Rattle.std.proofs.Common.{◌≡◌, ℕ, Some, refl, sym, ap, ◌∙◌}
use Rattle.std.specs.Option.{option_map}
use Rattle.colour.specs.declared.Colour.{Colour}
use Rattle.colour.specs.declared.Palette.{Palette}
use Rattle.colour.specs.declared.fields.Fields.{Fields}
use Rattle.colour.specs.Channels.{rgb}
use Rattle.colour.specs.Formats.{Format, Narrows}
use Rattle.colour.specs.Unpacks.{Unpacks, Packs}
use Rattle.pixel.specs.Rasters.{rastered}
use Rattle.rules.specs.Yields.{Yields, raster_yields, key_yields, blend_yields}
use Rattle.rules.specs.Values.{Agrees}
use Rattle.rules.specs.Colours.{Colours}
use Rattle.rules.specs.declared.values.ColourRule.TheVariants.{First, Raster, Key, Blend}
use Rattle.rules.specs.declared.values.ValueRule.{ValueRule}
use Rattle.rules.specs.declared.values.ValueRule.TheVariants.{First as ValueFirst, Raster as ValueRaster, Key as ValueKey, Blend as ValueBlend}
use Rattle.rules.proofs.PlainValues.{rastered_twelve, raster_agrees, key_agrees, blend_agrees}

-- of sources whose values are made of known fields
module _ (f s : Format) (g : Fields) (u : Unpacks f g) where
  pub first_colours : (rule : ℕ) → rule ≡ 12 → Colours (raster_yields f s rule) (First g)
  first_colours rule e p a b = ap Some (ap (λ r. rastered r (f.colour p a) (s.colour p b)) e ∙ rastered_twelve (f.colour p a) (s.colour p b) (f.wide p a) ∙ u p a)

  module _ (w : Unpacks s g) where
    pub raster_colours : (rule : ℕ) → Colours (raster_yields f s rule) (Raster rule g)
    raster_colours rule p a b = rw (u p a, w p b) refl

    pub blend_colours : (level : ℕ) → Colours (blend_yields f s level) (Blend level g)
    blend_colours level p a b = rw (u p a, w p b) refl

-- on a canvas
module _ (y : Yields) (d : Format) (narrow : Colour → ℕ) where
  as_another : (z : Yields) (v : ValueRule) → ((p : Palette) (a b : ℕ) → y p a b ≡ z p a b) → Agrees z d narrow v → Agrees y d narrow v
  as_another z v same agrees p a b h = ap (option_map narrow) (same p a b) ∙ agrees p a b h

  -- of these fields
  module _ (g : Fields) (u : Unpacks d g) where
    pub blend_narrows : (level : ℕ) → Packs narrow g → Colours y (Blend level g) → Agrees y d narrow (ValueBlend level g)
    blend_narrows level packs e =
        as_another (blend_yields d d level) (ValueBlend level g) (λ p a b. rw (u p a, u p b) (e p a b)) (blend_agrees d narrow d d level g u u packs)

    module _ (laws : Narrows d narrow) where
      pub first_narrows : Colours y (First g) → Agrees y d narrow ValueFirst
      first_narrows e p a b h = ap (option_map narrow) (e p a b) ∙ ap Some (ap narrow (sym (u p a)) ∙ laws.back p a h)

      pub raster_narrows : (rule : ℕ) → Colours y (Raster rule g) → Agrees y d narrow (ValueRaster rule)
      raster_narrows rule e =
          as_another (raster_yields d d rule) (ValueRaster rule) (λ p a b. rw (u p a, u p b) (e p a b)) (raster_agrees d narrow laws d d rule (λ p v. refl) (λ p v. refl))

      pub key_narrows : (key : ℕ) → Colours y (Key key g) → Agrees y d narrow (ValueKey key)
      key_narrows key e =
          as_another (key_yields d (λ c. key) (rgb 0 0 0)) (ValueKey key) (λ p a b. rw (u p a) (e p a b)) (key_agrees d narrow laws d (λ c. key) (rgb 0 0 0) key refl (λ p v. refl))
