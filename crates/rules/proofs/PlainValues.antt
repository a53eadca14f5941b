-- What a rule does on plain values is what it does through colours.
use Rattle.std.proofs.Common.{◌≡◌, ℕ, zero, suc, ◌+◌, ◌*◌, ◌/◌, ◌%◌, ◌^◌, ◌<◌, Bool, ◌&&◌, true, false, cond, eqb, Some, None, Option, IfSome, refl, sym, ap, subst, ◌∙◌, arith}
use denote.Enum.Bare.{sameb, same_true}
use Rattle.std.specs.Bool.{then_some}
use Rattle.std.specs.Option.{option_map, option_eq}
use Rattle.std.proofs.lemmas.Bool.{false≢true}
use Rattle.std.proofs.lemmas.Nat.{pow-add}
use Rattle.colour.specs.declared.Colour.{Colour}
use Rattle.colour.specs.declared.Palette.{Palette}
use Rattle.colour.specs.declared.fields.Fields.{Fields}
use Rattle.colour.specs.contracts.field.FieldWidth.{the_type}
use Rattle.colour.specs.declared.field.FieldWidth.{FieldWidth}
use Rattle.colour.specs.Channels.{Channels}
use Rattle.colour.specs.Formats.{Format, Narrows}
use Rattle.colour.specs.Unpacks.{Unpacks, Packs}
use Rattle.pixel.specs.Rasters.{raster_channel, raster_bits, rastered}
use Rattle.pixel.specs.Blends.{blended}
use Rattle.pixel.proofs.Rasters.{raster_twelve}
use Rattle.pixel.proofs.Narrowing.{narrow_raster}
use Rattle.pixel.proofs.Split.{raster_low, raster_split}
use Rattle.rules.specs.Yields.{raster_yields, key_yields, expand_yields, expand_over_yields, blend_yields, fill_yields}
use Rattle.rules.specs.Values.{by_bytes, Fits, Agrees}
use Rattle.rules.specs.declared.values.ValueRule.{ValueRule}
use Rattle.rules.specs.declared.values.ValueRule.TheVariants.{Fill, First, Raster, Key, Expand, Blend}

-- bytes make a number of so many bytes
pub by_bytes_lt : (f : ℕ → ℕ → ℕ) → ((x y : ℕ) → x < 256 → y < 256 → f x y < 256) → (b x y : ℕ) → by_bytes f b x y < 2 ^ (8 * b)
unfolding by_bytes
by_bytes_lt f bytes zero x y = omega arith
by_bytes_lt f bytes (suc b) x y =
    let e : 8 * suc b ≡ 8 + 8 * b = omega arith in
    rw (e, pow-add 2 8 (8 * b)) (omega (arith, bytes (x % 256) (y % 256) (omega arith) (omega arith), by_bytes_lt f bytes b (x / 256) (y / 256)))

-- a raster rule byte by byte is the rule on all bits
pub by_bytes_raster : (rule b x y : ℕ) → by_bytes (raster_channel rule) b x y ≡ raster_bits (8 * b) rule x y
unfolding by_bytes raster_bits
by_bytes_raster rule zero x y = refl
by_bytes_raster rule (suc b) x y =
    let e : 8 * suc b ≡ 8 + 8 * b = omega arith in
    let low : raster_bits 8 rule (x % 256) (y % 256) ≡ raster_bits 8 rule x y = raster_low 8 rule x y in
    let all : raster_bits (8 + 8 * b) rule x y ≡ raster_bits 8 rule x y + 256 * raster_bits (8 * b) rule (x / 256) (y / 256) = raster_split 8 (8 * b) rule x y in
    rw (low, by_bytes_raster rule b (x / 256) (y / 256), e, all) refl

-- values of both sources that a pixel holds are what every rule takes
pub both_fit : (v : ValueRule) (b x y : ℕ) → x < 2 ^ (8 * b) → y < 2 ^ (8 * b) → Fits v b x y
both_fit (Fill v) b x y h k = tt
both_fit First b x y h k = h
both_fit (Raster rule) b x y h k = (h, k)
both_fit (Key key) b x y h k = h
both_fit (Expand one other) b x y h k = tt
both_fit (Blend level fields) b x y h k = (h, k)

-- fields whose widths are equal
abbrev same_fields : Fields → Fields → Bool
same_fields g h = sameb the_type g.high h.high && (sameb the_type g.middle h.middle && sameb the_type g.low h.low)

and_both : (a b : Bool) → (a && b) ≡ true → (a ≡ true) × (b ≡ true)
and_both true b e = (refl, e)
and_both false b e = absurd (false≢true e)

equal_fields : (g h : Fields) → same_fields g h ≡ true → g ≡ h
equal_fields g h e =
    let one = and_both _ _ e in
    let two = and_both _ _ one.1 in
    let same : (w u : FieldWidth) → sameb the_type w u ≡ true → w ≡ u = same_true the_type tt in
    rw (same g.high h.high one.0, same g.middle h.middle two.0, same g.low h.low two.1) refl

-- what holds of known fields holds of those that are found to be these
known_same : (P : Fields → Type 0) (known : Option Fields) (h : Fields) → IfSome known P → option_eq same_fields known (Some h) ≡ true → P h
known_same P None h u e = absurd (false≢true e)
known_same P (Some g) h u e = subst P (equal_fields g h e) u

pub unpacks_same : (f : Format) (known : Option Fields) (h : Fields) → IfSome known (Unpacks f) → option_eq same_fields known (Some h) ≡ true → Unpacks f h
unpacks_same f = known_same (Unpacks f)

pub packs_same : (narrow : Colour → ℕ) (known : Option Fields) (h : Fields) → IfSome known (Packs narrow) → option_eq same_fields known (Some h) ≡ true → Packs narrow h
packs_same narrow = known_same (Packs narrow)

-- two formats show the same colour for each value under every palette
abbrev pub SameColours : Format → Format → Type 0
SameColours f g = (p : Palette) (v : ℕ) → f.colour p v ≡ g.colour p v

pub same_colours : (f d : Format) (g : Fields) → Unpacks f g → Unpacks d g → SameColours f d
same_colours f d g u w p v = u p v ∙ sym (w p v)

-- raster rule 12 is the first source
pub rastered_twelve : (c e : Colour) → Channels c → rastered 12 c e ≡ c
rastered_twelve c e h = rw (raster_twelve 8 c.red e.red h.red, raster_twelve 8 c.green e.green h.green, raster_twelve 8 c.blue e.blue h.blue) refl

module _ (d : Format) (narrow : Colour → ℕ) where
  pub fill_agrees : (foreground : Colour) (v : ℕ) → v ≡ narrow foreground → Agrees (fill_yields foreground) d narrow (Fill v)
  fill_agrees foreground v e p a b h = ap Some (sym e)

  pub expand_agrees : (foreground background : Colour) (one other : ℕ) → one ≡ narrow foreground → other ≡ narrow background
      → Agrees (expand_yields foreground background) d narrow (Expand one (Some other))
  expand_agrees foreground background one other e i p a b h =
      rw (e, i)
      (elim (eqb (a % 2) 1) as (λ t. Some (narrow (cond t foreground background)) ≡ cond t (Some (narrow foreground)) (Some (narrow background))) [ true ↦ refl | false ↦ refl ])

  pub expand_over_agrees : (foreground : Colour) (one : ℕ) → one ≡ narrow foreground → Agrees (expand_over_yields foreground) d narrow (Expand one None)
  expand_over_agrees foreground one e p a b h =
      rw e
      (elim (eqb (a % 2) 1) as (λ t. option_map narrow (cond t (Some foreground) None) ≡ cond t (Some (narrow foreground)) None) [ true ↦ refl | false ↦ refl ])

  -- from formats of the same fields
  pub blend_agrees : (f s : Format) (level : ℕ) (g : Fields) → Unpacks f g → Unpacks s g → Packs narrow g
      → Agrees (blend_yields f s level) d narrow (Blend level g)
  blend_agrees f s level g u w packs p a b h =
      ap Some (packs (blended level (f.colour p a) (s.colour p b)) ∙ rw (u p a, w p b) refl)

  module _ (laws : Narrows d narrow) where
    pub key_agrees : (f : Format) (narrow' : Colour → ℕ) (background : Colour) (key : ℕ) → key ≡ narrow' background → SameColours f d
        → Agrees (key_yields f narrow' background) d narrow (Key key)
    key_agrees f narrow' background key e same p a b h =
        let colour : narrow (f.colour p a) ≡ a = ap narrow (same p a) ∙ laws.back p a h in
        rw (← e)
        (elim (eqb a key) as (λ t. option_map narrow (cond t None (Some (f.colour p a))) ≡ cond t None (Some a)) [ true ↦ refl | false ↦ ap Some colour ])

    pub raster_agrees : (f s : Format) (rule : ℕ) → SameColours f d → SameColours s d → Agrees (raster_yields f s rule) d narrow (Raster rule)
    raster_agrees f s rule same same' p a b h =
        ap Some
        (rw (same p a, same' p b)
        (narrow_raster d narrow laws rule (d.colour p a) (d.colour p b) (d.wide p a) (d.wide p b)
        ∙ ap (λ x. raster_bits (8 * d.width) rule x (narrow (d.colour p b))) (laws.back p a h.0)
        ∙ ap (raster_bits (8 * d.width) rule a) (laws.back p b h.1)
        ∙ sym (by_bytes_raster rule d.width a b)))

    pub first_agrees : (f s : Format) (rule : ℕ) → rule ≡ 12 → SameColours f d → Agrees (raster_yields f s rule) d narrow First
    first_agrees f s rule e same p a b h =
        ap Some (ap (λ r. narrow (rastered r (f.colour p a) (s.colour p b))) e ∙ ap narrow (rastered_twelve (f.colour p a) (s.colour p b) (f.wide p a) ∙ same p a) ∙ laws.back p a h)

-- a value that a test lets through has what follows from the test
pub tested : {A : Type 0} (P : A → Type 0) (b : Bool) (v : A) (o : Option A) → o ≡ then_some b v → (b ≡ true → P v) → IfSome o P
tested P true v o e h = rw e (h refl)
tested P false v o e h = rw e tt
