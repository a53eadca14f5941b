-- Narrowing keeps every raster rule: it is made of complements and ands.
use Rattle.std.proofs.Common.{◌≡◌, ℕ, ◌-◌, ◌*◌, ◌/◌, ◌%◌, ◌^◌, ◌<◌, min, max, true, false, cond, eqb, refl, sym, ap, ◌∙◌, arith}
use Rattle.std.specs.Int.{bit_at}
use Rattle.std.proofs.lemmas.Bool.Decides.{nat_tests}
use Rattle.std.proofs.lemmas.Nat.Bits.{bit_at_and, bit_at-lt, same_from_bits_below}
use lib.Bits.{bit_and, and_lt}
use Rattle.colour.specs.declared.Colour.{Colour}
use Rattle.colour.specs.Channels.{rgb, Channels, complement, both}
use Rattle.colour.specs.Formats.{Format, Narrows}
use Rattle.colour.proofs.Bits.{turned, turned_lt, turned_bit}
use Rattle.pixel.specs.Rasters.{chosen, raster_bits, rastered}
use Rattle.pixel.proofs.Minterms.{raster_lt, raster_bit, bits}

-- what can be made of both sources by complement and and
data Made : Type 0 where
  first : Made
  second : Made
  not' : Made → Made
  and' : Made → Made → Made

unfoldable truth : Made → ℕ → ℕ → ℕ
truth first a b = a
truth second a b = b
truth (not' e) a b = 1 - truth e a b
truth (and' e f) a b = min (truth e a b) (truth f a b)

unfoldable at : ℕ → Made → ℕ → ℕ → ℕ
at n first x y = x
at n second x y = y
at n (not' e) x y = turned n (at n e x y)
at n (and' e f) x y = bit_and (at n e x y) (at n f x y)

unfoldable on : Made → Colour → Colour → Colour
on first c d = c
on second c d = d
on (not' e) c d = complement (on e c d)
on (and' e f) c d = both (on e c d) (on f c d)

at_lt : (n : ℕ) (e : Made) (x y : ℕ) → x < 2 ^ n → y < 2 ^ n → at n e x y < 2 ^ n
unfolding at
at_lt n first x y h k = h
at_lt n second x y h k = k
at_lt n (not' e) x y h k = turned_lt n (at n e x y)
at_lt n (and' e f) x y h k = and_lt n _ _ (at_lt n e x y h k) (at_lt n f x y h k)

at_bit : (n : ℕ) (e : Made) (x y i : ℕ) → x < 2 ^ n → y < 2 ^ n → i < n → bit_at (at n e x y) i ≡ truth e (bit_at x i) (bit_at y i)
unfolding at truth
at_bit n first x y i h k l = refl
at_bit n second x y i h k l = refl
at_bit n (not' e) x y i h k l = turned_bit n (at n e x y) i (at_lt n e x y h k) l ∙ ap (λ b. 1 - b) (at_bit n e x y i h k l)
at_bit n (and' e f) x y i h k l = bit_at_and (at n e x y) (at n f x y) i ∙ ap (λ b. min b (bit_at (at n f x y) i)) (at_bit n e x y i h k l) ∙ ap (min (truth e (bit_at x i) (bit_at y i))) (at_bit n f x y i h k l)

-- one of the four ways in which two bits can stand, kept or dropped
abbrev kept : ℕ → Made → Made
kept b e = cond (eqb (b % 2) 1) e (and' e (not' e))

abbrev or' : Made → Made → Made
or' e f = not' (and' (not' e) (not' f))

abbrev made : ℕ → Made
made rule =
    or' (or' (or' (kept (rule / 8) (and' first second)) (kept (rule / 4) (and' first (not' second)))) (kept (rule / 2) (and' (not' first) second)))
    (kept rule (and' (not' first) (not' second)))

truth_lt : (e : Made) (r s : ℕ) → r < 2 → s < 2 → truth e r s < 2
unfolding truth
truth_lt first r s h k = h
truth_lt second r s h k = k
truth_lt (not' e) r s h k = omega arith
truth_lt (and' e f) r s h k = omega (arith, truth_lt e r s h k)

or_truth : (e f : Made) (r s : ℕ) → r < 2 → s < 2 → truth (or' e f) r s ≡ max (truth e r s) (truth f r s)
unfolding truth
or_truth e f r s h k = omega (arith, truth_lt e r s h k, truth_lt f r s h k)

kept_truth : (b : ℕ) (e : Made) (r s : ℕ) → truth e r s < 2 → truth (kept b e) r s ≡ min (b % 2) (truth e r s)
unfolding truth
kept_truth b e r s h = elim (eqb (b % 2) 1) as (λ t. eqb (b % 2) 1 ≡ t → truth (cond t e (and' e (not' e))) r s ≡ min (b % 2) (truth e r s)) [
  | true ↦ λ q. grind (arith, nat_tests)
  | false ↦ λ q. grind (arith, nat_tests)
] refl

made_truth : (rule r s : ℕ) → r < 2 → s < 2 → truth (made rule) r s ≡ chosen rule r s
unfolding truth
made_truth rule r s h k =
    let k3 = kept (rule / 8) (and' first second) in
    let k2 = kept (rule / 4) (and' first (not' second)) in
    let k1 = kept (rule / 2) (and' (not' first) second) in
    let k0 = kept rule (and' (not' first) (not' second)) in
    rw (
      or_truth (or' (or' k3 k2) k1) k0 r s h k,
      or_truth (or' k3 k2) k1 r s h k,
      or_truth k3 k2 r s h k,
      kept_truth (rule / 8) (and' first second) r s (truth_lt (and' first second) r s h k),
      kept_truth (rule / 4) (and' first (not' second)) r s (truth_lt (and' first (not' second)) r s h k),
      kept_truth (rule / 2) (and' (not' first) second) r s (truth_lt (and' (not' first) second) r s h k),
      kept_truth rule (and' (not' first) (not' second)) r s (truth_lt (and' (not' first) (not' second)) r s h k),
    )
    (bits rule r s h k)

made_raster : (n rule x y : ℕ) → x < 2 ^ n → y < 2 ^ n → at n (made rule) x y ≡ raster_bits n rule x y
made_raster n rule x y h k =
    same_from_bits_below n _ _ (at_lt n (made rule) x y h k) (raster_lt n rule x y)
    (λ i l. at_bit n (made rule) x y i h k l ∙ made_truth rule _ _ (bit_at-lt x i) (bit_at-lt y i) ∙ sym (raster_bit n rule x y i l))

on_channels : (e : Made) (c d : Colour) → on e c d ≡ rgb (at 8 e c.red d.red) (at 8 e c.green d.green) (at 8 e c.blue d.blue)
unfolding on at
on_channels first c d = refl
on_channels second c d = refl
on_channels (not' e) c d = ap complement (on_channels e c d)
on_channels (and' e f) c d = ap (λ x. both x (on f c d)) (on_channels e c d) ∙ ap (both (rgb (at 8 e c.red d.red) (at 8 e c.green d.green) (at 8 e c.blue d.blue))) (on_channels f c d)

on_wide : (e : Made) (c d : Colour) → Channels c → Channels d → Channels (on e c d)
on_wide e c d h k = rw (on_channels e c d) (record { red = at_lt 8 e c.red d.red h.red k.red; green = at_lt 8 e c.green d.green h.green k.green; blue = at_lt 8 e c.blue d.blue h.blue k.blue })

on_raster : (rule : ℕ) (c d : Colour) → Channels c → Channels d → rastered rule c d ≡ on (made rule) c d
on_raster rule c d h k = sym (on_channels (made rule) c d ∙ rw (made_raster 8 rule c.red d.red h.red k.red, made_raster 8 rule c.green d.green h.green k.green, made_raster 8 rule c.blue d.blue h.blue k.blue) refl)

module _ (f : Format) (narrow : Colour → ℕ) (laws : Narrows f narrow) where
  narrow_made : (e : Made) (c d : Colour) → Channels c → Channels d → narrow (on e c d) ≡ at (8 * f.width) e (narrow c) (narrow d)
  unfolding on at
  narrow_made first c d h k = refl
  narrow_made second c d h k = refl
  narrow_made (not' e) c d h k = laws.complements (on e c d) (on_wide e c d h k) ∙ ap (turned (8 * f.width)) (narrow_made e c d h k)
  narrow_made (and' e g) c d h k =
      laws.ands (on e c d) (on g c d) (on_wide e c d h k) (on_wide g c d h k)
      ∙ ap (λ x. bit_and x (narrow (on g c d))) (narrow_made e c d h k) ∙ ap (bit_and (at (8 * f.width) e (narrow c) (narrow d))) (narrow_made g c d h k)

  pub narrow_raster : (rule : ℕ) (c d : Colour) → Channels c → Channels d → narrow (rastered rule c d) ≡ raster_bits (8 * f.width) rule (narrow c) (narrow d)
  narrow_raster rule c d h k =
      ap narrow (on_raster rule c d h k) ∙ narrow_made (made rule) c d h k ∙ made_raster (8 * f.width) rule (narrow c) (narrow d) (laws.fits c h) (laws.fits d k)
