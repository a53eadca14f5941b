-- The exclusive or, made of complements and ands: so narrowing keeps it too.
use Rattle.std.proofs.Common.{◌≡◌, ℕ, ◌<◌, ◌*◌, ◌^◌, sym, ap, ◌∙◌, arith}
use Rattle.std.specs.Int.{bit_at}
use Rattle.std.proofs.lemmas.Nat.{and_le_l, xor_lt}
use Rattle.std.proofs.lemmas.Nat.Bits.{bit_at_and, bit_at_xor, same_from_bits_below}
use lib.Bits.{bit_and, bit_xor, and_lt, xor_assoc, xor_self, xor_zero_l}
use Rattle.colour.specs.declared.Colour.{Colour}
use Rattle.colour.specs.declared.Palette.{Palette}
use Rattle.colour.specs.Channels.{Channels, both, complement, xored}
use Rattle.colour.specs.Formats.{Format, Narrows}
use Rattle.colour.proofs.Bits.{turned, turned_lt, turned_bit}

abbrev made : ℕ → ℕ → ℕ → ℕ
made n x y = turned n (bit_and (turned n (bit_and x (turned n y))) (turned n (bit_and (turned n x) y)))

pub xor_made : (n x y : ℕ) → x < 2 ^ n → y < 2 ^ n → made n x y ≡ bit_xor x y
xor_made n x y h k = same_from_bits_below n (made n x y) (bit_xor x y) (turned_lt n _) (xor_lt n x y h k) each
  where
    each : (i : ℕ) → i < n → bit_at (made n x y) i ≡ bit_at (bit_xor x y) i
    each i l =
        let y' = turned n y in
        let x' = turned n x in
        let left = bit_and x y' in
        let right = bit_and x' y in
        let left_lt = and_lt n x y' h (turned_lt n y) in
        let right_lt = and_lt n x' y (turned_lt n x) k in
        rw (
          turned_bit n (bit_and (turned n left) (turned n right)) i (and_lt n _ _ (turned_lt n left) (turned_lt n right)) l,
          bit_at_and (turned n left) (turned n right) i,
          turned_bit n left i left_lt l,
          turned_bit n right i right_lt l,
          bit_at_and x y' i,
          bit_at_and x' y i,
          turned_bit n x i h l,
          turned_bit n y i k l,
          bit_at_xor x y i,
        )
        (omega arith)

xored_made : (c d : Colour) → Channels c → Channels d
    → xored c d ≡ complement (both (complement (both c (complement d))) (complement (both (complement c) d)))
xored_made c d h k = rw (← xor_made 8 c.red d.red h.red k.red, ← xor_made 8 c.green d.green h.green k.green, ← xor_made 8 c.blue d.blue h.blue k.blue)

complement_channels : (c : Colour) → Channels (complement c)
complement_channels c = record { red = omega arith; green = omega arith; blue = omega arith }

both_channels : (c d : Colour) → Channels c → Channels (both c d)
both_channels c d h = record {
  red = omega (arith, and_le_l c.red d.red, h.red);
  green = omega (arith, and_le_l c.green d.green, h.green);
  blue = omega (arith, and_le_l c.blue d.blue, h.blue);
}

module _ (f : Format) (narrow : Colour → ℕ) (laws : Narrows f narrow) where
  pub narrow_xor : (c d : Colour) → Channels c → Channels d → narrow (xored c d) ≡ bit_xor (narrow c) (narrow d)
  narrow_xor c d h k =
      let n = 8 * f.width in
      let c' = complement_channels c in
      let d' = complement_channels d in
      let left = both c (complement d) in
      let right = both (complement c) d in
      let p : narrow (complement left) ≡ turned n (bit_and (narrow c) (turned n (narrow d))) =
      laws.complements left (both_channels c (complement d) h) ∙ ap (turned n) (laws.ands c (complement d) h d' ∙ ap (bit_and (narrow c)) (laws.complements d k)) in
      let q : narrow (complement right) ≡ turned n (bit_and (turned n (narrow c)) (narrow d)) =
      laws.complements right (both_channels (complement c) d c') ∙ ap (turned n) (laws.ands (complement c) d c' k ∙ ap (λ x. bit_and x (narrow d)) (laws.complements c h)) in
      let l' = complement_channels left in
      let r' = complement_channels right in
      ap narrow (xored_made c d h k)
      ∙ laws.complements (both (complement left) (complement right)) (both_channels (complement left) (complement right) l')
      ∙ ap (turned n) (laws.ands (complement left) (complement right) l' r' ∙ ap (λ x. bit_and x (narrow (complement right))) p ∙ ap (bit_and (turned n (bit_and (narrow c) (turned n (narrow d))))) q)
      ∙ xor_made n (narrow c) (narrow d) (laws.fits c h) (laws.fits d k)

  -- twice the same exclusive or gives the value back
  pub twice : (p : Palette) (c : Colour) (v : ℕ) → Channels c → v < 2 ^ (8 * f.width)
      → narrow (xored c (f.colour p (narrow (xored c (f.colour p v))))) ≡ v
  twice p c v h k =
      let n = 8 * f.width in
      let w = narrow c in
      let once : narrow (xored c (f.colour p v)) ≡ bit_xor w v = narrow_xor c (f.colour p v) h (f.wide p v) ∙ ap (bit_xor w) (laws.back p v k) in
      let fits : bit_xor w v < 2 ^ n = xor_lt n w v (laws.fits c h) k in
      ap (λ x. narrow (xored c (f.colour p x))) once
      ∙ narrow_xor c (f.colour p (bit_xor w v)) h (f.wide p (bit_xor w v))
      ∙ ap (bit_xor w) (laws.back p (bit_xor w v) fits)
      ∙ sym (xor_assoc w w v) ∙ ap (λ x. bit_xor x v) (xor_self w) ∙ xor_zero_l v
