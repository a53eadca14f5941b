-- What holds of each channel.
use Rattle.std.specs.Prelude.{ℕ, Some, None, Option}
use Rattle.colour.specs.declared.Colour.{Colour}

-- each channel of e stands so to those of c and d
pub record EachChannel (P : ℕ → ℕ → ℕ → Type 0) (c d e : Colour) : Type 0 where
  pub red : P c.red d.red e.red
  pub green : P c.green d.green e.green
  pub blue : P c.blue d.blue e.blue

-- there is a colour, and each of its channels stands so to those of c and d
abbrev pub SomeEach : (ℕ → ℕ → ℕ → Type 0) → Colour → Colour → Option Colour → Type 0
SomeEach P c d None = ⊥
SomeEach P c d (Some e) = EachChannel P c d e
