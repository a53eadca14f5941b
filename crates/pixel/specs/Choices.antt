-- The rules that choose a colour, or none, which leaves the pixel as it is.
use Rattle.std.specs.Prelude.{◌≡◌, ◌≢◌, ℕ, ◌+◌, ◌*◌, ◌%◌, cond, Some, None, Option, ◌==◌}
use Rattle.colour.specs.declared.Colour.{Colour}

-- a source value that is the key is transparent
abbrev pub keyed : ℕ → ℕ → Colour → Option Colour
keyed value key colour = cond (value == key) None (Some colour)

-- a bit is the lowest bit of the number given
abbrev pub expanded : ℕ → Colour → Colour → Option Colour
expanded bit foreground background = Some (cond (bit % 2 == 1) foreground background)

-- the same, with a 0 transparent
abbrev pub expanded_over : ℕ → Colour → Option Colour
expanded_over bit foreground = cond (bit % 2 == 1) (Some foreground) None

abbrev pub filled : Colour → Option Colour
filled foreground = Some foreground

-- none of the key, and the colour of every other value
pub record IsKeyed (value key : ℕ) (colour : Colour) (o : Option Colour) : Type 0 where
  pub same : value ≡ key → o ≡ None
  pub other : value ≢ key → o ≡ Some colour

-- the first of an odd number, whose lowest bit is 1, and the second of an even one
pub record IsExpanded (bit : ℕ) (one zero : Option Colour) (o : Option Colour) : Type 0 where
  pub odd : (k : ℕ) → bit ≡ 2 * k + 1 → o ≡ one
  pub even : (k : ℕ) → bit ≡ 2 * k → o ≡ zero
