-- Hexadecimal digits and spaces of a line.
use Rattle.std.specs.Prelude.{ℕ, ◌+◌, ◌-◌, ◌*◌, Bool, cond, ◌&&◌, List, Some, None, Option, ◌==◌, nat_le, slice_index}

-- the value of an upper-case hexadecimal digit
abbrev pub digit_value : ℕ → Option ℕ
digit_value c =
    cond (nat_le 48 c && nat_le c 57) (Some (c - 48))
    (cond (nat_le 65 c && nat_le c 70) (Some (c - 55)) None)

-- what two fields give together, where both are there
abbrev pub both_of : {A : Type 0} → (ℕ → ℕ → A) → Option ℕ → Option ℕ → Option A
both_of f None y = None
both_of f (Some a) None = None
both_of f (Some a) (Some b) = Some (f a b)

-- the byte that two digits spell
abbrev pub byte_of : ℕ → ℕ → Option ℕ
byte_of h d = both_of (λ h d. h * 16 + d) (digit_value h) (digit_value d)

-- the byte that the two digits at a place spell; past the end stands 0, which is no digit
abbrev pub byte_at : List ℕ → ℕ → Option ℕ
byte_at l k = byte_of (slice_index l k) (slice_index l (k + 1))

-- a space stands at a place
abbrev pub spaced : List ℕ → ℕ → Bool
spaced l k = slice_index l k == 32
