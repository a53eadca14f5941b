-- Which addresses a stretch has.
use Rattle.std.specs.Prelude.{ℕ, ◌+◌, Bool, false, cond, List, length, nat_lt}

-- a stretch of at most `most` bytes from `start` over m has the address a
unfoldable pub has : List ℕ → ℕ → ℕ → ℕ → Bool
has m start most a = cond (nat_lt a most) (nat_lt (start + a) (length m)) false
