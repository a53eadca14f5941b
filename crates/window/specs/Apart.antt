-- Bytes that lie apart.
use Rattle.std.specs.Prelude.{ℕ, ◌+◌, ◌<◌, ◌≢◌}

-- x is none of the b addresses from a on
abbrev pub Off : ℕ → ℕ → ℕ → Type 0
Off a b x = (i : ℕ) → i < b → x ≢ a + i

-- the b addresses from a on, and the d from c on, have none in common
abbrev pub Apart : ℕ → ℕ → ℕ → ℕ → Type 0
Apart a b c d = (i : ℕ) → i < b → Off c d (a + i)
