-- Pixel values in memory, low byte first.
use Rattle.std.specs.Prelude.{◌≡◌, ℕ, zero, suc, ◌+◌, ◌*◌, ◌/◌, ◌%◌, ◌^◌, ◌<◌, ◌≤◌, List, length, slice_index, slice_set}
use Rattle.window.specs.Apart.{Off}

-- the number that b bytes from a on hold
unfoldable pub value_at : List ℕ → ℕ → ℕ → ℕ
value_at m a zero = 0
value_at m a (suc b) = slice_index m a + 256 * value_at m (a + 1) b

-- memory with b bytes of v from a on
unfoldable pub stored : List ℕ → ℕ → ℕ → ℕ → List ℕ
stored m a zero v = m
stored m a (suc b) v = stored (slice_set m a (v % 256)) (a + 1) b (v / 256)

-- byte i of v, from the lowest, is the one at a + i, and v has no more than b bytes
pub record LowByteFirst (m : List ℕ) (a b v : ℕ) : Type 0 where
  pub bytes : (i : ℕ) → i < b → v / 256 ^ i % 256 ≡ slice_index m (a + i)
  pub few : v < 256 ^ b

-- memory n is m with b bytes from a on replaced by those of v, low byte first
pub record Replaced (a b v : ℕ) (m n : List ℕ) : Type 0 where
  pub size : length n ≡ length m
  pub bytes : (i : ℕ) → i < b → slice_index n (a + i) ≡ v / 256 ^ i % 256
  pub rest : (x : ℕ) → Off a b x → slice_index n x ≡ slice_index m x

-- so it is where the b bytes from a on lie inside memory
abbrev pub ReplacedInside : ℕ → ℕ → ℕ → List ℕ → List ℕ → Type 0
ReplacedInside a b v m n = a + b ≤ length m → Replaced a b v m n
