-- Strips: the values of pixels that stand in a row, side by side in bytes outside of memory.
use Rattle.std.specs.Prelude.{◌≡◌, ℕ, ◌+◌, ◌-◌, ◌*◌, ◌/◌, ◌%◌, ◌^◌, ◌<◌, List, length, slice_index}
use Rattle.window.specs.Apart.{Apart}
use Rattle.window.specs.Values.{value_at}
use Rattle.source.specs.Origins.{Origin, unused, host, host_bits, image, pattern, bits, taken_from, taken, sampled}

-- how many bytes a value has there: of a number that the host sent all four, of a bit one
abbrev pub value_bytes : Origin → ℕ
value_bytes unused = 0
value_bytes (host _) = 4
value_bytes (host_bits _) = 1
value_bytes (image _ b) = b
value_bytes (pattern _ b _) = b
value_bytes (bits _ _) = 1

-- x holds n values side by side, value i that of pixel k + i, from what memory m holds and what the host sent
abbrev pub HoldsValues : Origin → List ℕ → ℕ → ℕ → ℕ → List ℕ → Type 0
HoldsValues o m sent k n x = (i : ℕ) → i < n → value_at x (i * value_bytes o) (value_bytes o) ≡ sampled o m sent (k + i)

-- none of the n pixels from k on takes a byte that an earlier one of them wrote, where they are written side by side from `at` on,
-- b bytes each
abbrev pub Ahead : Origin → ℕ → ℕ → ℕ → ℕ → Type 0
Ahead o k n at b = (i : ℕ) → i < n → Apart (taken_from o (k + i)) (taken o) at (i * b)

-- x holds bits of other bytes, each as a byte, from bit d on, counted from the top bit of the first byte
abbrev pub SpreadBits : List ℕ → ℕ → List ℕ → Type 0
SpreadBits bytes d x = (i : ℕ) → i < length x → slice_index x i ≡ slice_index bytes ((d + i) / 8) / 2 ^ (7 - (d + i) % 8) % 2

-- the place of byte j where the bytes of each unit of so many bits stand the other way round
abbrev pub turned : ℕ → ℕ → ℕ
turned unit j = j / (unit / 8) * (unit / 8) + (unit / 8 - 1 - j % (unit / 8))
