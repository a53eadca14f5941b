-- Display memory as a list of bytes.
use Rattle.std.specs.Prelude.{ℕ, ◌%◌, ◌<◌, ◌≤◌, cond, List, map, length, Ok, Err, Result, nat_lt, slice_index}
use Rattle.std.specs.List.{range_with_len}

-- what a read answers: the byte, or refusal 12 where the address is not below the size
abbrev pub read_at : List ℕ → ℕ → Result ℕ ℕ
read_at m a = cond (nat_lt a (length m)) (Ok (slice_index m a)) (Err 12)

-- what a put answers
abbrev pub put_at : List ℕ → ℕ → Result Unit ℕ
put_at m a = cond (nat_lt a (length m)) (Ok tt) (Err 12)

-- what every memory keeps
pub record Sound (m : List ℕ) : Type 0 where
  pub short : length m ≤ 16777216
  pub bytes : (k : ℕ) → slice_index m k < 256

-- n bytes, of which the k-th is f k
unfoldable pub view : ℕ → (ℕ → ℕ) → List ℕ
view n f = map (λ k. f k % 256) (range_with_len 0 n)
