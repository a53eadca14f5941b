-- What a caller in C is answered.
use Rattle.std.specs.Prelude.{ℕ, ℤ, pos, neg_ℤ, Ok, Err, Result}

-- the pixels drawn, or minus the number of the refusal
abbrev pub signed : Result ℕ ℕ → ℤ
signed (Ok n) = pos n
signed (Err n) = neg_ℤ (pos n)
