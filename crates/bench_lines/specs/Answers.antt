-- How an answer is written.
use Rattle.std.specs.Prelude.{ℕ, ◌+◌, ◌/◌, ◌%◌, cond, List, [], ◌∷◌, ◌++◌, codes, nat_lt}
use Rattle.refusal.specs.Numbers.{number_of}
use Rattle.bench_lines.specs.declared.answer.Answer.{Answer}
use Rattle.bench_lines.specs.declared.answer.Answer.TheVariants as answer

-- an answer as it is written, a refusal by its number
pub data Reply : Type 0 where
  done : Reply
  byte : ℕ → Reply
  count : ℕ → Reply
  -- the bytes taken and the pixels drawn
  counts : ℕ → ℕ → Reply
  refused : ℕ → Reply
  malformed : Reply

abbrev pub reply_of : Answer → Reply
reply_of answer.Done = done
reply_of (answer.Byte b) = byte b
reply_of (answer.Count n) = count n
reply_of (answer.Counts t d) = counts t d
reply_of (answer.Refused r) = refused (number_of r)
reply_of answer.Malformed = malformed

-- the upper-case hexadecimal digit of a number below 16
abbrev pub digit : ℕ → ℕ
digit n = cond (nat_lt n 10) (48 + n) (55 + n)

-- two digits
abbrev pub hex_byte : ℕ → List ℕ
hex_byte b = digit (b / 16 % 16) ∷ digit (b % 16) ∷ []

-- four digits, the lowest of the number
abbrev pub hex_count : ℕ → List ℕ
hex_count n = digit (n / 4096 % 16) ∷ digit (n / 256 % 16) ∷ digit (n / 16 % 16) ∷ digit (n % 16) ∷ []

-- two decimal digits
abbrev pub decimal : ℕ → List ℕ
decimal n = (48 + n / 10 % 10) ∷ (48 + n % 10) ∷ []

abbrev pub reply_text : Reply → List ℕ
reply_text done = codes "ok"
reply_text (byte b) = codes "ok " ++ hex_byte b
reply_text (count n) = codes "ok " ++ hex_count n
reply_text (counts t d) = codes "ok " ++ hex_count t ++ 32 ∷ hex_count d
reply_text (refused n) = codes "no " ++ decimal n
reply_text malformed = codes "??"

-- with the line feed that ends it
abbrev pub reply_line : Reply → List ℕ
reply_line r = reply_text r ++ 10 ∷ []
