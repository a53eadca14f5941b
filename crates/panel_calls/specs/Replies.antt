-- Answers as plain values, each refusal by its number.
use Rattle.std.specs.Prelude.{ℕ, Result}
use Rattle.refusal.specs.Numbers.{numbered}
use Rattle.panel_calls.specs.declared.Answer.{Answer}
use Rattle.panel_calls.specs.declared.Answer.TheVariants as variant

-- what each call answers; a burst the bytes taken and the pixels drawn
pub data Reply : Type 0 where
  write : Result Unit ℕ → Reply
  read : Result ℕ ℕ → Reply
  burst : Result (ℕ × ℕ) ℕ → Reply
  run : Result ℕ ℕ → Reply
  stop : Result ℕ ℕ → Reply
  status : ℕ → Reply
  memory : Result ℕ ℕ → Reply

abbrev pub reply_of : Answer → Reply
reply_of (variant.Write r) = write (numbered r)
reply_of (variant.Read r) = read (numbered r)
reply_of (variant.Burst r) = burst (numbered r)
reply_of (variant.Run r) = run (numbered r)
reply_of (variant.Stop r) = stop (numbered r)
reply_of (variant.Status v) = status v
reply_of (variant.Memory r) = memory (numbered r)
