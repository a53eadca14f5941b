-- What clearing gave, and what is then drawn.
use Rattle.std.proofs.Common.{◌≡◌, ℕ, true, List, length, replicate, Some, None, Ok, Err, Option, ap, ◌∙◌, arith}
use Rattle.std.proofs.lemmas.Bool.Decides.{nat_tests}
use Rattle.colour.specs.declared.Palette.{Palette}
use Rattle.job.specs.declared.settings.Settings.{Settings}
use Rattle.job.specs.Grounds.{grounds}
use Rattle.job.specs.Plans.{plan_at}
use Rattle.job.specs.Works.{Work, cleared, declined, judged, clearing, fresh_work, serves}
use Rattle.speed.specs.Jobs.{blank, ended, pixels_drawn, job_answer, memory_left, job_memory}

-- a new palette
pub blank_is : (p : Palette) → p.entries ≡ replicate 64 0 → p ≡ blank
blank_is p e = λ i. record { entries = e i }

judged_cleared : (s : Settings) (size : ℕ) (o : Option ℕ) (w : Work) → cleared w ≡ judged s size o → w ≡ fresh_work (plan_at s) size
judged_cleared s size None w e = cc
judged_cleared s size (Some n) w e = cc

module _ (s : Settings) (m xs : List ℕ) where
  -- the memory that a job was cleared for serves it
  pub serves_cleared : (w : Work) → cleared w ≡ clearing s (length m) → serves w m ≡ true
  serves_cleared w e = rw (judged_cleared s (length m) (grounds s (length m)) w e) (grind (arith, nat_tests))

  pub answer_cleared : (w : Work) (k : ℕ) → cleared w ≡ clearing s (length m) → k ≡ (ended w blank m xs).drawn → Ok k ≡ job_answer s m xs
  answer_cleared w k e pixels = ap Ok pixels ∙ ap (λ c. pixels_drawn c m xs) e

  pub answer_declined : (t : Settings) (k : ℕ) → declined t k ≡ clearing s (length m) → Err k ≡ job_answer s m xs
  answer_declined t k e = ap (λ c. pixels_drawn c m xs) e

  pub memory_cleared : (w : Work) (n : List ℕ) → cleared w ≡ clearing s (length m) → n ≡ (ended w blank m xs).memory → n ≡ job_memory s m xs
  memory_cleared w n e after = after ∙ ap (λ c. memory_left c m xs) e

  pub memory_declined : (t : Settings) (k : ℕ) → declined t k ≡ clearing s (length m) → m ≡ job_memory s m xs
  memory_declined t k e = ap (λ c. memory_left c m xs) e
