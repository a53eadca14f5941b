-- A job that is fed in bursts.
use Rattle.std.proofs.Common.{◌≡◌, ℕ, Bool, true, false, List, ◌++◌, length, sym, refl, ap, ◌∙◌}
use Rattle.std.proofs.lemmas.List.{nil_from_length}
use Rattle.feeding.proofs.Feeding.{fed_ended, in_parts}
use Rattle.colour.specs.declared.Palette.{Palette}
use Rattle.engine.specs.Fed.{takes_at, byte_come}
use Rattle.engine.proofs.Laws.{fed_grew}
use Rattle.job.specs.Plans.{op_at}
use Rattle.job.specs.Works.{Work, serves, awaits, stage_of, at_stage, fed_stage, feed_after}

module _ (w : Work) (p : Palette) (m : List ℕ) (fits : serves w m ≡ true) where
  -- a declined feed too is the bytes, one after another
  pub feed_is : (xs : List ℕ) → feed_after w p m xs ≡ fed_stage w p m xs
  feed_is xs = by (awaits w) refl
    where
      by : (b : Bool) → awaits w ≡ b → feed_after w p m xs ≡ fed_stage w p m xs
      by true e = rw (fits, e)
      by false e = rw (fits, e) (sym (fed_ended (takes_at (op_at w.plan)) (byte_come (op_at w.plan) p) (stage_of w m) xs e))

  -- memory is as long as it was
  pub still_serves : (xs : List ℕ) (v : Work) (n : List ℕ) → v ≡ at_stage w (fed_stage w p m xs) → n ≡ (fed_stage w p m xs).memory → serves v n ≡ true
  still_serves xs v n job memory = rw (job, memory, (fed_grew (op_at w.plan) p (stage_of w m) xs).only.size) fits

-- on the way from a job w on memory m, by bytes xs: the bytes ys are still to come for the job v on memory n
pub record Going (w : Work) (p : Palette) (m xs : List ℕ) (v : Work) (n ys : List ℕ) : Type 0 where
  pub plan : v.plan ≡ w.plan
  pub size : v.size ≡ w.size
  pub fits : serves v n ≡ true
  pub left : fed_stage v p n ys ≡ fed_stage w p m xs

pub going_starts : (w : Work) (p : Palette) (m xs ys : List ℕ) → ys ≡ xs → serves w m ≡ true → Going w p m xs w m ys
going_starts w p m xs ys all fits = record { plan = refl; size = refl; fits = fits; left = ap (fed_stage w p m) all }

-- bytes and then more
fed_on : (w : Work) (p : Palette) (m xs ys : List ℕ) (v : Work) (n : List ℕ) → v ≡ at_stage w (fed_stage w p m xs) → n ≡ (fed_stage w p m xs).memory
    → fed_stage v p n ys ≡ fed_stage w p m (xs ++ ys)
fed_on w p m xs ys v n job memory =
    rw (job, memory) (sym (in_parts (takes_at (op_at w.plan)) (byte_come (op_at w.plan) p) (stage_of w m) xs ys).after)

module _ {w : Work} {p : Palette} {m xs : List ℕ} {v : Work} {n ys : List ℕ} (g : Going w p m xs v n ys) where
  pub going_more : (bytes rest : List ℕ) (v' : Work) (n' : List ℕ) → ys ≡ bytes ++ rest → v' ≡ at_stage v (fed_stage v p n bytes)
      → n' ≡ (fed_stage v p n bytes).memory → serves v' n' ≡ true → Going w p m xs v' n' rest
  going_more bytes rest v' n' parts job memory fits = record {
    plan = ap (λ u. u.plan) job ∙ g.plan;
    size = ap (λ u. u.size) job ∙ g.size;
    fits = fits;
    left = fed_on v p n bytes rest v' n' job memory ∙ ap (fed_stage v p n) (sym parts) ∙ g.left;
  }

  -- the stage when no byte is still to come
  going_stage : length ys ≡ 0 → stage_of v n ≡ fed_stage w p m xs
  going_stage e = let none = nil_from_length ys e in rw none at g.left

  pub job_ends : length ys ≡ 0 → v ≡ at_stage w (fed_stage w p m xs)
  job_ends e =
      let stage = going_stage e in
      λ i. record { plan = g.plan i; size = g.size i; drawn = (stage i).drawn; waiting = (stage i).waiting }

  pub memory_ends : length ys ≡ 0 → n ≡ (fed_stage w p m xs).memory
  memory_ends e = ap (λ s. s.memory) (going_stage e)
