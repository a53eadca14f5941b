-- Bursts, one after another.
use Rattle.std.proofs.Common.{◌≡◌, ℕ, ◌+◌, ◌<◌, List, [], ◌∷◌, map, length, get_or, take, drop, slice_set, Ok, Err, sym, ap, ◌∙◌, arith}
use Rattle.std.proofs.lemmas.List.{drop_more, drop_all, take_more_set, length-set}
use Rattle.std.proofs.Math.Seq.{take-length}
use Rattle.colour.specs.declared.Palette.{Palette}
use Rattle.job.specs.Works.{Work, at_stage, feed_answer, feed_after}
use Rattle.samples.specs.Samples.{bursts_fed}

-- i bursts were fed, and the rest leads to where all lead
pub record Feeding {B : Type 0} (f : B → List ℕ) (w : Work) (p : Palette) (m : List ℕ) (bs : List B) (i : ℕ) (done : List (ℕ × ℕ)) (w' : Work) (m' : List ℕ) : Type 0 where
  pub rest : bursts_fed (take i done) w' p m' (map f (drop i bs)) ≡ bursts_fed [] w p m (map f bs)
  pub long : length done ≡ length bs

module _ {B : Type 0} (f : B → List ℕ) (w : Work) (p : Palette) (m : List ℕ) (bs : List B) (i : ℕ) (done : List (ℕ × ℕ)) (w' : Work) (m' : List ℕ) (fed : Feeding f w p m bs i done w' m') where
  module _ (d : B) (xs : List ℕ) (below : i < length bs) (is : xs ≡ f (get_or bs i d)) where
    next : bursts_fed (take i done) w' p m' (xs ∷ map f (drop (i + 1) bs)) ≡ bursts_fed [] w p m (map f bs)
    next = rw (drop_more bs i d below, ← is) at fed.rest

    pub one_burst_more : (w'' : Work) (m'' : List ℕ) (a : ℕ × ℕ) → Ok a ≡ feed_answer w' p m' xs
        → w'' ≡ at_stage w' (feed_after w' p m' xs) → m'' ≡ (feed_after w' p m' xs).memory → Feeding f w p m bs (i + 1) (slice_set done i a) w'' m''
    unfolding bursts_fed
    one_burst_more w'' m'' a answer job memory = record {
      rest = rw (take_more_set done i a (omega (arith, fed.long)), job, memory) (rw (← answer) at next);
      long = length-set done i a ∙ fed.long;
    }

    pub burst_declined : (m'' : List ℕ) (n : ℕ) → Err n ≡ feed_answer w' p m' xs → m'' ≡ (feed_after w' p m' xs).memory → (Err n, m'') ≡ bursts_fed [] w p m (map f bs)
    unfolding bursts_fed
    burst_declined m'' n answer memory = rw memory (rw (← answer) at next)

  pub all_bursts : i ≡ length bs → (Ok done, m') ≡ bursts_fed [] w p m (map f bs)
  unfolding bursts_fed
  all_bursts all =
      let none : drop i bs ≡ [] = drop_all i bs (omega arith) in
      let whole : take i done ≡ done = ap (λ n. take n done) (all ∙ sym fed.long) ∙ take-length done in
      rw (none, whole) at fed.rest
