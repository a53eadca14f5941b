-- A job under way, over a memory that serves it.
use Rattle.std.proofs.Common.{◌≡◌, ℕ, ◌+◌, ◌-◌, ◌<◌, ◌≤◌, min, Bool, true, false, ◌&&◌, cond, length, List, Ok, Err, Result, inl, inr, refl, sym, ap, ◌∙◌, ⊎_elim, eqb-true, arith}
use Rattle.std.proofs.lemmas.Bool.{and_parts, cases_lt, lt-ltb, leb-true, leb-false, ltb-true}
use Rattle.std.proofs.lemmas.Bool.Decides.{nat_tests}
use Rattle.colour.specs.declared.Palette.{Palette}
use Rattle.source.specs.Origins.{awaited}
use Rattle.engine.specs.Calls as engine
use Rattle.engine.specs.Inside.{lies_inside}
use Rattle.engine.specs.History.{RunsOn}
use Rattle.engine.proofs.Bytes.{inside_larger}
use Rattle.job.specs.Plans.{op_at}
use Rattle.engine.specs.Fed.{bytes_taken}
use Rattle.engine.proofs.Laws.{fed_grew}
use Rattle.job.specs.Works.{Work, Keeps, Story, stage_of, at_stage, left, serves, awaits, runs, feed_answer, feed_after, fed_stage, run_answer, run_after, run_stage, rectangle, FeedsAwaited, RunsAllowed}

module _ (w : Work) (m : List ℕ) (k : Keeps w) (size : w.size ≤ length m) where
  pub inside : lies_inside (op_at w.plan) (length m) ≡ true
  inside = inside_larger (op_at w.plan) w.size (length m) size k.inside

  served : serves w m ≡ true
  served = grind (arith, nat_tests)

  -- feeds
  module _ (a : awaits w ≡ true) (p : Palette) (xs : List ℕ) where
    pub feed_answer_is : engine.feed_answer (op_at w.plan) p (stage_of w m) xs ≡ feed_answer w p m xs
    feed_answer_is = rw (inside, served, a)

    pub feed_after_is : engine.feed_after (op_at w.plan) p (stage_of w m) xs ≡ feed_after w p m xs
    feed_after_is = rw (inside, served, a)

  -- and runs
  module _ (r : runs w ≡ true) (n : ℕ) where
    by_memory : awaited w.plan.first ≡ 0
    by_memory = eqb-true (awaited w.plan.first) 0 (and_parts _ _ r).0

    count_is : (count : ℕ) → ◌≡◌ {A = Result ℕ ℕ} (Ok count) (engine.draw_answer (op_at w.plan) m w.drawn n) → count ≡ min n (left w)
    count_is count d = let f = rw inside at d in cc

    pub run_answer_is : engine.draw_answer (op_at w.plan) m w.drawn n ≡ run_answer w m n
    run_answer_is = rw (inside, served, r)

    pub run_after_is : (p : Palette) → run_after w p m n ≡ run_stage w p m n
    run_after_is p = rw (served, r)

    pub run_memory_is : (p : Palette) → engine.draw_after (op_at w.plan) p 0 w.drawn n m ≡ (run_stage w p m n).memory
    run_memory_is p = rw inside

    -- the work after so many pixels more
    abbrev pub further : ℕ → Work
    further count = record { plan = w.plan; size = w.size; drawn = w.drawn + count; waiting = w.waiting }

    module _ (count : ℕ) (d : ◌≡◌ {A = Result ℕ ℕ} (Ok count) (engine.draw_answer (op_at w.plan) m w.drawn n)) where
      pub further_is : (p : Palette) → further count ≡ at_stage w (run_after w p m n)
      further_is p = ap further (count_is count d) ∙ sym (ap (at_stage w) (run_after_is p))

      pub further_keeps : Keeps (further count)
      further_keeps =
          let c = count_is count d in
          let u = k.under_way in
          let few = u.few in
          let z = by_memory in
          record { inside = k.inside; under_way = record { own = omega (arith, u.own, c); few = few; none = λ e. omega arith } }

      pub further_story : (p : Palette) (after start sent : List ℕ) → RunsOn (op_at w.plan) p w.drawn (Ok count) m after
          → Story w p start sent m → Story (further count) p start sent after
      further_story p after start sent law s = law by_memory start sent w.waiting s

-- what feeds and runs are allowed, by what they answer
module _ (w : Work) (m : List ℕ) where
  served_by : (b : Bool) → serves w m ≡ b → (b ≡ true → w.size ≤ length m) × (b ≡ false → length m < w.size)
  served_by true e = ((λ _. leb-true w.size (length m) e), (λ f. cc))
  served_by false e = ((λ f. cc), (λ _. leb-false w.size (length m) e))

  awaits_so : awaits w ≡ true → (0 < awaited w.plan.first) × (w.drawn < rectangle w)
  awaits_so a = let p = and_parts _ _ a in (ltb-true 0 (awaited w.plan.first) p.0, ltb-true w.drawn (rectangle w) p.1)

  awaits_not : awaits w ≡ false → 0 < awaited w.plan.first → rectangle w ≤ w.drawn
  awaits_not a h = ⊎_elim (λ l. let z : awaits w ≡ true = rw (lt-ltb _ _ h, lt-ltb w.drawn (rectangle w) l) in cc) (λ l. l) (cases_lt w.drawn (rectangle w))

  runs_so : runs w ≡ true → (awaited w.plan.first ≡ 0) × (w.drawn < rectangle w)
  runs_so a = let p = and_parts _ _ a in (eqb-true (awaited w.plan.first) 0 p.0, ltb-true w.drawn (rectangle w) p.1)

  runs_not : runs w ≡ false → awaited w.plan.first ≡ 0 → rectangle w ≤ w.drawn
  runs_not a z = ⊎_elim (λ l. let y : runs w ≡ true = rw (z, lt-ltb w.drawn (rectangle w) l) in cc) (λ l. l) (cases_lt w.drawn (rectangle w))

  pub runs_allowed : (p : Palette) (n : ℕ) (r : Result ℕ ℕ) (v : Work) → r ≡ run_answer w m n → v ≡ at_stage w (run_after w p m n) → RunsAllowed w m n r v
  runs_allowed p n r v e f = rw (e, f) (by (serves w m) (runs w) refl refl)
    where
      by : (b c : Bool) → serves w m ≡ b → runs w ≡ c
          → RunsAllowed w m n (cond b (cond c (Ok (min n (left w))) (Err 10)) (Err 8)) (at_stage w (cond (b && c) (run_stage w p m n) (stage_of w m)))
      by true true s t = let x = runs_so t in ((served_by true s).0 refl, x.0, x.1, refl, refl)
      by true false s t = inr (refl, (served_by true s).0 refl, runs_not t)
      by false c s t = inl (refl, (served_by false s).1 refl)

  pub feeds_awaited : (p : Palette) (xs : List ℕ) (r : Result (ℕ × ℕ) ℕ) (v : Work) → r ≡ feed_answer w p m xs → v ≡ at_stage w (feed_after w p m xs)
      → FeedsAwaited w m r v
  feeds_awaited p xs r v e f = rw (e, f) (by (serves w m) (awaits w) refl refl)
    where
      by : (b c : Bool) → serves w m ≡ b → awaits w ≡ c
          → FeedsAwaited w m (cond b (cond c (Ok (bytes_taken (op_at w.plan) p (stage_of w m) xs, (fed_stage w p m xs).drawn - w.drawn)) (Err 9)) (Err 8))
          (at_stage w (cond (b && c) (fed_stage w p m xs) (stage_of w m)))
      by true true s t =
          let x = awaits_so t in
          let g = fed_grew (op_at w.plan) p (stage_of w m) xs in
          ((served_by true s).0 refl, x.0, x.1, omega (arith, g.drawn_is))
      by true false s t = inr (refl, (served_by true s).0 refl, awaits_not t)
      by false c s t = inl (refl, (served_by false s).1 refl)
