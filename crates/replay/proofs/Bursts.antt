-- Two bursts, one after the other, are one burst of their bytes.
use Rattle.std.proofs.Common.{◌≡◌, ℕ, ◌+◌, ◌-◌, ◌≤◌, Bool, true, false, leb, List, ◌++◌, length, refl, ap, arith}
use Rattle.std.specs.Result.{result_unwrap_or}
use Rattle.feeding.specs.Feeding.{all_fed, count_taken}
use Rattle.feeding.proofs.Feeding.{fed_ended, taken_ended, in_parts}
use Rattle.colour.specs.declared.Palette.{Palette}
use Rattle.palette_load.specs.Loads as load
use Rattle.palette_load.specs.Loads.{Loading, loading, unfinished, loaded_by}
use Rattle.engine.specs.Fed.{Stage, takes_at, byte_come, fed}
use Rattle.engine.proofs.Laws.{fed_grew}
use Rattle.job.specs.Plans.{op_at}
use Rattle.job.specs.Works.{Work, serves, awaits, stage_of, at_stage}
use Rattle.panel.specs.declared.activity.Activity.{Activity}
use Rattle.panel.specs.declared.activity.Activity.TheVariants.{Idle, Drawing, Awaiting, PaletteLoad}
use Rattle.panel.specs.State.{State, burst_answer, burst_after, still_awaiting, still_loading}
use Rattle.replay.specs.Cuts.{both_sums}
use Rattle.replay.proofs.Parts.{Join, Follows, join, declined_join}

abbrev pub burst_act : State → List ℕ → State
burst_act s xs = burst_after s s.doing xs

abbrev pub burst_counts : State → List ℕ → ℕ × ℕ
burst_counts s xs = result_unwrap_or (burst_answer s s.doing xs) (0, 0)

-- xs and then ys come to xs ++ ys
abbrev pub BurstsJoin : State → List ℕ → List ℕ → Type 0
BurstsJoin = Join ◌++◌ both_sums burst_act burst_counts

declined : (s : State) → ((xs : List ℕ) → burst_act s xs ≡ s) → ((xs : List ℕ) → burst_counts s xs ≡ (0, 0)) → (xs ys : List ℕ) → BurstsJoin s xs ys
declined = declined_join ◌++◌ both_sums burst_act burst_counts (0, 0) refl

-- bytes that are fed, and what they count for
module _ {S : Type 0} (takes : S → Bool) (come : S → ℕ → S) (mk : S → State) (drawn : S → ℕ) where
  abbrev go : S → List ℕ → S
  go = all_fed takes come

  abbrev amount : S → List ℕ → ℕ × ℕ
  amount x xs = (count_taken takes come x xs, drawn (go x xs) - drawn x)

  abbrev Feeds : State → S → Type 0
  Feeds = Follows ◌++◌ both_sums burst_act burst_counts mk go amount

  fed_join : (s : State) (x : S) → Feeds s x → ((xs : List ℕ) → Feeds (mk (go x xs)) (go x xs)) → ((y : S) (xs : List ℕ) → drawn y ≤ drawn (go y xs))
      → (xs ys : List ℕ) → BurstsJoin s xs ys
  fed_join s x f rest grown xs ys =
      let after = (in_parts takes come x xs ys).after in
      let sum : drawn (go x (xs ++ ys)) - drawn x ≡ drawn (go x xs) - drawn x + (drawn (go (go x xs) ys) - drawn (go x xs)) =
      omega (arith, ap drawn after, grown x xs, grown (go x xs) ys) in
      join ◌++◌ both_sums burst_act burst_counts mk go amount s x f rest xs ys after (rw ((in_parts takes come x xs ys).taken, sum))

-- an operation that the host serves
module _ (w : Work) (regs : List ℕ) (p : Palette) where
  abbrev takes : Stage → Bool
  takes = takes_at (op_at w.plan)

  abbrev come : Stage → ℕ → Stage
  come = byte_come (op_at w.plan) p

  abbrev pub mk : Stage → State
  mk x = record { memory = x.memory; registers = regs; palette = p; doing = still_awaiting (at_stage w x) }

  -- the memory is large enough
  abbrev pub Good : Stage → Type 0
  Good x = leb w.size (length x.memory) ≡ true

  follows : (x : Stage) → Good x → Feeds takes come mk (λ y. y.drawn) (mk x) x
  follows x g = by (awaits (at_stage w x)) refl
    where
      by : (b : Bool) → awaits (at_stage w x) ≡ b → Feeds takes come mk (λ y. y.drawn) (mk x) x
      by true e = record { after = λ _. rw (e, e, g); counted = λ _. rw (e, e, g) }
      by false e =
          let none : 0 ≡ x.drawn - x.drawn = omega arith in
          record { after = λ xs. rw (fed_ended takes come x xs e, e); counted = λ xs. rw (fed_ended takes come x xs e, taken_ended takes come x xs e, ← none, e) }

  pub acts : (x : Stage) (xs : List ℕ) → Good x → burst_act (mk x) xs ≡ mk (fed (op_at w.plan) p x xs)
  acts x xs g = (follows x g).after xs

  awaiting_join : (x : Stage) → Good x → (xs ys : List ℕ) → BurstsJoin (mk x) xs ys
  awaiting_join x g =
      let grew = fed_grew (op_at w.plan) p in
      fed_join takes come mk (λ y. y.drawn) (mk x) x (follows x g) (λ xs. follows (fed (op_at w.plan) p x xs) (rw ((grew x xs).only.size, g)))
      (λ y xs. omega (arith, (grew y xs).drawn_is))

-- a state, by what is under way
module _ (m regs : List ℕ) (p : Palette) where
  abbrev at : Activity → State
  at d = record { memory = m; registers = regs; palette = p; doing = d }

  -- the palette of a load is its own
  abbrev mk_load : Loading → State
  mk_load l = record { memory = m; registers = regs; palette = l.palette; doing = still_loading l }

  abbrev LoadFeeds : State → Loading → Type 0
  LoadFeeds = Feeds load.takes load.come mk_load (λ _. 0)

  load_follows : (l : Loading) → LoadFeeds (mk_load l) l
  load_follows l = by (unfinished l.entries) refl
    where
      by : (b : Bool) → unfinished l.entries ≡ b → LoadFeeds (mk_load l) l
      by true e = record { after = λ _. rw e; counted = λ _. rw e }
      by false e = record {
        after = λ xs. rw (fed_ended load.takes load.come l xs e, e);
        counted = λ xs. rw (taken_ended load.takes load.come l xs e, e);
      }

  join_at : (d : Activity) (xs ys : List ℕ) → BurstsJoin (at d) xs ys
  join_at Idle = declined (at Idle) (λ _. refl) (λ _. refl)
  join_at (Drawing w) = declined (at (Drawing w)) (λ _. refl) (λ _. refl)
  join_at (PaletteLoad l) =
      fed_join load.takes load.come mk_load (λ _. 0) (at (PaletteLoad l)) (loading p l) (record { after = λ _. refl; counted = λ _. refl })
      (λ xs. load_follows (loaded_by (loading p l) xs)) (λ _ _. omega arith)
  join_at (Awaiting w) = by (serves w m) (awaits w) refl refl
    where
      by : (b c : Bool) → serves w m ≡ b → awaits w ≡ c → (xs ys : List ℕ) → BurstsJoin (at (Awaiting w)) xs ys
      by true true e f = let begun : mk w regs p (stage_of w m) ≡ at (Awaiting w) = rw f in rw (← begun) (awaiting_join w regs p (stage_of w m) e)
      by true false e f = declined (at (Awaiting w)) (λ _. rw (e, f)) (λ _. rw (e, f))
      by false c e f = declined (at (Awaiting w)) (λ _. rw e) (λ _. rw e)

pub bursts_join : (s : State) (xs ys : List ℕ) → BurstsJoin s xs ys
bursts_join s = join_at s.memory s.registers s.palette s.doing
