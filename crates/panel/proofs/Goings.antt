-- How the history of an operation goes on by the calls of a panel.
use Rattle.std.proofs.Common.{◌≡◌, ℕ, ◌+◌, ◌<◌, Bool, true, false, cond, List, [], ◌++◌, take, Ok, Err, Result, sym, refl, ap, ◌∙◌, subst, arith}
use Rattle.std.proofs.lemmas.Bool.{cond_both}
use Rattle.std.proofs.lemmas.Bool.Decides.{nat_tests}
use Rattle.window.specs.Places.{pixels}
use Rattle.engine.specs.Fed.{Stage}
use Rattle.job.specs.Works.{Work, Story, serves, awaits, runs, at_stage, stage_of, feed_answer, run_answer, FeedsAwaited, RunsAllowed, FeedTakes, FeedGoesOn, RunGoesOn}
use Rattle.panel.specs.declared.activity.Activity.{Activity}
use Rattle.panel.specs.declared.activity.Activity.TheVariants.{Idle, Drawing, Awaiting}
use Rattle.panel.specs.State.{State, under_way}
use Rattle.panel.specs.Histories.{StoryOf, GoneOn, BurstGoesOn}
use Rattle.panel.specs.Histories as panel

-- what is begun has a story, whoever serves it
pub begun_so : (t : State) (start : List ℕ) (w : Work) → Story w t.palette start [] t.memory → StoryOf t (under_way w) start []
begun_so t start w h = cond_both (awaits w) (Awaiting w) (Drawing w) (λ d. StoryOf t d start []) (λ _. h) (λ _. h)

-- a call that was not declined passed its tests
passed : {A : Type 0} (b c : Bool) (x y : A) (m n : ℕ) → ◌≡◌ {A = Result A ℕ} (Ok x) (cond b (cond c (Ok y) (Err m)) (Err n)) → c ≡ true
passed true true x y m n e = refl
passed true false x y m n e = cc
passed false c x y m n e = cc

module _ (s t : State) (w : Work) (start sent : List ℕ) (u : Stage) (story : Story (at_stage w u) s.palette start sent t.memory) where
  -- a test that holds while pixels are left
  gone : (going : Work → Activity) (v : Work) (b : Bool) (count : ℕ) → v ≡ at_stage w u → v.drawn ≡ w.drawn + count → t.doing ≡ cond b (going v) Idle
      → (u.drawn < pixels w.plan.target → b ≡ true) → (u.drawn ≡ pixels w.plan.target → b ≡ false) → GoneOn going w s start sent count t
  gone going v b count e counted d on off = record {
    work = at_stage w u;
    plan = refl;
    counted = sym (ap (λ x. x.drawn) e) ∙ counted;
    story = story;
    left = λ h. d ∙ ap (λ x. cond x (going v) Idle) (on h) ∙ ap going e;
    ended = λ h. d ∙ ap (λ x. cond x (going v) Idle) (off h);
  }

module _ (s t : State) (w v : Work) (u : Stage) (e : v ≡ at_stage w u) (b : Bool) where
  pub burst_on : (xs : List ℕ) (r : ℕ × ℕ) → ◌≡◌ {A = Result (ℕ × ℕ) ℕ} (Ok r) (feed_answer w s.palette s.memory xs) → b ≡ awaits v
      → t.doing ≡ cond b (Awaiting v) Idle → FeedsAwaited w s.memory (Ok r) v → FeedTakes w xs (Ok r) s.memory v t.memory
      → FeedGoesOn w s.palette xs (Ok r) s.memory v t.memory → BurstGoesOn s (Awaiting w) xs (Ok r) t
  burst_on xs r ok is d allowed rest law start sent h =
      let a = passed (serves w s.memory) (awaits w) _ _ _ _ ok in
      let now : b ≡ awaits (at_stage w u) = is ∙ ap awaits e in
      let story : Story (at_stage w u) s.palette start (sent ++ take r.0 xs) t.memory = subst (λ x. FeedGoesOn w s.palette xs (Ok r) s.memory x t.memory) e law start sent h in (
        (rest h.under_way).taken_is,
        gone s t w start (sent ++ take r.0 xs) u story Awaiting v b r.1 e allowed.3 d
            (λ l. now ∙ grind (arith, nat_tests)) (λ l. now ∙ grind (arith, nat_tests)),
      )

  pub run_on : (n k : ℕ) → ◌≡◌ {A = Result ℕ ℕ} (Ok k) (run_answer w s.memory n) → b ≡ runs v → t.doing ≡ cond b (Drawing v) Idle
      → RunsAllowed w s.memory n (Ok k) v → RunGoesOn w s.palette s.memory v t.memory → panel.RunGoesOn s (Drawing w) n (Ok k) t
  run_on n k ok is d allowed law =
      let a = passed (serves w s.memory) (runs w) _ _ _ _ ok in
      let now : b ≡ runs (at_stage w u) = is ∙ ap runs e in (
        allowed.3,
        λ start sent h.
            let story : Story (at_stage w u) s.palette start sent t.memory = subst (λ x. RunGoesOn w s.palette s.memory x t.memory) e law start sent h in
            gone s t w start sent u story Drawing v b k e allowed.4 d
            (λ l. now ∙ grind (arith, nat_tests)) (λ l. now ∙ grind (arith, nat_tests)),
      )
