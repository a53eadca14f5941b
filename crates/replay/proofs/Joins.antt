-- The cuts do not show.
use Rattle.std.proofs.Common.{◌≡◌, ℕ, ◌+◌, List, [], ◌∷◌, ◌++◌, refl, ap, ◌∙◌, add_assoc}
use Rattle.panel_calls.specs.Calls.{Call, burst, run}
use Rattle.panel_calls.specs.Replies.{Reply}
use Rattle.panel.specs.State.{State, fresh}
use Rattle.panel.specs.Calls.{answered, left_by, ends}
use Rattle.replay.specs.Lists.{answers, Replayed}
use Rattle.replay.specs.Cuts.{before, joined, Total, bursts, runs, total, both_sums, add, totals, Agree}
use Rattle.replay.proofs.Bursts.{bursts_join, burst_act, burst_counts}
use Rattle.replay.proofs.Runs.{runs_join, run_act, run_count}

-- adding two totals of a group, one after the other, is adding their sum
add_bursts : (a b c : ℕ × ℕ) (ts : List Total) → c ≡ both_sums a b → add (bursts a) (add (bursts b) ts) ≡ add (bursts c) ts
add_bursts a b c (bursts d ∷ ts) h = rw (h, add_assoc a.0 b.0 d.0, add_assoc a.1 b.1 d.1)
add_bursts a b c ts h = rw h

add_runs : (m n k : ℕ) (ts : List Total) → k ≡ m + n → add (runs m) (add (runs n) ts) ≡ add (runs k) ts
add_runs m n k (runs l ∷ ts) h = rw (h, add_assoc m n l)
add_runs m n k ts h = rw h

-- from s on, two lists of calls come to the same
abbrev Alike : State → List Call → List Call → Type 0
Alike s cs ds = Agree (answers s cs) (answers s ds) (ends s cs) (ends s ds)

alike_before : (s : State) (c : Call) (cs : List Call) → Alike s (c ∷ cs) (before c cs)
alike_before s (burst xs) (burst ys ∷ cs) =
    let j = bursts_join s xs ys in
    let t = burst_act s xs in
    record {
      answers = rw (← j.after) (add_bursts (burst_counts s xs) (burst_counts t ys) (burst_counts s (xs ++ ys)) (totals (answers (burst_act t ys) cs)) j.counted);
      state = ap (λ u. ends u cs) j.after;
    }
alike_before s (run m) (run n ∷ cs) =
    let j = runs_join s m n in
    let t = run_act s m in
    record {
      answers = rw (← j.after) (add_runs (run_count s m) (run_count t n) (run_count s (m + n)) (totals (answers (run_act t n) cs)) j.counted);
      state = ap (λ u. ends u cs) j.after;
    }
alike_before s c cs = record { answers = refl; state = refl }

-- a list and its joined list
alike_joined : (s : State) (cs : List Call) → Alike s cs (joined cs)
alike_joined s [] = record { answers = refl; state = refl }
alike_joined s (c ∷ cs) =
    let rest = alike_joined (left_by s c) cs in
    let first = alike_before s c (joined cs) in
    record { answers = ap (add (total (answered s c))) rest.answers ∙ first.answers; state = rest.state ∙ first.state }

pub replays_agree : {m n : List ℕ} {cs ds : List Call} {u v : State} {rs qs : List Reply}
    → Replayed (fresh m) cs [] u rs → Replayed (fresh n) ds [] v qs → m ≡ n → joined cs ≡ joined ds → Agree rs qs u v
replays_agree {m} {n} {cs} {ds} f g h e =
    let one = alike_joined (fresh m) cs in
    let two = alike_joined (fresh n) ds in
    record { answers = cc; state = cc }
