-- In whatever state calls have left a new panel, a call is declined with a number of its own.
use Rattle.std.proofs.Common.{◌≡◌, ℕ, ◌-◌, ◌≤◌, min, Bool, true, false, cond, ◌&&◌, List, [], ◌∷◌, length, leb, ltb as nat_lt, slice_index, is_some, Some, None, Ok, Err, Option, Result, IfSome, refl, sym, ap, ◌∙◌, ◌==◌, subst, lit≤, arith}
use Rattle.std.proofs.Math.Nat.{le-mul_of_pos_right}
use Rattle.std.proofs.lemmas.Bool.{cond_both}
use Rattle.std.proofs.lemmas.Bool.Decides.{nat_tests}
use Rattle.window.specs.declared.area.Area.{Area}
use Rattle.window.specs.Limits.{within}
use Rattle.window.specs.Places.{pixels}
use Rattle.window.proofs.Limits.{limits}
use Rattle.source.specs.Origins.{awaited}
use Rattle.engine.specs.Fed.{bytes_taken}
use Rattle.engine.proofs.Laws.{painted_length, fed_grew}
use Rattle.palette_load.specs.Loads.{loading, loaded_by, unfinished}
use Rattle.panel_calls.specs.Calls.{Call, write, read, burst, run, stop, status, memory}
use Rattle.panel_calls.specs.Replies.{Reply}
use Rattle.job.specs.Plans.{plan_at, op_at}
use Rattle.job.specs.Grounds.{lowest, depths_taken, start_fits, level_fits, first_limited, second_limited, all_limited, inside}
use Rattle.job.specs.Operations.{operation_at, first_kind, uses_second}
use Rattle.job.specs.Works.{judged, serves, awaits, runs, left, fresh_work, at_stage, stage_of, run_stage, fed_stage}
use Rattle.panel.specs.declared.activity.Activity.{Activity}
use Rattle.panel.specs.declared.activity.Activity.TheVariants.{Idle, Drawing, Awaiting, PaletteLoad}
use Rattle.panel.specs.Registers.{exists, settings_of}
use Rattle.panel.specs.State.{State, fresh, busy, with_doing, with_register, starts, opens, started_in, started, written, new_load, under_way, shown, answer_of, after_of, burst_answer, burst_after, run_answer, run_after, fed_in, ran, stop_answer}
use Rattle.panel.specs.Calls.{awaiting, drawing, answered, left_by, refusal_in, declined_by, OwnNumber, ends, LeftByCalls}

-- memory serves what is under way, and there is something left of it
abbrev Served : List ℕ → Activity → Type 0
Served m Idle = Unit {0}
Served m (Drawing w) = (serves w m ≡ true) × (runs w ≡ true)
Served m (Awaiting w) = (serves w m ≡ true) × (awaits w ≡ true)
Served m (PaletteLoad l) = Unit {0}

abbrev Fits : State → Type 0
Fits s = Served s.memory s.doing

-- what goes on as it was, or has ended
still : (m : List ℕ) (d : Activity) (b : Bool) → (b ≡ true → Served m d) → Served m (cond b d Idle)
still m d b h = cond_both b d Idle (Served m) h (λ _. tt)

read_so : {A : Type 0} (b : Bool) (x : A) (k : ℕ) → IfSome (refusal_in (cond b (Ok x) (Err k))) (λ n. n ≡ k)
read_so true x k = tt
read_so false x k = refl

stop_so : (d : Activity) → IfSome (refusal_in (stop_answer d)) (λ n. (busy d ≡ false) × (n ≡ 11))
stop_so Idle = (refl, refl)
stop_so (Drawing w) = tt
stop_so (Awaiting w) = tt
stop_so (PaletteLoad l) = tt

-- a start that is accepted passed the test of the limits
start_so : (P : Option ℕ → Type 0) (a b c d e f : Bool) → (e ≡ true → P None) → ((n : ℕ) → (1 ≤ n) × (n ≤ 8) → P (Some n)) → P (lowest a b c d e f)
start_so P false b c d e f h g = g 3 (lit≤ tt, lit≤ tt)
start_so P true false c d e f h g = g 4 (lit≤ tt, lit≤ tt)
start_so P true true false d e f h g = g 5 (lit≤ tt, lit≤ tt)
start_so P true true true false e f h g = g 6 (lit≤ tt, lit≤ tt)
start_so P true true true true false f h g = g 7 (lit≤ tt, lit≤ tt)
start_so P true true true true true false h g = g 8 (lit≤ tt, lit≤ tt)
start_so P true true true true true true h g = h refl

-- a window within the limits has pixels, so what awaits no byte can be run
fresh_runs : (f g : Bool) (a : Area) (n : ℕ) → (f && (g && within 8191 a)) ≡ true → (nat_lt 0 n && nat_lt 0 (pixels a)) ≡ false → (n == 0 && nat_lt 0 (pixels a)) ≡ true
fresh_runs false g a n e h = cc
fresh_runs true false a n e h = cc
fresh_runs true true a n e h =
    let l = limits a e in
    let some : 1 ≤ pixels a = omega (arith, le-mul_of_pos_right {m = a.height} a.width l.height_some, l.width_some) in
    grind (arith, nat_tests)

module _ (s : State) (f : Fits s) where
  -- a job that memory serves and of which something is left is not declined
  served_so : {A : Type 0} (Q : ℕ → Type 0) (b c : Bool) (x : A) (k : ℕ) (t : State) → (b ≡ true) × (c ≡ true) → Fits t
      → Fits (cond (b && c) t s) × IfSome (refusal_in (cond b (cond c (Ok x) (Err k)) (Err 8))) Q
  served_so Q b c x k t h g = rw (h.0, h.1) (g, tt)

  burst_so : (d : Activity) (xs : List ℕ) → Served s.memory d → Fits (burst_after s d xs) × IfSome (refusal_in (burst_answer s d xs)) (λ n. (awaiting d ≡ false) × (n ≡ 9))
  burst_so Idle xs h = (f, (refl, refl))
  burst_so (Drawing w) xs h = (f, (refl, refl))
  burst_so (Awaiting w) xs h =
      let t = fed_stage w s.palette s.memory xs in
      let size = (fed_grew (op_at w.plan) s.palette (stage_of w s.memory) xs).only.size in
      served_so (λ n. (true ≡ false) × (n ≡ 9)) (serves w s.memory) (awaits w) (bytes_taken (op_at w.plan) s.palette (stage_of w s.memory) xs, t.drawn - w.drawn) 9 (fed_in s w xs) h
      (still t.memory (Awaiting (at_stage w t)) (awaits (at_stage w t)) (λ e. (ap (leb w.size) size ∙ h.0, e)))
  burst_so (PaletteLoad l) xs h =
      let t = loaded_by (loading s.palette l) xs in
      (still s.memory (PaletteLoad (record { entries = t.entries; waiting = t.waiting })) (unfinished t.entries) (λ _. tt), tt)

  run_so : (d : Activity) (n : ℕ) → Served s.memory d → Fits (run_after s d n) × IfSome (refusal_in (run_answer s d n)) (λ k. (drawing d ≡ false) × (k ≡ 10))
  run_so Idle n h = (f, (refl, refl))
  run_so (Drawing w) n h =
      let t = run_stage w s.palette s.memory n in
      let size = painted_length (op_at w.plan) s.palette 0 w.drawn (min n (left w)) s.memory in
      served_so (λ k. (true ≡ false) × (k ≡ 10)) (serves w s.memory) (runs w) (min n (left w)) 10 (ran s w n) h
      (still t.memory (Drawing (at_stage w t)) (runs (at_stage w t)) (λ e. (ap (leb w.size) size ∙ h.0, e)))
  run_so (Awaiting w) n h = (f, (refl, refl))
  run_so (PaletteLoad l) n h = (f, (refl, refl))

  -- what a write comes to, of a start or of another
  abbrev Wrote : Bool → Result State ℕ → Type 0
  Wrote b x = Fits (after_of s x) × IfSome (refusal_in (answer_of x)) (λ n. (1 ≤ n) × (n ≤ cond b 8 2))

  wrote : (a b c : Bool) (x : Result State ℕ) (t : State) → Wrote true x → Fits t → Wrote c (cond a (cond b (Err 2) (cond c x (Ok t))) (Err 1))
  wrote false b true x t h k = (f, (lit≤ tt, lit≤ tt))
  wrote false b false x t h k = (f, (lit≤ tt, lit≤ tt))
  wrote true true true x t h k = (f, (lit≤ tt, lit≤ tt))
  wrote true true false x t h k = (f, (lit≤ tt, lit≤ tt))
  wrote true false true x t h k = h
  wrote true false false x t h k = (k, tt)

  write_so : (r v : ℕ) → Wrote (starts r v) (written s r v)
  write_so r v =
      let m = s.memory in
      let stored = with_register s r v in
      let load = with_doing stored (PaletteLoad new_load) in
      let set = settings_of s.registers v in
      let n = set.operation in
      let w = fresh_work (plan_at set) (length m) in
      let same : serves w m ≡ true = grind (arith, nat_tests) in
      let limited = fresh_runs (first_limited set (first_kind n)) (second_limited set (uses_second n)) w.plan.target (awaited w.plan.first) in
      let begun : all_limited set n ≡ true → Served m (under_way w) = λ e. cond_both (awaits w) (Awaiting w) (Drawing w) (Served m) (λ h. (same, h)) (λ h. (same, limited e h)) in
      wrote (exists r) (busy s.doing) (starts r v) (started s r v) (cond (opens r v) load stored)
      (start_so (λ o. Wrote true (started_in stored (judged set (length m) o))) (is_some (operation_at n)) (depths_taken set n) (start_fits set (first_kind n)) (level_fits set n)
      (all_limited set n) (inside w.plan w.size) (λ e. (begun e, tt)) (λ k h. (f, h)))
      (cond_both (opens r v) load stored Fits (λ _. tt) (λ _. f))

  call_so : (c : Call) → Fits (left_by s c) × IfSome (declined_by (answered s c)) (OwnNumber s.doing c)
  call_so (write r v) = write_so r v
  call_so (read r) = (f, read_so (exists r) (shown s.doing r (slice_index s.registers r)) 1)
  call_so (burst xs) = burst_so s.doing xs f
  call_so (run n) = run_so s.doing n f
  call_so stop = (tt, stop_so s.doing)
  call_so status = (f, tt)
  call_so (memory a) = (f, read_so (nat_lt a (length s.memory)) (slice_index s.memory a) 12)

all_so : (s : State) (cs : List Call) → Fits s → Fits (ends s cs)
all_so s [] f = f
all_so s (c ∷ cs) f = all_so (left_by s c) cs (call_so s f c).0

pub own_number : (s : State) (c : Call) (q : Reply) → q ≡ answered s c → LeftByCalls s → IfSome (declined_by q) (OwnNumber s.doing c)
own_number s c q e r = rw e (call_so s (subst Fits (sym r.is) (all_so (fresh r.memory) r.made tt)) c).1
