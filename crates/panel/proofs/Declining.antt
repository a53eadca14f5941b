-- A declined call changes nothing.
use Rattle.std.proofs.Common.{◌≡◌, ℕ, ◌-◌, min, Bool, true, false, cond, ◌&&◌, List, Some, None, Ok, Err, Option, Result, sym, refl, subst}
use Rattle.colour.specs.declared.Palette.{Palette}
use Rattle.engine.specs.Fed.{bytes_taken}
use Rattle.memory.specs.Bytes.{read_at}
use Rattle.panel_calls.specs.Calls.{Call, write, read, burst, run, stop, status, memory}
use Rattle.panel_calls.specs.Replies.{Reply}
use Rattle.job.specs.Plans.{op_at}
use Rattle.job.specs.Works.{serves, awaits, runs, left, stage_of, fed_stage}
use Rattle.panel.specs.declared.activity.Activity.{Activity}
use Rattle.panel.specs.declared.activity.Activity.TheVariants.{Idle, Drawing, Awaiting, PaletteLoad}
use Rattle.panel.specs.State.{State, written, answer_of, after_of, register_read, burst_answer, burst_after, run_answer, run_after, fed_in, ran, stop_answer}
use Rattle.panel.specs.Calls.{answered, left_by, refusal_in, declined_by, DeclinedChangesNothing}

-- a call that changes nothing at all
same : (o : Option ℕ) (s : State) → DeclinedChangesNothing o s s
same None s = tt
same (Some n) s = refl

wrote : (s : State) (x : Result State ℕ) → DeclinedChangesNothing (refusal_in (answer_of x)) s (after_of s x)
wrote s (Ok t) = tt
wrote s (Err n) = refl

-- a job that serves only where both tests pass
tested : {A : Type 0} (s t : State) (b c : Bool) (x : A) (e : ℕ) → DeclinedChangesNothing (refusal_in (cond b (cond c (Ok x) (Err e)) (Err 8))) s (cond (b && c) t s)
tested s t true true x e = tt
tested s t true false x e = refl
tested s t false c x e = refl

burst_so : (s : State) (d : Activity) (xs : List ℕ) → DeclinedChangesNothing (refusal_in (burst_answer s d xs)) s (burst_after s d xs)
burst_so s Idle xs = refl
burst_so s (Drawing w) xs = refl
burst_so s (Awaiting w) xs =
    tested s (fed_in s w xs) (serves w s.memory) (awaits w)
    (bytes_taken (op_at w.plan) s.palette (stage_of w s.memory) xs, (fed_stage w s.palette s.memory xs).drawn - w.drawn) 9
burst_so s (PaletteLoad l) xs = tt

run_so : (s : State) (d : Activity) (n : ℕ) → DeclinedChangesNothing (refusal_in (run_answer s d n)) s (run_after s d n)
run_so s Idle n = refl
run_so s (Drawing w) n = tested s (ran s w n) (serves w s.memory) (runs w) (min n (left w)) 10
run_so s (Awaiting w) n = refl
run_so s (PaletteLoad l) n = refl

stop_so : (m r : List ℕ) (p : Palette) (d : Activity)
    → DeclinedChangesNothing (refusal_in (stop_answer d)) (record { memory = m; registers = r; palette = p; doing = d }) (record { memory = m; registers = r; palette = p; doing = Idle })
stop_so m r p Idle = refl
stop_so m r p (Drawing w) = tt
stop_so m r p (Awaiting w) = tt
stop_so m r p (PaletteLoad l) = tt

unchanged : (s : State) (c : Call) → DeclinedChangesNothing (declined_by (answered s c)) s (left_by s c)
unchanged s (write r v) = wrote s (written s r v)
unchanged s (read r) = same (refusal_in (register_read s r)) s
unchanged s (burst xs) = burst_so s s.doing xs
unchanged s (run n) = run_so s s.doing n
unchanged s stop = stop_so s.memory s.registers s.palette s.doing
unchanged s status = tt
unchanged s (memory a) = same (refusal_in (read_at s.memory a)) s

pub declined_same : (s t : State) (c : Call) (q : Reply) → q ≡ answered s c → t ≡ left_by s c → DeclinedChangesNothing (declined_by q) s t
declined_same s t c q e f =
    subst (λ x. DeclinedChangesNothing (declined_by x) s t) (sym e) (subst (DeclinedChangesNothing (declined_by (answered s c)) s) (sym f) (unchanged s c))
