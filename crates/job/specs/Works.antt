-- A job as plain values, and what its calls answer and leave.
use Rattle.std.specs.Prelude.{◌≡◌, ℕ, ◌+◌, ◌-◌, ◌*◌, ◌<◌, ◌≤◌, min, Bool, true, cond, ◌&&◌, ◌⊎◌, List, [], length, Ok, Err, Option, Result, ◌==◌, nat_le, nat_lt}
use Rattle.colour.specs.declared.Palette.{Palette}
use Rattle.window.specs.Places.{pixels}
use Rattle.source.specs.Origins.{awaited}
use Rattle.engine.specs.Painted.{plotted, painted}
use Rattle.engine.specs.Calls.{Drew}
use Rattle.engine.specs.Calls as engine
use Rattle.engine.specs.Totals.{UnderWay, TakesAwaited}
use Rattle.engine.specs.History.{Reached, GoesOn}
use Rattle.engine.specs.Fed.{Stage, takes, fed, bytes_taken}
use Rattle.job.specs.declared.settings.Settings.{Settings}
use Rattle.job.specs.Plans.{Plan, plan_at, op_at}
use Rattle.job.specs.Grounds.{grounds, inside, outcome}

-- what is drawn, the size of the memory that it was cleared for, the pixels drawn, and the bytes that wait
pub record Work : Type 0 where
  pub plan : Plan
  pub size : ℕ
  pub drawn : ℕ
  pub waiting : List ℕ

-- what is read and drawn lies inside that memory
abbrev pub LiesInside : Work → Type 0
LiesInside w = inside w.plan w.size ≡ true

-- what a job keeps while it is drawn: it lies inside, has drawn at most its pixels, and fewer bytes wait than a pixel or unit has
pub record Keeps (w : Work) : Type 0 where
  pub inside : LiesInside w
  pub under_way : UnderWay (op_at w.plan) w.drawn w.waiting

-- a cleared job is one of which nothing is drawn
abbrev pub fresh_work : Plan → ℕ → Work
fresh_work p size = record { plan = p; size = size; drawn = 0; waiting = [] }

-- what clearing gives: the job, or the settings as they were and the ground
pub data Clearing : Type 0 where
  cleared : Work → Clearing
  declined : Settings → ℕ → Clearing

-- a plan, or a ground against it, as what clearing gives
abbrev pub as_clearing : Settings → ℕ → Result Plan ℕ → Clearing
as_clearing s size (Ok p) = cleared (fresh_work p size)
as_clearing s size (Err n) = declined s n

abbrev pub judged : Settings → ℕ → Option ℕ → Clearing
judged s size o = as_clearing s size (outcome o (plan_at s))

abbrev pub clearing : Settings → ℕ → Clearing
clearing s size = judged s size (grounds s size)

-- a memory serves a job if it is no smaller than the one that the job was cleared for
abbrev pub serves : Work → List ℕ → Bool
serves w m = nat_le w.size (length m)

-- bytes are awaited
abbrev pub awaits : Work → Bool
awaits w = takes (op_at w.plan) w.drawn

-- pixels can be run: no byte is ever awaited, and some are left
abbrev pub runs : Work → Bool
runs w = awaited w.plan.first == 0 && nat_lt w.drawn (pixels w.plan.target)

-- how many pixels are left
abbrev pub left : Work → ℕ
left w = pixels w.plan.target - w.drawn

abbrev pub stage_of : Work → List ℕ → Stage
stage_of w m = record { memory = m; drawn = w.drawn; waiting = w.waiting }

abbrev pub at_stage : Work → Stage → Work
at_stage w s = record { plan = w.plan; size = w.size; drawn = s.drawn; waiting = s.waiting }

-- memory and job together
abbrev pub fed_stage : Work → Palette → List ℕ → List ℕ → Stage
fed_stage w p m xs = fed (op_at w.plan) p (stage_of w m) xs

-- a feed answers the bytes taken and the pixels drawn
abbrev pub feed_answer : Work → Palette → List ℕ → List ℕ → Result (ℕ × ℕ) ℕ
feed_answer w p m xs =
    cond (serves w m)
    (cond (awaits w) (Ok (bytes_taken (op_at w.plan) p (stage_of w m) xs, (fed_stage w p m xs).drawn - w.drawn)) (Err 9))
    (Err 8)

abbrev pub feed_after : Work → Palette → List ℕ → List ℕ → Stage
feed_after w p m xs = cond (serves w m && awaits w) (fed_stage w p m xs) (stage_of w m)

-- a run draws n pixels, or all that are left where these are fewer
abbrev pub run_stage : Work → Palette → List ℕ → ℕ → Stage
run_stage w p m n = record {
  memory = painted (plotted (op_at w.plan) p 0) w.drawn (min n (left w)) m;
  drawn = w.drawn + min n (left w);
  waiting = w.waiting;
}

abbrev pub run_answer : Work → List ℕ → ℕ → Result ℕ ℕ
run_answer w m n = cond (serves w m) (cond (runs w) (Ok (min n (left w))) (Err 10)) (Err 8)

abbrev pub run_after : Work → Palette → List ℕ → ℕ → Stage
run_after w p m n = cond (serves w m && runs w) (run_stage w p m n) (stage_of w m)

-- what a run did to memory: each pixel that it drew holds what its rule yielded, and nothing else changed; a declined
-- one changed nothing
abbrev pub Ran : Work → Palette → Result ℕ ℕ → List ℕ → List ℕ → Type 0
Ran w p r before after = Drew (op_at w.plan) p 0 w.drawn r before after

-- and a feed: nothing changed but the pixels that it drew
abbrev pub FedOnly : Work → Result (ℕ × ℕ) ℕ → List ℕ → List ℕ → Type 0
FedOnly w r before after = engine.FedOnly (op_at w.plan) (stage_of w before) r after

-- the work so far: from memory `start` to memory m, by the bytes that it has taken since it was begun
abbrev pub Story : Work → Palette → List ℕ → List ℕ → List ℕ → Type 0
Story w p start sent m = Reached (op_at w.plan) p start sent (stage_of w m)

-- it begins with memory as it is, and no byte
abbrev pub Begins : Work → Type 0
Begins w = (p : Palette) (m : List ℕ) → Story w p m [] m

-- a feed goes on with it by the bytes taken; a declined one leaves it
abbrev pub FeedGoesOn : Work → Palette → List ℕ → Result (ℕ × ℕ) ℕ → List ℕ → Work → List ℕ → Type 0
FeedGoesOn w p xs r m v n = GoesOn (op_at w.plan) p (stage_of w m) xs r (stage_of v n)

-- and takes the bytes that are sent, up to the last that is awaited, with which the job is complete
abbrev pub FeedTakes : Work → List ℕ → Result (ℕ × ℕ) ℕ → List ℕ → Work → List ℕ → Type 0
FeedTakes w xs r m v n = TakesAwaited (op_at w.plan) (stage_of w m) xs r (stage_of v n)

-- so does a run, which takes none
abbrev pub RunGoesOn : Work → Palette → List ℕ → Work → List ℕ → Type 0
RunGoesOn w p m v n = (start sent : List ℕ) → Story w p start sent m → Story v p start sent n

-- the pixels of the rectangle
abbrev pub rectangle : Work → ℕ
rectangle w = w.plan.target.width * w.plan.target.height

-- a feed is for a job that awaits bytes, over a memory that is large enough, and the pixels that it answers are those that the job has
-- more; it answers 8 where memory is too small, and else 9 where no byte is awaited
abbrev pub FeedsAwaited : Work → List ℕ → Result (ℕ × ℕ) ℕ → Work → Type 0
FeedsAwaited w m (Ok r) v =
    (w.size ≤ length m) × (0 < awaited w.plan.first) × (w.drawn < rectangle w) × (v.drawn ≡ w.drawn + r.1)
FeedsAwaited w m (Err e) v =
    ((e ≡ 8) × (length m < w.size))
    ⊎ ((e ≡ 9) × (w.size ≤ length m) × (0 < awaited w.plan.first → rectangle w ≤ w.drawn))

-- a run is for a job that memory serves, and draws as many pixels as are allowed and left; it answers 8 where memory is too small, and
-- else 10 where the host serves the job or no pixel is left
abbrev pub RunsAllowed : Work → List ℕ → ℕ → Result ℕ ℕ → Work → Type 0
RunsAllowed w m n (Ok c) v =
    (w.size ≤ length m) × (awaited w.plan.first ≡ 0) × (w.drawn < rectangle w) × (c ≡ min n (rectangle w - w.drawn))
    × (v.drawn ≡ w.drawn + c)
RunsAllowed w m n (Err e) v =
    ((e ≡ 8) × (length m < w.size))
    ⊎ ((e ≡ 10) × (w.size ≤ length m) × (awaited w.plan.first ≡ 0 → rectangle w ≤ w.drawn))
