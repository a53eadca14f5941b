-- What has passed the tests stays inside memory.
use Rattle.std.proofs.Common.{◌≡◌, ℕ, ◌+◌, ◌*◌, ◌<◌, ◌≤◌, Bool, true, false, None, Ok, Result, sym, ap, ◌∙◌, subst, arith}
use Rattle.formats.specs.declared.Depth.{Depth}
use Rattle.formats.specs.Depths.{depth_format}
use Rattle.rules.specs.declared.chosen.Rule.{Rule}
use Rattle.window.specs.Places.{pixels, reach}
use Rattle.window.proofs.Limits.{limits_of}
use Rattle.window.proofs.Places.{place_inside}
use Rattle.source.specs.Origins.{Origin, taken_from, taken}
use Rattle.source.specs.Reaches.{reach_of, Has, TakenInside}
use Rattle.source.proofs.Reaches.{taken_inside}
use Rattle.engine.specs.declared.drawing.Drawing.{Drawing}
use Rattle.engine.proofs.Bytes.{ends}
use Rattle.job.specs.declared.operation.FirstKind.{FirstKind}
use Rattle.job.specs.declared.operation.FirstKind.TheVariants.{Nothing, HostPixels, Pixels, Pattern, HostBits, Bits}
use Rattle.job.specs.declared.settings.Settings.{Settings}
use Rattle.job.specs.Operations.{first_kind, uses_second}
use Rattle.job.specs.Plans.{op_at, Plan, plan_of, plan_at, first_at, second_at}
use Rattle.job.specs.Grounds.{inside, grounds, outcome}
use Rattle.job.proofs.Starts.{cleared_none, inside_none}
use Rattle.job.specs.Bounds.{StaysInside}

-- each pixel of the rectangle is one that the sources have
pub has_first : (s : Settings) (f : FirstKind) (k : ℕ) → k < s.width * s.height → Has (first_at s f) s.height k
has_first s Nothing k h = tt
has_first s HostPixels k h = tt
has_first s Pixels k h = h
has_first s Pattern k h = tt
has_first s HostBits k h = tt
has_first s Bits k h = h

pub has_second : (s : Settings) (used : Bool) (k : ℕ) → k < s.width * s.height → Has (second_at s used) s.height k
has_second s true k h = h
has_second s false k h = tt

-- a drawing that is a plan of settings, and lies inside
module _ (s : Settings) (d : Drawing Rule Depth) (size : ℕ) (is : plan_of d ≡ plan_at s) (t : inside (plan_of d) size ≡ true) where
  abbrev p : Plan
  p = plan_of d

  -- a source that has each pixel takes from memory below the size
  taken_below : (f : Plan → Origin) → TakenInside (f p) p.target.height → reach_of (f p) p.target.height ≤ size
      → ((k : ℕ) → k < s.width * s.height → Has (f (plan_at s)) s.height k) → (k : ℕ) → k < pixels p.target → taken_from (f p) k + taken (f p) ≤ size
  taken_below f law test has k h =
      let mine : Has (f p) p.target.height k = subst (λ x. (k : ℕ) → k < pixels x.target → Has (f x) x.target.height k) (sym is) has k h in
      omega (arith, law k mine)

  pub stays : StaysInside p size
  stays =
      let l = limits_of d.target in
      let w = (depth_format p.canvas).width in
      let e = ends (op_at p) size t in
      record {
        draws = λ k h. omega (arith, place_inside p.target l.width_some w k l.height_some h, e.target);
        first = taken_below (λ x. x.first) (taken_inside d.first p.target.height) e.first (has_first s (first_kind s.operation));
        second = taken_below (λ x. x.second) (taken_inside d.second p.target.height) e.second (has_second s (uses_second s.operation));
      }

-- the destination of what was accepted lies inside memory
pub target_inside : (p : Plan) (size : ℕ) → inside p size ≡ true → reach p.target (depth_format p.canvas).width ≤ size
target_inside p size t = (ends (op_at p) size t).target

-- the drawing of a start that was accepted
module _ (s : Settings) (size : ℕ) (d : Drawing Rule Depth) (e : ◌≡◌ {A = Result Plan ℕ} (Ok (plan_of d)) (outcome (grounds s size) (plan_at s))) where
  accepted : (grounds s size ≡ None) × (plan_of d ≡ plan_at s)
  accepted = cleared_none (grounds s size) (plan_of d) (plan_at s) e

  pub lies : inside (plan_of d) size ≡ true
  lies = ap (λ x. inside x size) accepted.1 ∙ inside_none s size accepted.0

  pub accepted_stays : StaysInside (plan_of d) size
  accepted_stays = stays s d size accepted.1 lies
