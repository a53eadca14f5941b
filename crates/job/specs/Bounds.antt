-- What clearing gave, and that an accepted operation stays inside memory.
use Rattle.std.specs.Prelude.{ℕ, ◌+◌, ◌<◌, ◌≤◌, List, Ok, Err, Result}
use Rattle.refusal.specs.Numbers.{number_of}
use Rattle.formats.specs.Depths.{depth_format}
use Rattle.window.specs.Places.{pixels, place}
use Rattle.source.specs.Origins.{taken_from, taken}
use Rattle.colour.specs.declared.Palette.{Palette}
use Rattle.engine.specs.Totals.{bytes_for, FedFromStart}
use Rattle.job.specs.declared.job.Cleared.{Cleared}
use Rattle.job.specs.declared.job.Declined.{Declined}
use Rattle.job.specs.Plans.{Plan, op_at}
use Rattle.job.specs.Works.{Clearing, cleared, declined}

abbrev pub clearing_of : Result Cleared Declined → Clearing
clearing_of (Ok c) = cleared c
clearing_of (Err d) = declined d.draft (number_of d.refusal)

-- from the first pixel to the last, what is drawn on and what is taken from memory lies below the size
pub record StaysInside (p : Plan) (size : ℕ) : Type 0 where
  pub draws : (k : ℕ) → k < pixels p.target → place p.target (depth_format p.canvas).width k + (depth_format p.canvas).width ≤ size
  pub first : (k : ℕ) → k < pixels p.target → taken_from p.first k + taken p.first ≤ size
  pub second : (k : ℕ) → k < pixels p.target → taken_from p.second k + taken p.second ≤ size

abbrev pub AcceptedInside : Result Cleared Declined → Type 0
AcceptedInside (Ok c) = StaysInside c.plan c.size
AcceptedInside (Err _) = Unit {0}

-- a cleared job takes exactly the bytes of its pixels or units, none where memory alone serves it, and one that the host serves is
-- complete with the last of them
abbrev pub HostBytes : Clearing → Type 0
HostBytes (cleared w) =
    (p : Palette) (m : List ℕ) (bursts : List (List ℕ)) → FedFromStart (op_at w.plan) p (bytes_for w.plan.first w.plan.target) m bursts
HostBytes (declined _ _) = Unit {0}
