-- How many bytes a host operation takes, up to its last pixel.
use Rattle.std.specs.Prelude.{◌≡◌, ℕ, ◌+◌, ◌-◌, ◌*◌, ◌/◌, ◌%◌, ◌<◌, ◌≤◌, min, List, [], ◌∷◌, length, fold, sum_by, Ok, Err, Result}
use Rattle.colour.specs.declared.Palette.{Palette}
use Rattle.window.specs.declared.area.Area.{Area}
use Rattle.window.specs.Places.{pixels}
use Rattle.source.specs.Rows.{row_units}
use Rattle.source.specs.Origins.{Origin, unused, host, host_bits, image, pattern, bits, awaited}
use Rattle.source.specs.Shapes.{AsWide}
use Rattle.source.specs.Meanings.{sent_at}
use Rattle.engine.specs.Painted.{Op}
use Rattle.engine.specs.Fed.{Stage, fed, bytes_taken}

-- the bytes of all pixels, or those of all units of all rows
abbrev pub bytes_for : Origin → Area → ℕ
bytes_for unused t = 0
bytes_for (host b) t = t.width * t.height * b
bytes_for (host_bits r) t = t.height * row_units r * (r.unit / 8)
bytes_for (image _ _) t = 0
bytes_for (pattern _ _ _) t = 0
bytes_for (bits _ _) t = 0

-- the bytes of the pixels before the k-th: up to where its own begin
abbrev pub bytes_used : Op → ℕ → ℕ
bytes_used o k = sent_at o.first o.target.width (k % o.target.width) (k / o.target.width)

-- an operation under way has drawn at most its pixels, and fewer bytes wait than a pixel or unit has, none past the last pixel
pub record UnderWay (o : Op) (drawn : ℕ) (waiting : List ℕ) : Type 0 where
  pub own : drawn ≤ pixels o.target
  pub few : length waiting ≤ awaited o.first - 1
  pub none : drawn ≡ pixels o.target → length waiting ≡ 0

-- the bytes that it still awaits
abbrev pub bytes_left : Op → Stage → ℕ
bytes_left o s = bytes_for o.first o.target - (bytes_used o s.drawn + length s.waiting)

-- so many of the bytes xs were taken, up to the last that is awaited, and led from stage s to t
pub record TakesRest (o : Op) (s : Stage) (xs : List ℕ) (t : Stage) (taken : ℕ) : Type 0 where
  pub taken_is : taken ≡ min (length xs) (bytes_left o s)
  pub left_is : bytes_left o t ≡ bytes_left o s - taken
  pub under_way : UnderWay o t.drawn t.waiting
  -- if the host serves it, the operation is complete with the last byte and not before
  pub complete : 0 < awaited o.first → bytes_left o t ≡ 0 → t.drawn ≡ pixels o.target
  pub not_before : 0 < awaited o.first → 0 < bytes_left o t → t.drawn < pixels o.target

abbrev pub TakesAwaited : Op → Stage → List ℕ → Result (ℕ × ℕ) ℕ → Stage → Type 0
TakesAwaited o s xs (Ok r) t = UnderWay o s.drawn s.waiting → TakesRest o s xs t r.0
TakesAwaited o s xs (Err _) t = t ≡ s

abbrev pub at_start : List ℕ → Stage
at_start m = record { memory = m; drawn = 0; waiting = [] }

-- bytes that come in bursts, one after another, and how many of them are taken
abbrev pub burst_fed : Op → Palette → Stage → List (List ℕ) → Stage
burst_fed o p s bursts = fold (fed o p) s bursts

abbrev pub burst_taken : Op → Palette → Stage → List (List ℕ) → ℕ
burst_taken o p s [] = 0
burst_taken o p s (xs ∷ bursts) = bytes_taken o p s xs + burst_taken o p (fed o p s xs) bursts

-- how many bytes are sent in all
abbrev pub bytes_in : List (List ℕ) → ℕ
bytes_in bursts = sum_by length bursts

-- from the start of an operation that takes so many bytes in all, however they are cut into bursts
pub record FedFromStart (o : Op) (p : Palette) (all : ℕ) (m : List ℕ) (bursts : List (List ℕ)) : Type 0 where
  -- so many are taken and no more
  pub taken : burst_taken o p (at_start m) bursts ≡ min (bytes_in bursts) all
  -- if the host serves it, each pixel is drawn with the last of them
  pub complete : 0 < awaited o.first → all ≤ bytes_in bursts → (burst_fed o p (at_start m) bursts).drawn ≡ pixels o.target
  -- and not before
  pub not_before : 0 < awaited o.first → bytes_in bursts < all → (burst_fed o p (at_start m) bursts).drawn < pixels o.target

abbrev pub TakesInAll : Op → Palette → Type 0
TakesInAll o p =
    AsWide o.first o.target.width → (m : List ℕ) (bursts : List (List ℕ)) → FedFromStart o p (bytes_for o.first o.target) m bursts
