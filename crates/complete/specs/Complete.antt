-- A complete operation: one that is accepted, and whose pixels are all drawn.
use Rattle.std.specs.Prelude.{◌≡◌, ℕ, ◌+◌, ◌<◌, ◌≤◌, Bool, true, cond, ◌&&◌, ◌⊎◌, List, [], map, length, nat_le, slice_index}
use Rattle.colour.specs.declared.Palette.{Palette}
use Rattle.window.specs.Places.{pixels, reach}
use Rattle.source.specs.Origins.{Origin, taken_from, taken}
use Rattle.source.specs.Reaches.{reach_of}
use Rattle.engine.specs.Painted.{Op, plotted, painted}
use Rattle.engine.specs.Fed.{Stage, fed}
use Rattle.engine.specs.Inside.{lies_inside}
use Rattle.engine.specs.Laws.{pixel_at}
use Rattle.complete.specs.declared.part.Part.{Part}
use Rattle.complete.specs.Parts.{Portion, portion_of, sent_in, by_memory, parted}

-- no pixel drawn, and no byte waiting
abbrev pub begun : List ℕ → Stage
begun m = record { memory = m; drawn = 0; waiting = [] }

-- the whole of an operation: all its pixels, or as many as the bytes draw where the host serves it
abbrev pub completed : Op → Palette → List ℕ → List ℕ → Stage
completed o p xs m =
    cond (by_memory o)
    (record { memory = painted (plotted o p 0) 0 (pixels o.target) m; drawn = pixels o.target; waiting = [] })
    (fed o p (begun m) xs)

-- an operation has a window within its image, and it and its sources lie inside a memory of some size
pub record Accepted (o : Op) (size : ℕ) : Type 0 where
  pub across : 1 ≤ o.target.width
  pub down : 1 ≤ o.target.height
  pub fits : o.target.left + o.target.width ≤ o.target.image
  pub first_inside : reach_of o.first o.target.height ≤ size
  pub second_inside : reach_of o.second o.target.height ≤ size
  pub target_inside : reach o.target o.format.width ≤ size

-- an operation is accepted over memory m, and leaves n once all its pixels are drawn
pub record Complete (o : Op) (p : Palette) (xs m n : List ℕ) : Type 0 where
  pub accepted : Accepted o (length m)
  pub memory_is : n ≡ (completed o p xs m).memory
  pub all_drawn : (completed o p xs m).drawn ≡ pixels o.target

-- a way to draw: an operation, its palette, its parts, and the sizes of memory over which it is accepted
pub record Way : Type 0 where
  pub operation : Op
  pub palette : Palette
  pub portions : List Portion
  pub accepts : ℕ → Bool

-- that of a drawing by parts, which is accepted where it lies inside memory
abbrev pub way_in_parts : Op → Palette → List Part → Way
way_in_parts o p ps = record { operation = o; palette = p; portions = map portion_of ps; accepts = lies_inside o }

-- what is left of memory: what was there, where the operation is not accepted
abbrev pub left_by : Way → List ℕ → List ℕ
left_by w m = cond (w.accepts (length m)) (parted w.operation w.palette (begun m) w.portions).memory m

-- whether the operation is accepted and all its pixels are drawn
abbrev pub completes : Way → List ℕ → Bool
completes w m =
    w.accepts (length m) && nat_le (pixels w.operation.target) (parted w.operation w.palette (begun m) w.portions).drawn

-- from memory m to n the operation was drawn, whole
abbrev pub Completes : Way → List ℕ → List ℕ → Type 0
Completes w m n = Complete w.operation w.palette (sent_in w.portions) m n

-- drawing in a way led from memory m to n, and complete is what it answered
pub record DrawnBy (w : Way) (m n : List ℕ) (complete : Bool) : Type 0 where
  -- memory is what the parts leave
  pub leaves : n ≡ left_by w m
  -- the answer says whether the operation was accepted and all its pixels are drawn
  pub ends : complete ≡ completes w m
  -- if it says so, the operation was accepted and drawn whole
  pub whole : complete ≡ true → Completes w m n

-- byte x belongs to a pixel of the operation
abbrev pub DrawsOn : Op → ℕ → Type 0
DrawsOn o x = (k : ℕ) × (k < pixels o.target) × (i : ℕ) × (i < o.format.width) × (x ≡ pixel_at o k + i)

-- a source takes byte x for a pixel of the operation
abbrev pub TakesFrom : Origin → Op → ℕ → Type 0
TakesFrom s o x = (k : ℕ) × (k < pixels o.target) × (i : ℕ) × (i < taken s) × (x ≡ taken_from s k + i)

-- either source takes it
abbrev pub Reads : Op → ℕ → Type 0
Reads o x = TakesFrom o.first o x ⊎ TakesFrom o.second o x

-- neither operation draws on a byte that the other draws on or reads
pub record Independent (a b : Op) : Type 0 where
  pub targets : (x : ℕ) → DrawsOn a x → DrawsOn b x → ⊥
  pub first_reads : (x : ℕ) → Reads a x → DrawsOn b x → ⊥
  pub second_reads : (x : ℕ) → DrawsOn a x → Reads b x → ⊥

-- two ways draw the same operation, under the same palette, with the same bytes
pub record Same (v w : Way) : Type 0 where
  pub operation_is : v.operation ≡ w.operation
  pub palette_is : v.palette ≡ w.palette
  pub bytes_are : sent_in v.portions ≡ sent_in w.portions

-- from memory m to n nothing changed but bytes that an operation draws on
pub record OnlyDrawn (o : Op) (m n : List ℕ) : Type 0 where
  pub size : length n ≡ length m
  pub rest : (x : ℕ) → (DrawsOn o x → ⊥) → slice_index n x ≡ slice_index m x

-- nothing changed but bytes that one of two operations draws on
pub record OnlyBoth (a b : Op) (m n : List ℕ) : Type 0 where
  pub size : length n ≡ length m
  pub rest : (x : ℕ) → (DrawsOn a x → ⊥) → (DrawsOn b x → ⊥) → slice_index n x ≡ slice_index m x
