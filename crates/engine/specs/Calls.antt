-- What the calls that draw answer, and what they leave: they decline with 8 what does not lie inside memory.
use Rattle.std.specs.Prelude.{◌≡◌, ℕ, ◌+◌, ◌-◌, ◌*◌, min, cond, List, length, Ok, Err, Result}
use Rattle.colour.specs.declared.Palette.{Palette}
use Rattle.window.specs.Places.{pixels}
use Rattle.engine.specs.Painted.{Op, plotted, painted}
use Rattle.engine.specs.Fed.{Stage, fed, bytes_taken}
use Rattle.engine.specs.Inside.{lies_inside, Inside}
use Rattle.engine.specs.Laws.{EachHolds, OnlyPixels}

-- how many of n pixels are drawn from the first on: as many as are left
abbrev pub allowed : Op → ℕ → ℕ → ℕ
allowed o first n = min n (pixels o.target - first)

abbrev pub draw_answer : Op → List ℕ → ℕ → ℕ → Result ℕ ℕ
draw_answer o m first n = cond (lies_inside o (length m)) (Ok (allowed o first n)) (Err 8)

abbrev pub draw_after : Op → Palette → ℕ → ℕ → ℕ → List ℕ → List ℕ
draw_after o p sent first n m = cond (lies_inside o (length m)) (painted (plotted o p sent) first (allowed o first n) m) m

-- each pixel drawn holds what its rule yielded on memory as it was when the pixel was reached, and nothing else changed; a declined
-- call changed nothing
abbrev pub Drew : Op → Palette → ℕ → ℕ → Result ℕ ℕ → List ℕ → List ℕ → Type 0
Drew o p sent first (Ok n) before after = EachHolds o p sent first n before after × OnlyPixels o first n before after
Drew o p sent first (Err _) before after = after ≡ before

-- it draws as many pixels as are allowed and left where the operation lies inside memory, and answers 8 where it does not
abbrev pub DrawsAllowed : Op → ℕ → ℕ → ℕ → Result ℕ ℕ → Type 0
DrawsAllowed o size first n (Ok c) = Inside o size × (c ≡ min n (o.target.width * o.target.height - first))
DrawsAllowed o size first n (Err e) = (e ≡ 8) × (Inside o size → ⊥)

-- feeding answers the bytes taken and the pixels drawn
abbrev pub feed_answer : Op → Palette → Stage → List ℕ → Result (ℕ × ℕ) ℕ
feed_answer o p s xs =
    cond (lies_inside o (length s.memory)) (Ok (bytes_taken o p s xs, (fed o p s xs).drawn - s.drawn)) (Err 8)

abbrev pub feed_after : Op → Palette → Stage → List ℕ → Stage
feed_after o p s xs = cond (lies_inside o (length s.memory)) (fed o p s xs) s

-- and changed nothing but the pixels drawn
abbrev pub FedOnly : Op → Stage → Result (ℕ × ℕ) ℕ → List ℕ → Type 0
FedOnly o s (Ok r) after = OnlyPixels o s.drawn r.1 s.memory after
FedOnly o s (Err _) after = after ≡ s.memory

-- the pixels that it answers are those that the stage has more, where the operation lies inside memory; it answers 8 where it does not
abbrev pub FeedsCounted : Op → Stage → Result (ℕ × ℕ) ℕ → Stage → Type 0
FeedsCounted o s (Ok r) t = Inside o (length s.memory) × (t.drawn ≡ s.drawn + r.1)
FeedsCounted o s (Err e) t = (e ≡ 8) × (Inside o (length s.memory) → ⊥)
