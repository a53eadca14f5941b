-- What drawing and feeding do to an operation that lies inside memory.
use Rattle.std.specs.Prelude.{◌≡◌, ℕ, List, length, Ok}
use Rattle.colour.specs.declared.Palette.{Palette}
use Rattle.engine.specs.Painted.{Op}
use Rattle.engine.specs.Fed.{Stage}
use Rattle.engine.specs.Calls.{draw_answer, draw_after, DrawsAllowed, Drew, feed_answer, feed_after, FeedsCounted, FedOnly}
use Rattle.engine.specs.Totals.{TakesAwaited}
use Rattle.engine.specs.History.{RunsOn, GoesOn}

-- so many pixels were drawn, from memory m to what is left: all that a call to draw promises of one that is accepted
pub record DrewInside (o : Op) (p : Palette) (sent first n count : ℕ) (m left : List ℕ) : Type 0 where
  pub answer : Ok count ≡ draw_answer o m first n
  pub after : left ≡ draw_after o p sent first n m
  pub accepts : DrawsAllowed o (length m) first n (Ok count)
  pub drew : Drew o p sent first (Ok count) m left
  pub history : RunsOn o p first (Ok count) m left

-- and so many bytes taken and pixels drawn, from stage s to t
pub record FedInside (o : Op) (p : Palette) (s : Stage) (xs : List ℕ) (r : ℕ × ℕ) (t : Stage) : Type 0 where
  pub answer : Ok r ≡ feed_answer o p s xs
  pub after : t ≡ feed_after o p s xs
  pub counts : FeedsCounted o s (Ok r) t
  pub only : FedOnly o s (Ok r) t.memory
  pub rest : TakesAwaited o s xs (Ok r) t
  pub history : GoesOn o p s xs (Ok r) t
