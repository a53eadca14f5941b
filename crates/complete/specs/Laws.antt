-- Two complete operations one after another.
use Rattle.std.specs.Prelude.{◌≡◌, ℕ, Bool, true, ◌&&◌, List}
use Rattle.memory.specs.Bytes.{Sound}
use Rattle.complete.specs.Complete.{Way, left_by, completes, Completes, Same, Independent, OnlyDrawn}
use Rattle.complete.specs.Undo.{IsExclusiveOr, SourceApart}

-- what the first and then the second leave of memory
abbrev pub left_by_both : Way → Way → List ℕ → List ℕ
left_by_both v w m = left_by w (left_by v m)

-- whether both are complete
abbrev pub both_complete : Way → Way → List ℕ → Bool
both_complete v w m = completes v m && completes w (left_by v m)

-- from memory m to n the first and then the second drew their operations, whole
pub record BothWhole (v w : Way) (m n : List ℕ) : Type 0 where
  pub early : Completes v m (left_by v m)
  pub late : Completes w (left_by v m) n

-- drawing in one way and then in another led from memory m to n, and complete is what the two answered together
pub record DrawnByBoth (v w : Way) (m n : List ℕ) (complete : Bool) : Type 0 where
  -- memory is what the second leaves of what the first left
  pub leaves : n ≡ left_by_both v w m
  -- the answer says whether both are complete
  pub ends : complete ≡ both_complete v w m
  -- if it says so, both operations were accepted and drawn whole
  pub whole : complete ≡ true → BothWhole v w m n

-- two operations that do not touch what the other draws or reads, each drawn in any two ways: if all four drawings are
-- complete, the order in which they were drawn does not show in memory
abbrev pub OrderHidden : Way → Way → Way → Way → List ℕ → List ℕ → Bool → List ℕ → List ℕ → Type 0
OrderHidden a b b' a' m m' complete n n' =
    Same a a' → Same b b' → Independent a.operation b.operation → m ≡ m' → complete ≡ true → n ≡ n'

-- an exclusive or, drawn in any two ways: if both drawings are complete, the second undoes the first
abbrev pub Undone : Way → Way → List ℕ → Bool → List ℕ → Type 0
Undone a a' m complete n = Same a a' → IsExclusiveOr a.operation → SourceApart a.operation → complete ≡ true → n ≡ m

-- the same of complete operations however they were drawn: a led from m
-- to l and b from l to n, and b again from m to l' and a again from there to n'
abbrev pub OrderDoesNotShow : Type 0
OrderDoesNotShow =
    (a b b' a' : Way) (m l n l' n' : List ℕ) → Completes a m l → Completes b l n → Completes b' m l' → Completes a' l' n'
    → Same a a' → Same b b' → Independent a.operation b.operation → n ≡ n'

-- an exclusive or led from m to l, and again from l to n; m is what a memory holds
abbrev pub ExclusiveOrUndoesItself : Type 0
ExclusiveOrUndoesItself =
    (a a' : Way) (m l n : List ℕ) → Sound m → Completes a m l → Completes a' l n → Same a a' → IsExclusiveOr a.operation
    → SourceApart a.operation → n ≡ m

-- a complete operation changes nothing outside its rectangle
abbrev pub RectangleOnly : Type 0
RectangleOnly = (a : Way) (m n : List ℕ) → Completes a m n → OnlyDrawn a.operation m n
