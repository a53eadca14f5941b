-- Lists of calls, made one after another.
use Rattle.std.specs.Prelude.{◌≡◌, List, [], ◌∷◌, ◌++◌}
use Rattle.std.specs.List.{scan}
use Rattle.panel_calls.specs.Calls.{Call}
use Rattle.panel_calls.specs.Replies.{Reply}
use Rattle.panel.specs.State.{State}
use Rattle.panel.specs.Calls.{answered, left_by, ends}

-- what they answer
abbrev pub answers : State → List Call → List Reply
answers s cs = scan left_by answered s cs

-- the calls cs were made from s on: t is the panel then, and after what was there before stand their answers
pub record Replayed (s : State) (cs : List Call) (before : List Reply) (t : State) (after : List Reply) : Type 0 where
  pub answers_are : after ≡ before ++ answers s cs
  pub panel_is : t ≡ ends s cs

-- there was no room for an answer: the calls before `last` were made and their answers kept, and `last` was made
pub record GaveUp (s : State) (cs : List Call) (before : List Reply) (t : State) (after : List Reply) : Type 0 where
  pub first : List Call
  pub last : Call
  pub rest : List Call
  pub all : cs ≡ first ++ last ∷ rest
  pub answers_are : after ≡ before ++ answers s first
  pub panel_is : t ≡ ends s (first ++ last ∷ [])
