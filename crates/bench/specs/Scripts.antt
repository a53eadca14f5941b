-- Whole inputs: the lines in them, and what is written for them.
use Rattle.std.specs.Prelude.{◌≡◌, ℕ, cond, List, [], ◌∷◌, ◌++◌, ◌==◌, map, fold}
use Rattle.std.specs.List.{flat_map, scan}
use Rattle.panel.specs.State.{State}
use Rattle.bench_lines.specs.Answers.{reply_line}
use Rattle.bench_lines.specs.Commands.{command_of}
use Rattle.bench.specs.Replies.{line_reply, line_after}

-- the lines that end in what follows, the first of them begun already
abbrev pub lines_from : List ℕ → List ℕ → List (List ℕ)
lines_from begun [] = []
lines_from begun (c ∷ cs) = cond (c == 10) (begun ∷ lines_from [] cs) (lines_from (begun ++ c ∷ []) cs)

-- the lines of an input, each without its line feed; what stands after the last line feed is no line
abbrev pub lines : List ℕ → List (List ℕ)
lines = lines_from []

-- what is written for some lines: each is answered by the panel that the lines before it left
abbrev pub transcript : State → List (List ℕ) → List ℕ
transcript s ls = flat_map reply_line (scan line_after line_reply s (map command_of ls))

-- the panel after some lines
abbrev pub end_of : State → List (List ℕ) → State
end_of s ls = fold line_after s (map command_of ls)

-- the lines ls were obeyed: t and written are what the panel and the output then are
pub record Replayed (s : State) (ls : List (List ℕ)) (before : List ℕ) (t : State) (written : List ℕ) : Type 0 where
  pub answers : written ≡ before ++ transcript s ls
  pub panel : t ≡ end_of s ls

-- there was no room for the answer to `last`: those before it were answered
pub record AnsweredFirst (s : State) (ls : List (List ℕ)) (before written : List ℕ) : Type 0 where
  pub first : List (List ℕ)
  pub last : List ℕ
  pub rest : List (List ℕ)
  pub all : ls ≡ first ++ last ∷ rest
  pub answers : written ≡ before ++ transcript s first

-- and of the panel: the lines before `last` were obeyed, and `last` was
pub record GaveUp (s : State) (ls : List (List ℕ)) (before : List ℕ) (t : State) (written : List ℕ) : Type 0 where
  pub first : List (List ℕ)
  pub last : List ℕ
  pub rest : List (List ℕ)
  pub all : ls ≡ first ++ last ∷ rest
  pub answers : written ≡ before ++ transcript s first
  pub panel : t ≡ end_of s (first ++ last ∷ [])
