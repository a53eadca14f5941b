-- The history of an operation on a panel: from its start, by bursts and runs.
use Rattle.std.specs.Prelude.{◌≡◌, ℕ, ◌+◌, ◌-◌, ◌<◌, min, true, List, [], ◌++◌, length, take, Ok, Err, Result}
use Rattle.window.specs.Places.{pixels}
use Rattle.engine.specs.Totals.{bytes_left}
use Rattle.job.specs.Plans.{op_at}
use Rattle.job.specs.Works.{Work, Story, stage_of, rectangle}
use Rattle.panel.specs.declared.activity.Activity.{Activity}
use Rattle.panel.specs.declared.activity.Activity.TheVariants.{Idle, Drawing, Awaiting, PaletteLoad}
use Rattle.panel.specs.State.{State, starts}
use Rattle.panel_calls.specs.Calls.{Call}
use Rattle.panel_calls.specs.Calls as call
use Rattle.panel_calls.specs.Replies.{Reply}
use Rattle.panel_calls.specs.Replies as reply

-- an operation is under way that has come from memory `start` by these bytes
abbrev pub StoryOf : State → Activity → List ℕ → List ℕ → Type 0
StoryOf s Idle start sent = ⊥
StoryOf s (Drawing w) start sent = Story w s.palette start sent s.memory
StoryOf s (Awaiting w) start sent = Story w s.palette start sent s.memory
StoryOf s (PaletteLoad _) start sent = ⊥

-- a write that starts an operation begins its story, with memory as it is and no byte
abbrev pub Starts : ℕ → ℕ → Result Unit ℕ → State → State → Type 0
Starts r v (Ok _) s t = starts r v ≡ true → StoryOf t t.doing s.memory []
Starts r v (Err _) s t = t ≡ s

-- the work w of a state has come as far as a story goes that ends in state t: it is under way while pixels are left, and with the
-- last one the panel is idle; so many pixels of it were drawn on the way
pub record GoneOn (going : Work → Activity) (w : Work) (s : State) (start sent : List ℕ) (count : ℕ) (t : State) : Type 0 where
  pub work : Work
  pub plan : work.plan ≡ w.plan
  pub counted : work.drawn ≡ w.drawn + count
  pub story : Story work s.palette start sent t.memory
  pub left : work.drawn < pixels w.plan.target → t.doing ≡ going work
  pub ended : work.drawn ≡ pixels w.plan.target → t.doing ≡ Idle

-- a burst goes on with the story by the bytes that it takes, which are all that are sent, up to the last that is awaited
abbrev pub BurstGoesOn : State → Activity → List ℕ → Result (ℕ × ℕ) ℕ → State → Type 0
BurstGoesOn s (Awaiting w) xs (Ok r) t =
    (start sent : List ℕ) → Story w s.palette start sent s.memory
    → (r.0 ≡ min (length xs) (bytes_left (op_at w.plan) (stage_of w s.memory))) × GoneOn Awaiting w s start (sent ++ take r.0 xs) r.1 t
BurstGoesOn s (Awaiting w) xs (Err _) t = t ≡ s
BurstGoesOn s Idle xs r t = t ≡ s
BurstGoesOn s (Drawing _) xs r t = t ≡ s
BurstGoesOn s (PaletteLoad _) xs r t = t.memory ≡ s.memory

-- and a run by pixels alone, as many as are asked for and left
abbrev pub RunGoesOn : State → Activity → ℕ → Result ℕ ℕ → State → Type 0
RunGoesOn s (Drawing w) n (Ok k) t =
    (k ≡ min n (rectangle w - w.drawn))
    × ((start sent : List ℕ) → Story w s.palette start sent s.memory → GoneOn Drawing w s start sent k t)
RunGoesOn s (Drawing w) n (Err _) t = t ≡ s
RunGoesOn s Idle n r t = t ≡ s
RunGoesOn s (Awaiting _) n r t = t ≡ s
RunGoesOn s (PaletteLoad _) n r t = t ≡ s

-- every call goes on with the story of what is under way; those that draw nothing leave memory as it is
abbrev pub CallGoesOn : State → Call → Reply → State → Type 0
CallGoesOn s (call.write r v) (reply.write q) t = Starts r v q s t
CallGoesOn s (call.burst xs) (reply.burst q) t = BurstGoesOn s s.doing xs q t
CallGoesOn s (call.run n) (reply.run q) t = RunGoesOn s s.doing n q t
CallGoesOn s _ _ t = t.memory ≡ s.memory
