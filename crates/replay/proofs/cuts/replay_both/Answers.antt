use Rattle.replay.proofs.Joins.{replays_agree}
use Rattle.replay.proofs.cuts.replay_both.Goals as goal

-- `using(replays_agree)` leaves this open: its premises are what the callees ensure once their replays are whole
pub returns-clause-cuts_do_not_show : goal.returns-clause-cuts_do_not_show
returns-clause-cuts_do_not_show g c = λ same alike whole others-whole.
    replays_agree (c.replay_on_new-first.ensures.replayed whole) (c.replay_on_new-second.ensures.replayed others-whole) same alike
