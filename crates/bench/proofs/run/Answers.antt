use Rattle.std.proofs.Common.{◌≡◌, replicate, ap, ◌∙◌, lit≤}
use Rattle.std.proofs.lemmas.Result.{on_ok_weaker, on_err_weaker}
use Rattle.panel.specs.State.{fresh}
use Rattle.memory.specs.Boards.{of_bytes}
use Rattle.memory.proofs.Boards.{bytes_zero}
use Rattle.bench.proofs.run.Goals as goal

pub returns : goal.returns
returns c =
    let zero : of_bytes c.new.result.block.now ≡ replicate 4096 0 = ap of_bytes c.new.ensures.holds ∙ bytes_zero 4096 (lit≤ tt) in
    let begun = c.new-panel.ensures ∙ ap fresh zero in
    record {
      done = on_ok_weaker c.replay.result (λ r. rw begun at r.answers) c.replay.ensures.done;
      gave_up = on_err_weaker c.replay.result (λ r. record { first = r.first; last = r.last; rest = r.rest; all = r.all; answers = rw begun at r.answers }) c.replay.ensures.gave_up;
    }
