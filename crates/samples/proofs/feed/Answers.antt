use Rattle.std.proofs.Common.{arith}
use Rattle.std.proofs.lemmas.Result.{err_from_is_err_and}
use Rattle.samples.proofs.Feeding.{one_burst_more, burst_declined, all_bursts}
use Rattle.samples.proofs.feed.Goals as goal

pub loop-i-preserved : goal.loop-i-preserved
loop-i-preserved g c =
    let fed = c.in_ok-answers.ensures in
    one_burst_more _ _ _ _ _ _ _ _ _ c.loop-i.invariant c.index-bursts-i.result _ (omega arith) c.as_slice.ensures _ _ _ fed.answer fed.job fed.memory

pub returns-in_err-answers : goal.returns-in_err-answers
returns-in_err-answers g c =
    let fed = c.in_err-answers.ensures in
    let p = err_from_is_err_and c.from_residual-in_err-answers.result c.from_residual-in_err-answers.ensures.1 in
    rw (p.1, p.2, ← c.in_ok-begun.ensures)
    (burst_declined _ _ _ _ _ _ _ _ _ c.loop-i.invariant c.index-bursts-i.result _ (omega arith) c.as_slice.ensures _ _ fed.answer fed.memory)

pub returns : goal.returns
returns g c = rw (← c.in_ok-begun.ensures) (all_bursts _ _ _ _ _ _ _ _ _ c.loop-i.invariant (omega arith))
