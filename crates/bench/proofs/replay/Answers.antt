use Rattle.bench.specs.Scripts.{lines}
use Rattle.bench.proofs.Obeying.{obeyed, stopped, on_err}
use Rattle.bench.proofs.replay.Goals as goal

pub loop-line-preserved : goal.loop-line-preserved
loop-line-preserved g c =
    rw (c.respond.ensures.after, c.in_ok-write_to.ensures, c.respond.ensures.answer)
    (obeyed c.in-Some.line.now (lines c.next.new.self.0.now) (rw c.in-Some.ensures.steps at c.loop-line.invariant))

pub returns-in_err-write_to-clause-gave_up : goal.returns-in_err-write_to-clause-gave_up
returns-in_err-write_to-clause-gave_up g c = on_err c.from_residual.result
    (rw (c.respond.ensures.after, c.in_err-write_to.ensures)
    (stopped c.in-Some.line.now (lines c.next.new.self.0.now) (rw c.in-Some.ensures.steps at c.loop-line.invariant)))
