use Rattle.std.proofs.Common.{ap, ◌∙◌, arith}
use Rattle.std.proofs.lemmas.List.{drop_all}
use Rattle.std.proofs.lemmas.Result.{err_from_is_err_and}
use Rattle.speed.proofs.Writing.{write_more, write_declined}
use Rattle.speed.proofs.by_panel.set_registers.Goals as goal

pub loop-write-preserved : goal.loop-write-preserved
loop-write-preserved g c =
    let made = c.in_ok-write.ensures in
    write_more _ _ c.args.writes.now c.loop-write.write-index _ (omega arith) made.answer made.after ∙ c.loop-write.invariant

pub returns-in_err-write : goal.returns-in_err-write
returns-in_err-write g c =
    let made = c.in_err-write.ensures in
    let p = err_from_is_err_and c.from_residual.result c.from_residual.ensures.1 in
    let all = write_declined _ _ c.args.writes.now c.loop-write.write-index _ (omega arith) _ made.answer made.after ∙ c.loop-write.invariant in
    rw (p.1, p.2) (record { answer = ap (λ x. x.answer) all; after = ap (λ x. x.state) all })

pub returns : goal.returns
returns g c =
    let none = drop_all c.loop-write.write-index c.args.writes.now (omega arith) in
    let all = rw none at c.loop-write.invariant in
    record { answer = ap (λ x. x.answer) all; after = ap (λ x. x.state) all }
