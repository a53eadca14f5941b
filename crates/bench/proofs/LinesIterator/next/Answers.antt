use Rattle.std.proofs.Common.{rules, ◌+◌, length, sym, ap, arith}
use Rattle.std.proofs.lemmas.Slice.{between_to_end}
use Rattle.bench.proofs.FirstLine.{lines_none, lines_next}
use Rattle.bench.proofs.LinesIterator.next.Goals as goal

pub returns-in_err-end-clause-steps : goal.returns-in_err-end-clause-steps
returns-in_err-end-clause-steps c =
    let none = lines_none c.args.self.now.0.now (sym c.in_err-end.ensures) in
    rw c.from_residual.ensures (none, none)

next_line : goal.returns-clause-steps
next_line c =
    let xs = c.args.self.now.0.now in
    let rest = between_to_end xs (c.in_ok-end.end + 1) (length xs) (omega arith) in
    let next = lines_next xs c.in_ok-end.end (sym c.in_ok-end.ensures) in
    cc

pub returns-clause-steps : goal.returns-clause-steps
returns-clause-steps = next_line

pub returns-clause-goes : goal.returns-clause-goes
returns-clause-goes c =
    let fewer = ap length (next_line c) in
    search rules
