use Rattle.std.proofs.Common.{rules}
use Rattle.complete.proofs.Commuting.{order_hidden_by, order_does_not_show}
use Rattle.complete.proofs.Framing.{both_only, rectangle_only}
use Rattle.complete.proofs.laws.in_either_order.Goals as goal

pub returns-clause-order : goal.returns-clause-order
returns-clause-order g c = search (rules, order_hidden_by {complete = c.if-before.result} c.both-one.ensures c.both-other.ensures)

pub returns-clause-only : goal.returns-clause-only
returns-clause-only g c =
    let a = g.V.CompleteOperation.way c.args.a.now in
    let b = g.W.CompleteOperation.way c.args.b.now in
    let b' = g.X.CompleteOperation.way c.args.b_again.now in
    let a' = g.Y.CompleteOperation.way c.args.a_again.now in (both_only a b _ _ c.both-one.ensures.leaves, both_only b' a' _ _ c.both-other.ensures.leaves)

pub returns-clause-law : goal.returns-clause-law
returns-clause-law g c = order_does_not_show

pub returns-clause-rectangle : goal.returns-clause-rectangle
returns-clause-rectangle g c = rectangle_only
