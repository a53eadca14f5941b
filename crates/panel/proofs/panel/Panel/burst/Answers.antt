use Rattle.std.proofs.Common.{true, false, Ok, sym, refl, subst}
use Rattle.job.specs.Works.{feed_after}
use Rattle.panel.specs.State.{seen}
use Rattle.panel.specs.Histories.{BurstGoesOn}
use Rattle.panel.specs.declared.activity.Activity.TheVariants.{Idle, Awaiting}
use Rattle.panel.proofs.Goings.{burst_on}
use Rattle.panel.proofs.panel.Panel.burst.Goals as goal

pub returns-then-not-awaits-clause-history : goal.returns-then-not-awaits-clause-history
returns-then-not-awaits-clause-history g c =
    let s = seen g.M.Memory.bytes c.args.self.now in
    let t = record s { memory = g.M.Memory.bytes c.feed.new.memory; doing = Idle } in
    let w = c.in-Awaiting.begun in
    let xs = c.args.sent.now in
    let counts = c.in_ok-counts-in-Awaiting.counts in
    let e = c.in_ok-counts-in-Awaiting.ensures in
    subst (λ d. BurstGoesOn s d xs (Ok counts) t) (sym c.in-Awaiting.is)
    (burst_on s t w c.feed.new.self (feed_after w s.palette s.memory xs) e.job false xs counts e.answer c.if-not-awaits.ensures.answer refl e.allowed e.rest e.history)

pub returns-else-not-awaits-clause-history : goal.returns-else-not-awaits-clause-history
returns-else-not-awaits-clause-history g c =
    let s = seen g.M.Memory.bytes c.args.self.now in
    let t = record s { memory = g.M.Memory.bytes c.feed.new.memory; doing = Awaiting c.feed.new.self } in
    let w = c.in-Awaiting.begun in
    let xs = c.args.sent.now in
    let counts = c.in_ok-counts-in-Awaiting.counts in
    let e = c.in_ok-counts-in-Awaiting.ensures in
    subst (λ d. BurstGoesOn s d xs (Ok counts) t) (sym c.in-Awaiting.is)
    (burst_on s t w c.feed.new.self (feed_after w s.palette s.memory xs) e.job true xs counts e.answer c.if-not-awaits.ensures.answer refl e.allowed e.rest e.history)
