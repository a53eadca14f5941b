use Rattle.std.proofs.Common.{[], sym, subst}
use Rattle.panel.specs.State.{seen}
use Rattle.panel.specs.Histories.{StoryOf}
use Rattle.panel.proofs.Goings.{begun_so}
use Rattle.panel.proofs.panel.Panel.start.Goals as goal

pub returns-clause-history : goal.returns-clause-history
returns-clause-history g c = λ _.
    let s = seen g.M.Memory.bytes c.args.self.now in
    let t = record s { registers = c.set.new.self.places; doing = c.under_way-self.result } in
    subst (λ d. StoryOf t d s.memory []) (sym c.under_way-self.ensures) (begun_so t s.memory c.begin-begun.result (c.begin-begun.ensures.history s.palette s.memory))
