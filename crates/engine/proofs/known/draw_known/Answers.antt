use Rattle.std.proofs.Common.{◌≡◌, Some, sym, ap, ◌∙◌, subst}
use Rattle.rules.specs.Values.{gives}
use Rattle.engine.specs.Strips.{stripped, Alike}
use Rattle.engine.proofs.Buffers.{first_stripped}
use Rattle.engine.proofs.known.draw_known.Goals as goal

pub returns-in-First-clause-after : goal.returns-in-First-clause-after
returns-in-First-clause-after c =
    let x = c.args.first.bytes.now in
    let y = c.args.second.bytes.now in
    let b = c.args.width in
    let same : c.args.first.width ≡ b = (subst (λ r. Alike r c.args.first.width c.args.second.width b) c.in-First.is c.requires.alike).0 in
    c.draw_bytes.ensures.after
    ∙ first_stripped x y c.draw_bytes.ensures.first_bytes b c.args.second.width c.args.count c.args.target.now
    ∙ ap (λ w. stripped (λ u _. Some u) w c.args.second.width b x y c.args.count c.args.target.now) (sym same)
    ∙ ap (λ r. stripped (gives r b) c.args.first.width c.args.second.width b x y c.args.count c.args.target.now) (sym c.in-First.is)
