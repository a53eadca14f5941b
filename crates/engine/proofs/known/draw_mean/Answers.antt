use Rattle.std.proofs.Common.{ℕ, Some, Option, ap, ◌∙◌, arith}
use Rattle.pixel.specs.Blends.{blend_channel}
use Rattle.rules.specs.Values.{by_fields}
use Rattle.engine.specs.Strips.{stripped, rgb332, rgb565, rgb888}
use Rattle.engine.proofs.Buffers.{mean_stripped, mean_as, common_one, common_two, common_three}
use Rattle.engine.proofs.known.draw_mean.Goals as goal

pub returns-in-1-clause-after : goal.returns-in-1-clause-after
returns-in-1-clause-after c =
    let x = c.args.first.bytes.now in
    let y = c.args.second.bytes.now in
    let made : ℕ → ℕ → Option ℕ = λ u v. Some (by_fields (blend_channel c.args.level) rgb332 u v) in
    c.draw_each.ensures.after
    ∙ ap (λ w. stripped made w c.new-second.result.width 1 c.new-first.result.bytes.now c.new-second.result.bytes.now c.args.count c.args.target.now) c.new-first.ensures.width
    ∙ ap (λ w. stripped made 1 w 1 c.new-first.result.bytes.now c.new-second.result.bytes.now c.args.count c.args.target.now) c.new-second.ensures.width
    ∙ ap (λ z. stripped made 1 1 1 z c.new-second.result.bytes.now c.args.count c.args.target.now) c.new-first.ensures.bytes
    ∙ ap (λ z. stripped made 1 1 1 x z c.args.count c.args.target.now) c.new-second.ensures.bytes
    ∙ mean_as c.args.level c.args.fields rgb332 c.args.width 1 c.args.first.width c.args.second.width x y c.args.count c.args.target.now
    (common_one c.args.fields c.args.width c.requires.common c.in-1.is) c.in-1.is c.requires.first_width c.requires.second_width

pub returns-in-2-clause-after : goal.returns-in-2-clause-after
returns-in-2-clause-after c =
    let x = c.args.first.bytes.now in
    let y = c.args.second.bytes.now in
    let made : ℕ → ℕ → Option ℕ = λ u v. Some (by_fields (blend_channel c.args.level) rgb565 u v) in
    c.draw_each-in-2.ensures.after
    ∙ ap (λ w. stripped made w c.new-second-in-2.result.width 2 c.new-first-in-2.result.bytes.now c.new-second-in-2.result.bytes.now c.args.count c.args.target.now) c.new-first-in-2.ensures.width
    ∙ ap (λ w. stripped made 2 w 2 c.new-first-in-2.result.bytes.now c.new-second-in-2.result.bytes.now c.args.count c.args.target.now) c.new-second-in-2.ensures.width
    ∙ ap (λ z. stripped made 2 2 2 z c.new-second-in-2.result.bytes.now c.args.count c.args.target.now) c.new-first-in-2.ensures.bytes
    ∙ ap (λ z. stripped made 2 2 2 x z c.args.count c.args.target.now) c.new-second-in-2.ensures.bytes
    ∙ mean_as c.args.level c.args.fields rgb565 c.args.width 2 c.args.first.width c.args.second.width x y c.args.count c.args.target.now
    (common_two c.args.fields c.args.width c.requires.common c.in-2.is) c.in-2.is c.requires.first_width c.requires.second_width

pub returns-in_default-clause-after : goal.returns-in_default-clause-after
returns-in_default-clause-after c =
    let x = c.args.first.bytes.now in
    let y = c.args.second.bytes.now in
    let is = common_three c.args.fields c.args.width c.requires.common (λ e. omega arith) (λ e. omega arith) in
    c.draw_bytes.ensures.after
    ∙ mean_stripped (blend_channel c.args.level) x y c.draw_bytes.ensures.first_bytes c.draw_bytes.ensures.second_bytes c.args.count c.args.target.now
    ∙ mean_as c.args.level c.args.fields rgb888 c.args.width 3 c.args.first.width c.args.second.width x y c.args.count c.args.target.now
    is.0 is.1 c.requires.first_width c.requires.second_width
