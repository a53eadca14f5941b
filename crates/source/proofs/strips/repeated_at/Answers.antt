use Rattle.std.proofs.Common.{◌≡◌, ◌+◌, ◌-◌, ◌++◌, min, length, take, drop, ap, ◌∙◌, length-take, length-drop, length-append, arith}
use Rattle.memory.specs.Spans.{span}
use Rattle.memory.proofs.Spans.{length_span}
use Rattle.source.proofs.Repeating.{row_read, row_repeated}
use Rattle.source.proofs.strips.repeated_at.Goals as goal

pub returns-clause-bytes : goal.returns-clause-bytes
returns-clause-bytes g c =
    let m = g.M.Memory.bytes c.args.memory.now in
    let x = c.args.into.now in
    let start = c.args.start in
    let first = c.args.first in
    let row = c.args.row in
    let n = length x in
    let half = c.min-rest.result in
    let part = min row n - half in
    let y = drop half x in
    let z = c.bytes_at.new.into in
    let w = c.bytes_at-2.new.into in
    let i : length (take half x) ≡ half = omega (arith, length-take half x) in
    let is : z ≡ span m (start + first) half = c.bytes_at.ensures ∙ ap (span m (start + first)) i in
    let read = ap length is ∙ length_span m (start + first) half in
    let both : length (z ++ y) ≡ n = omega (arith, length-append z y, length-drop half x) in
    let k = c.min-whole.result - half in
    let j : length (take k (drop half (z ++ y))) ≡ part = omega (arith, length-take k (drop half (z ++ y)), length-drop half (z ++ y)) in
    let then : w ≡ span m start part = c.bytes_at-2.ensures ∙ ap (span m start) j in
    λ t h.
    row_repeated m c.repeat.new.bytes _ start row first n (omega arith)
    (row_read m y z w _ start row first n half c.requires.inside c.min-rest.ensures is then)
    t (omega arith) (c.repeat.ensures.repeats t h)
