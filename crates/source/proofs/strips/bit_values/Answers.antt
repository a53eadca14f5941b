use Rattle.std.proofs.Common.{◌≡◌, ℕ, List, ◌+◌, ◌-◌, ◌/◌, ◌%◌, ◌^◌, length, get_or, take, replicate, ap, ◌∙◌, length-take, arith}
use Rattle.std.proofs.lemmas.List.{get_or_append_left, length-replicate}
use Rattle.std.proofs.lemmas.Nat.{mod_below}
use Rattle.memory.specs.Spans.{span}
use Rattle.memory.proofs.Spans.{length_span}
use Rattle.source.specs.Units.{unit_bits}
use Rattle.source.specs.Rows.{rows_of, depth_in_row, unit_address, units_bytes}
use Rattle.source.proofs.TakenBits.{bit_taken, depth_low, units_few}
use Rattle.source.proofs.strips.bit_values.Goals as goal

pub returns-clause-values : goal.returns-clause-values
returns-clause-values g c =
    let m = g.M.Memory.bytes c.args.memory.now in
    let q = c.args.rows in
    let n = c.min-count.result in
    let low = depth_low q.unit (depth_in_row (rows_of q) c.args.k) in
    let few = units_few q.unit (depth_in_row (rows_of q) c.args.k % unit_bits q.unit + n) (omega arith) in
    let zeros : List ℕ = replicate 128 0 in
    let room = length (take c.bytes_of.result zeros) in
    let long : room ≡ units_bytes (rows_of q) c.args.k n = omega (arith, length-take c.bytes_of.result zeros, length-replicate {A = ℕ} 128 0) in
    let from : c.bytes_at.new.into ≡ span m c.unit_address.result room = c.bytes_at.ensures in
    let loaded : c.bytes_at.new.into ≡ span m (unit_address (rows_of q) c.args.start c.args.k) (units_bytes (rows_of q) c.args.k n) =
    from ∙ ap (λ a. span m a room) c.unit_address.ensures ∙ ap (span m (unit_address (rows_of q) c.args.start c.args.k)) long in
    let read = ap length loaded ∙ length_span m (unit_address (rows_of q) c.args.start c.args.k) (units_bytes (rows_of q) c.args.k n) in
    let size : length c.spread.new.into ≡ n = omega (arith, c.spread.ensures.size, length-take n c.args.into.now) in
    let turned = c.turn_units.ensures.size in
    let bit : ℕ → ℕ → ℕ = λ d i. get_or c.turn_units.new.bytes ((d + i) / 8) 0 / 2 ^ (7 - (d + i) % 8) % 2 in
    let column = mod_below c.args.k q.columns q.some in
    λ i h.
    get_or_append_left c.spread.new.into _ 0 i (omega arith)
    ∙ bit_taken m c.bytes_at.new.into c.turn_units.new.bytes c.spread.new.into q c.args.start c.args.k n i (omega arith) h loaded
    (λ j l. c.turn_units.ensures.turns j (omega arith))
    (c.spread.ensures.bits i (omega arith) ∙ ap (λ d. bit d i) c.depth-depth.ensures)
