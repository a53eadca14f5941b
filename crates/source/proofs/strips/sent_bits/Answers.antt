use Rattle.std.proofs.Common.{◌≡◌, ◌+◌, ◌-◌, ◌/◌, ◌%◌, ◌^◌, sym, ap, ◌∙◌, ⊎_elim, arith}
use Rattle.std.proofs.lemmas.Bool.{cases_eq}
use Rattle.std.proofs.lemmas.Nat.{mod_below}
use Rattle.std.proofs.lemmas.List.{get_or-set_same, get_or-set_other}
use Rattle.source.specs.Rows.{rows_of, bit_of}
use Rattle.source.proofs.RowPixels.{bit_more}
use Rattle.source.proofs.strips.sent_bits.Goals as goal

pub loop-i-preserved : goal.loop-i-preserved
loop-i-preserved c =
    let i = c.loop-i.i in
    let x = c.loop-i.into in
    let q = c.args.rows in
    let column = mod_below c.args.k q.columns q.some in
    let bit : c.bits-bits.result - 1 - (c.depth-depth.result + i) % c.bits-bits.result ≡ bit_of (rows_of q) (c.args.k + i) =
    rw (c.bits-bits.ensures, c.depth-depth.ensures) (sym (bit_more (rows_of q) c.args.k i (omega arith))) in
    λ j h.
    ⊎_elim
    (λ e. rw e (get_or-set_same x i c.bit_of.result 0 (omega arith) ∙ c.bit_of.ensures ∙ ap (λ n. c.args.sent / 2 ^ n % 2) bit))
    (λ ne. get_or-set_other x i j c.bit_of.result 0 ne ∙ c.loop-i.invariant j (omega arith))
    (cases_eq j i)
