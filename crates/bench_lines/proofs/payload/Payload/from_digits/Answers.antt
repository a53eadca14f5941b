use Rattle.std.proofs.Common.{◌≡◌, length, take, Some, sym, ap, ◌∙◌, append-nil, arith}
use Rattle.std.proofs.lemmas.Bool.Decides.{nat_tests}
use Rattle.std.proofs.lemmas.List.{length-set, drop_all}
use Rattle.bench_lines.specs.Commands.{as_burst}
use Rattle.bench_lines.proofs.Bursts.{burst_pairs, pairs_spell, pair_none, pair_some, zeros_next}
use Rattle.bench_lines.proofs.payload.Payload.from_digits.Goals as goal

pub returns-in_err-bytes : goal.returns-in_err-bytes
returns-in_err-bytes c =
    let ds = c.args.digits.now in
    let ps = c.as_chunks.result.0.now in
    let line = burst_pairs ds ps c.as_chunks.ensures.front c.as_chunks.ensures.front_len (grind (arith, nat_tests)) (grind (arith, nat_tests)) (omega arith) in
    let none = pair_none ps (take c.loop-i.i c.loop-i.bytes) c.loop-i.i c.loop-i-test.true (sym c.in_err-bytes.ensures) in
    ap as_burst (c.from_residual.ensures ∙ sym none ∙ c.loop-i.invariant.spelled) ∙ line

pub loop-i-preserved : goal.loop-i-preserved
loop-i-preserved c =
    let bs = c.loop-i.bytes in
    let i = c.loop-i.i in
    let b = c.in_ok-bytes.field-0 in
    let long = c.loop-i.invariant.long in
    record {
      long = length-set bs i b ∙ long;
      spelled = pair_some c.as_chunks.result.0.now bs i b c.loop-i-test.true (omega arith) (sym c.in_ok-bytes.ensures) ∙ c.loop-i.invariant.spelled;
      filled = zeros_next bs i b (omega arith) c.loop-i.invariant.filled;
    }

pub returns : goal.returns
returns c =
    let ds = c.args.digits.now in
    let ps = c.as_chunks.result.0.now in
    let bs = c.loop-i.bytes in
    let line = burst_pairs ds ps c.as_chunks.ensures.front c.as_chunks.ensures.front_len (grind (arith, nat_tests)) (grind (arith, nat_tests)) (omega arith) in
    let none = drop_all c.loop-i.i ps c.loop-i-test.false in
    let all : Some (take (length ps) bs) ≡ pairs_spell ps = grind (arith, append-nil, c.loop-i.invariant.spelled) in
    ap as_burst all ∙ line
