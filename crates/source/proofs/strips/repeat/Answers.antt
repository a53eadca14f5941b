use Rattle.std.proofs.Common.{◌≡◌, ◌+◌, ◌%◌, ◌++◌, drop, refl, ap, ◌∙◌, length-append, length-take, length-drop, arith}
use Rattle.std.proofs.Math.Nat.{mod_self}
use Rattle.source.proofs.Repeating.{repeated_once, repeated_more, twice_whole}
use Rattle.source.proofs.strips.repeat.Goals as goal

pub loop-filled-init : goal.loop-filled-init
loop-filled-init c = record { size = refl; some = c.requires; whole = λ h. mod_self c.args.period; each = repeated_once c.args.period c.args.bytes.now }

pub loop-filled-preserved : goal.loop-filled-preserved
loop-filled-preserved c =
    let i = c.loop-filled.invariant in
    let p = c.args.period in
    let n = c.loop-filled.filled in
    let k = c.min-count.result in
    let done = c.split_at_mut-done.result.0.now in
    let rest = c.split_at_mut-done.result.1.now in
    let put = c.copy_from_slice.new.self in
    let whole : n % p ≡ 0 = i.whole (omega arith) in
    record {
      size = omega (arith, length-append done (put ++ drop k rest), length-append put (drop k rest), length-take k rest, length-drop k rest);
      some = omega arith;
      whole = λ h. let e : k ≡ n = omega arith in ap (λ j. (n + j) % p) e ∙ twice_whole p n whole;
      each = repeated_more p n whole c.args.bytes.now c.loop-filled.bytes done put _ k (omega arith) (omega arith)
          c.split_at_mut-done.ensures.front c.copy_from_slice.ensures.after i.each;
    }
