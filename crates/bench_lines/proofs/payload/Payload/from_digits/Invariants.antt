use Rattle.std.proofs.Common.{◌≡◌, ◌-◌, length, take, drop, replicate}
use Rattle.bench_lines.proofs.Bursts.{prefixed, pairs_spell}
use Rattle.bench_lines.proofs.payload.Payload.from_digits.Given as goal

abbrev pub invariant-loop-i : goal.invariant-loop-i
invariant-loop-i l = record {
  long : length l.bytes ≡ 32;
  spelled : prefixed (take l.i l.bytes) (pairs_spell (drop l.i l.pairs)) ≡ pairs_spell l.pairs;
  filled : drop l.i l.bytes ≡ replicate (32 - l.i) 0;
}
