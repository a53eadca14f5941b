use Rattle.std.proofs.Common.{◌≡◌, length, ◌-◌, ◌%◌, ◌<◌}
use Rattle.source.proofs.Repeating.{Repeated}
use Rattle.source.proofs.strips.repeat.Given as goal

abbrev pub invariant-loop-filled : goal.invariant-loop-filled
invariant-loop-filled l = record {
  size : length l.bytes ≡ length l.initial.bytes;
  some : 0 < l.filled;
  whole : l.filled < length l.initial.bytes → l.filled % l.period ≡ 0;
  each : Repeated l.period l.initial.bytes l.bytes l.filled;
}

abbrev pub decreases-loop-filled : goal.decreases-loop-filled
decreases-loop-filled l = length l.initial.bytes - l.filled
