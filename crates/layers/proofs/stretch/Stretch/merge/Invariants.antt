use Rattle.std.proofs.Common.{◌≡◌}
use Rattle.memory.specs.Spans.{overlaid, merged}
use Rattle.layers.specs.Part.{part}
use Rattle.layers.proofs.stretch.Stretch.merge.Given as goal

abbrev pub invariant-loop-i : goal.invariant-loop-i
invariant-loop-i g l =
    let bytes = g.M.Memory.bytes in
    let s = l.initial.self in
    let put = merged (g.F.ByteRule.gives l.rule) (part (bytes s.below) s.start s.length) l.first l.second l.to l.i in
    record {
      start : l.self.start ≡ s.start;
      length : l.self.length ≡ s.length;
      after : part (bytes l.self.below) s.start s.length ≡ put;
      under : bytes l.self.below ≡ overlaid (bytes s.below) s.start put;
    }
