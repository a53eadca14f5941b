use Rattle.std.proofs.Common.{◌≡◌, length}
use Rattle.engine.specs.Strips.{stripped}
use Rattle.engine.proofs.strips.draw_each.Given as goal

abbrev pub invariant-loop-i : goal.invariant-loop-i
invariant-loop-i g l = record {
  drawn :
      l.target
      ≡ stripped (g.F.OnValues.gives l.rule) l.first.width l.second.width l.width l.first.bytes.now l.second.bytes.now l.i l.initial.target;
  long : length l.target ≡ length l.initial.target;
}
