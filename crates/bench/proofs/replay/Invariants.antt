use Rattle.panel.specs.State.{seen}
use Rattle.bench.specs.Scripts.{lines}
use Rattle.bench.proofs.Obeying.{DoneSoFar}
use Rattle.bench.proofs.replay.Given as goal

abbrev pub invariant-loop-line : goal.invariant-loop-line
invariant-loop-line g l =
    let bytes = g.M.Memory.bytes in
    DoneSoFar (seen bytes l.initial.panel) (lines l.input) l.initial.out.items (seen bytes l.panel) l.out.items (lines l.line-iterator.0.now)
