use Rattle.feeding.proofs.Feeding.{SoFar}
use Rattle.palette_load.specs.Loads.{loading, takes, come}
use Rattle.palette_load.proofs.load.PaletteLoad.feed.Given as goal

abbrev pub invariant-loop-taken : goal.invariant-loop-taken
invariant-loop-taken l = SoFar takes come (loading l.initial.palette l.initial.self) l.sent l.taken (loading l.palette l.self)
