use Rattle.std.proofs.Common.{◌≡◌}
use Rattle.memory.specs.Spans.{merged}
use Rattle.pixel.specs.Rasters.{raster_channel}
use Rattle.memory.proofs.Memory.raster.Given as goal

abbrev pub invariant-loop-i : goal.invariant-loop-i
invariant-loop-i g l = g.Self.Memory.bytes l.self ≡ merged (raster_channel l.rule) (g.Self.Memory.bytes l.initial.self) l.first l.second l.to l.i
