use Rattle.pixel.specs.Rasters.{raster_channel}
use Rattle.memory.proofs.SpanBytes.{merged_bytes}
use Rattle.memory.proofs.BoardMemory.raster.Goals as goal

pub returns-clause-bytes : goal.returns-clause-bytes
returns-clause-bytes g c = merged_bytes (raster_channel c.args.rule) _ _ _ _ _ _ c.raster.ensures.after
