-- Of bytes, raster rules make bytes.
use Rattle.std.specs.Prelude.{ℕ}
use Rattle.memory.specs.Spans.{OfBytes}
use Rattle.pixel.specs.Rasters.{raster_channel}
use Rattle.pixel.proofs.Minterms.{raster_lt}

pub raster_fits : (rule : ℕ) → OfBytes (raster_channel rule)
raster_fits rule x y h k = raster_lt 8 rule x y
