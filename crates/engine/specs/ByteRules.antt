-- Of bytes, means make bytes.
use Rattle.std.specs.Prelude.{ℕ}
use Rattle.memory.specs.Spans.{OfBytes}
use Rattle.pixel.specs.Blends.{blend_channel}
use Rattle.pixel.proofs.Blends.{blend_lt}

pub mean_fits : (level : ℕ) → OfBytes (blend_channel level)
mean_fits level x y h k = blend_lt level x y h k
