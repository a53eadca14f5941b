use Rattle.std.proofs.Common.{ap, ◌∙◌}
use Rattle.pixel.specs.Rasters.{raster_channel}
use Rattle.memory.proofs.Mirrored.{mirrored_bits}
use Rattle.memory.proofs.rasters.Masks.mirrored.Goals as goal

pub returns : goal.returns
returns c x y = ap (λ r. raster_channel r x y) c.of.ensures ∙ mirrored_bits 8 c.args.self.rule x y
