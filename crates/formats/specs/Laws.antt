-- The canvas formats keep the laws of narrowing.
use Rattle.std.proofs.Common.{refl}
use Rattle.colour.specs.declared.field.FieldWidth.TheVariants.{Two, Three, Five, Six, Eight}
use Rattle.colour.specs.Formats.{Narrows}
use Rattle.colour.proofs.Packing.{Red, Green, Blue, narrows}
use Rattle.formats.specs.Packed.{format332, narrow332, format565, narrow565, format888, narrow888}
use Rattle.formats.specs.Depths.{depth_format, depth_narrow}
use Rattle.formats.specs.declared.Depth.{Depth}
use Rattle.formats.specs.declared.Depth.TheVariants.{Rgb332, Rgb565, Rgb888}

pub narrows332 : Narrows format332 narrow332
narrows332 = narrows Three Three Two Red Green Blue format332 refl (λ _ _. refl)

pub narrows565 : Narrows format565 narrow565
narrows565 = narrows Five Six Five Red Green Blue format565 refl (λ _ _. refl)

pub narrows888 : Narrows format888 narrow888
narrows888 = narrows Eight Eight Eight Red Green Blue format888 refl (λ _ _. refl)

-- the laws of the depth that is chosen while the program runs
pub depth_keeps : (d : Depth) → Narrows (depth_format d) (depth_narrow d)
depth_keeps Rgb332 = narrows332
depth_keeps Rgb565 = narrows565
depth_keeps Rgb888 = narrows888
