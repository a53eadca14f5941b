-- The format keeps the laws of narrowing.
use Rattle.std.proofs.Common.{refl}
use Rattle.colour.specs.declared.field.FieldWidth.TheVariants.{Five, Six}
use Rattle.colour.specs.Formats.{Narrows}
use Rattle.colour.proofs.Packing.{Red, Green, Blue, narrows}
use Rattle.blue_first.specs.Packed.{narrowBgr, formatBgr}

pub narrowsBgr : Narrows formatBgr narrowBgr
narrowsBgr = narrows Five Six Five Blue Green Red formatBgr refl (λ _ _. refl)
