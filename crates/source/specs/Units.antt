-- The units in which the bits of a one-bit picture come.
use Rattle.std.specs.Prelude.{ℕ}
use Rattle.source.specs.declared.rows.Unit.{Unit}
use Rattle.source.specs.declared.rows.Unit.TheVariants.{Eight, Sixteen}

abbrev pub unit_bits : Unit → ℕ
unit_bits Eight = 8
unit_bits Sixteen = 16
