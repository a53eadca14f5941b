use Rattle.colour.proofs.Packing.{unpacked_by_shifts}
use Rattle.colour.proofs.FieldBits.{unpacked_composed}
use Rattle.colour.proofs.fields.Fields.unpack.Goals as goal

pub returns-clause-unpacks : goal.returns-clause-unpacks
returns-clause-unpacks c = rw (c.widen.ensures.widens, c.widen-2.ensures.widens, c.widen-3.ensures.widens, c.bits.ensures, c.bits-2.ensures) (unpacked_by_shifts c.args.self.high c.args.self.middle c.args.self.low c.args.value)

pub returns-clause-fields : goal.returns-clause-fields
returns-clause-fields c = unpacked_composed _ _ _ _ _ (returns-clause-unpacks c)
