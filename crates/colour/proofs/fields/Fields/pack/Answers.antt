use Rattle.colour.proofs.Packing.{packed_by_shifts}
use Rattle.colour.proofs.fields.Fields.pack.Goals as goal

pub returns : goal.returns
returns c = rw (c.narrow-high.ensures.narrows, c.narrow-middle.ensures.narrows, c.narrow-low.ensures.narrows, c.bits.ensures, c.bits-2.ensures) (packed_by_shifts c.args.self.high c.args.self.middle c.args.self.low c.args.high c.args.middle c.args.low c.ranges.high.fits c.ranges.middle.fits)
