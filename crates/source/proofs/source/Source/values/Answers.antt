use Rattle.std.proofs.Common.{◌∙◌, refl}
use Rattle.window.specs.Values.{value_at}
use Rattle.source.proofs.Repeating.{value_one}
use Rattle.source.proofs.source.Source.values.Goals as goal

pub returns-in-Unused-clause-values : goal.returns-in-Unused-clause-values
unfolding value_at
returns-in-Unused-clause-values g c = rw c.in-Unused.is (λ i h. refl)

pub returns-in-HostBits-clause-values : goal.returns-in-HostBits-clause-values
returns-in-HostBits-clause-values g c = rw c.in-HostBits.is (λ i h. value_one c.sent_bits.new.into i ∙ c.sent_bits.ensures.values i h)

pub returns-in-Bits-clause-values : goal.returns-in-Bits-clause-values
returns-in-Bits-clause-values g c = rw c.in-Bits.is (λ i h. value_one c.bit_values.new.into i ∙ c.bit_values.ensures.values i h)
