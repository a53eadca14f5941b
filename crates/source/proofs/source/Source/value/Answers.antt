use Rattle.source.proofs.Meanings.{gives}
use Rattle.source.proofs.source.Source.value.Goals as goal

pub returns-in-Bits-clause-gives : goal.returns-in-Bits-clause-gives
returns-in-Bits-clause-gives g c = gives c.args.self.now (g.M.Memory.bytes c.args.memory.now) (g.M.Memory.sound c.args.memory.now) c.args.sent

pub returns-in-HostBits-clause-gives : goal.returns-in-HostBits-clause-gives
returns-in-HostBits-clause-gives g c = gives c.args.self.now (g.M.Memory.bytes c.args.memory.now) (g.M.Memory.sound c.args.memory.now) c.args.sent
