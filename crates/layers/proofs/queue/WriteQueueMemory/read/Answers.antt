use Rattle.std.proofs.Common.{◌≡◌, ◌%◌, mod-eq_of_lt, arith}
use Rattle.memory.proofs.Access.{read_in}
use Rattle.layers.specs.Laid.{laid}
use Rattle.layers.proofs.Lays.{laid_last, laid_absent, length_laid}
use Rattle.layers.proofs.queue.WriteQueueMemory.read.Goals as goal

pub returns-in-Some : goal.returns-in-Some
returns-in-Some g c =
    let q = c.args.self.now in
    let m = g.M.Memory.bytes q.below in
    let es = q.pending in
    let a = c.args.address in
    let long = length_laid m es in
    let seen = laid_last m es a c.in-Some.place c.in-Some.ensures (omega arith) in
    let byte : c.at.result.value % 256 ≡ c.at.result.value = mod-eq_of_lt (omega arith) in
    let found = read_in (laid m es) a (omega arith) in
    cc

pub returns-in-None : goal.returns-in-None
returns-in-None g c =
    let q = c.args.self.now in
    let m = g.M.Memory.bytes q.below in
    let es = q.pending in
    let a = c.args.address in
    let long = length_laid m es in
    let seen = laid_absent m es a c.in-None.ensures in
    let found = read_in (laid m es) a (omega arith) in
    let under = read_in m a (omega arith) in
    cc
