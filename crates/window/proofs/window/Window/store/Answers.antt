use Rattle.window.specs.Places.{area_of, place}
use Rattle.window.proofs.Frames.{replaced_inside}
use Rattle.window.proofs.window.Window.store.Goals as goal

pub returns-clause-replaces : goal.returns-clause-replaces
returns-clause-replaces g c =
    rw c.put.ensures (replaced_inside (place (area_of c.args.self.now) c.args.size.bytes c.args.k) c.args.size.bytes c.args.value (g.M.Memory.bytes c.args.memory.now))
