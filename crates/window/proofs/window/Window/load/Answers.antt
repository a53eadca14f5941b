use Rattle.window.specs.Places.{area_of, place}
use Rattle.window.proofs.Frames.{low_byte_first}
use Rattle.window.proofs.window.Window.load.Goals as goal

pub returns-clause-low_first : goal.returns-clause-low_first
returns-clause-low_first g c =
    rw c.value.ensures
    (low_byte_first (g.M.Memory.bytes c.args.memory.now) (g.M.Memory.sound c.args.memory.now) (place (area_of c.args.self.now) c.args.size.bytes c.args.k) c.args.size.bytes)
