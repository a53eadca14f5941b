-- What a queue's table holds.
use Rattle.std.specs.Prelude.{List}
use Rattle.layers.specs.declared.pending.Entry.{Entry}
use Rattle.layers.specs.declared.pending.Pending.TheInside.{Inside}

-- the puts that wait, the oldest first
abbrev pub waiting : Inside → List Entry
waiting p = p.table.items
