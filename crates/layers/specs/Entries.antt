-- The puts that wait in a queue's table.
use Rattle.std.specs.Prelude.{ℕ}
use Rattle.layers.specs.declared.pending.Entry.{Entry}

-- what is read past the end of a list of entries
abbrev pub none : Entry
none = record { address = 0; value = 0 }

abbrev pub entry : ℕ → ℕ → Entry
entry a v = record { address = a; value = v }
