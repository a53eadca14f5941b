-- Waiting bytes laid over memory, the oldest first.
use Rattle.std.proofs.Common.{arith}
use Rattle.std.specs.Prelude.{ℕ, ◌%◌, List, [], ◌∷◌, slice_set}
use Rattle.memory.specs.Bytes.{Sound}
use Rattle.memory.specs.View.{set_sound}
use Rattle.layers.specs.declared.pending.Entry.{Entry}

-- An entry's value is a byte; here it is any number, so what is laid takes the remainder.
unfoldable pub laid : List ℕ → List Entry → List ℕ
laid m [] = m
laid m (e ∷ es) = laid (slice_set m e.address (e.value % 256)) es

pub laid_sound : (m : List ℕ) (es : List Entry) → Sound m → Sound (laid m es)
unfolding laid
laid_sound m [] s = s
laid_sound m (e ∷ es) s = laid_sound (slice_set m e.address (e.value % 256)) es (set_sound m s e.address (e.value % 256) (omega arith))
