-- What a read answers within memory and past it.
use Rattle.std.proofs.Common.{◌≡◌, ℕ, ◌<◌, ◌≤◌, List, length, get_or, Ok, Err, refl}
use Rattle.std.proofs.lemmas.Bool.{lt-ltb, le-ltb}
use Rattle.memory.specs.Bytes.{read_at}

pub read_in : (m : List ℕ) (a : ℕ) → a < length m → Ok (get_or m a 0) ≡ read_at m a
read_in m a h = rw (lt-ltb a (length m) h) refl

pub read_past : (m : List ℕ) (a : ℕ) → length m ≤ a → Err 12 ≡ read_at m a
read_past m a h = rw (le-ltb a (length m) h) refl
