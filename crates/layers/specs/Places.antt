-- Where an address waits.
use Rattle.std.specs.Prelude.{◌≡◌, ℕ, ◌+◌, ◌<◌, ◌≢◌, List, All, HoldsAt, length}
use Rattle.std.specs.List.{AllWithin}
use Rattle.layers.specs.declared.pending.Entry.{Entry}

-- the i-th of the entries is the last for the address a
pub record Last (es : List Entry) (a i : ℕ) : Type 0 where
  pub within : i < length es
  pub here : HoldsAt (λ e. e.address ≡ a) es i
  pub later : AllWithin (λ e. e.address ≢ a) es (i + 1) (length es)

-- no entry is for the address a
abbrev pub Absent : List Entry → ℕ → Type 0
Absent es a = All (λ e. e.address ≢ a) es

-- no entry is for one of the n addresses from a on
abbrev pub Apart : List Entry → ℕ → ℕ → Type 0
Apart es a n = (i : ℕ) → i < n → Absent es (a + i)
