-- What the bytes of a palette load do.
use Rattle.std.specs.Prelude.{ℕ, ◌+◌, ◌<◌, ◌≤◌, Bool, List, [], ◌∷◌, All, length, nat_lt, slice_set}
use Rattle.feeding.specs.Feeding.{all_fed, count_taken, InParts}
use Rattle.colour.specs.declared.Palette.{Palette}
use Rattle.colour.specs.Entries.{entry_of_bytes}

-- how far a load has come: the entries loaded, and the byte that waits for its entry's second
pub record Load : Type 0 where
  pub entries : ℕ
  pub waiting : List ℕ

-- what every load keeps: it has at most 64 entries, and at most one byte waits
pub record Keeps (l : Load) : Type 0 where
  pub entries : l.entries ≤ 64
  pub few : length l.waiting ≤ 1
  pub byte : All (λ b. b < 256) l.waiting

-- and the palette as it then is
pub record Loading : Type 0 where
  pub palette : Palette
  pub entries : ℕ
  pub waiting : List ℕ

abbrev pub loading : Palette → Load → Loading
loading p l = record { palette = p; entries = l.entries; waiting = l.waiting }

-- a load has 64 entries
abbrev pub unfinished : ℕ → Bool
unfinished entries = nat_lt entries 64

-- a byte has come after those that wait: it waits too, or it completes its entry
abbrev pub paired : Loading → List ℕ → ℕ → Loading
paired s [] b = record { palette = s.palette; entries = s.entries; waiting = b ∷ [] }
paired s (low ∷ _) b = record {
  palette = record { entries = slice_set s.palette.entries s.entries (entry_of_bytes low b) };
  entries = s.entries + 1;
  waiting = [];
}

abbrev pub come : Loading → ℕ → Loading
come s b = paired s s.waiting b

-- a load takes bytes while entries are left
abbrev pub takes : Loading → Bool
takes s = unfinished s.entries

-- bytes, one after another
abbrev pub loaded_by : Loading → List ℕ → Loading
loaded_by = all_fed takes come

-- how many of them are taken
abbrev pub bytes_taken : Loading → List ℕ → ℕ
bytes_taken = count_taken takes come

-- bytes may come in parts: xs and then ys have the effect of both together, and as many of them are taken
abbrev pub LoadInParts : Type 0
LoadInParts = InParts takes come
