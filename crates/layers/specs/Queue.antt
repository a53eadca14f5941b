-- What a write queue keeps, and what each of its calls makes of that.
use Rattle.std.specs.Prelude.{◌≢◌, ℕ, zero, suc, ◌+◌, ◌-◌, Bool, ◌&&◌, cond, List, [], ◌∷◌, ◌++◌, AllPairs, length, take, drop, ◌==◌, nat_lt, nat_le, slice_index}
use Rattle.std.specs.List.{list_any}
use Rattle.layers.specs.declared.pending.Entry.{Entry}
use Rattle.layers.specs.Entries.{entry}
use Rattle.layers.specs.Laid.{laid}

-- what the memory below holds, and the puts that wait, the oldest first
pub record Queue : Type 0 where
  pub below : List ℕ
  pub entries : List Entry

abbrev pub queue : List ℕ → List Entry → Queue
queue m es = record { below = m; entries = es }

-- what the queue shows
abbrev pub over : Queue → List ℕ
over q = laid q.below q.entries

-- whether an address waits
abbrev pub waits : List Entry → ℕ → Bool
waits es a = list_any (λ e. e.address == a) es

-- whether one of the n addresses from a on waits
abbrev pub waits_within : List Entry → ℕ → ℕ → Bool
waits_within es a n = list_any (λ e. nat_le a e.address && nat_lt e.address (a + n)) es

-- the entry of an address that waits with another value, where it stands: the newest, were there several
unfoldable pub changed : List Entry → ℕ → ℕ → List Entry
changed [] a v = []
changed (e ∷ es) a v = cond (waits es a) (e ∷ changed es a v) (entry a v ∷ es)

-- the oldest goes below
abbrev pub sent : Queue → Queue
sent q = queue (laid q.below (take 1 q.entries)) (drop 1 q.entries)

-- all go below
abbrev pub drained : Queue → Queue
drained q = queue (over q) []

-- a new entry comes last
abbrev pub pushed : Queue → ℕ → ℕ → Queue
pushed q a v = queue q.below (q.entries ++ entry a v ∷ [])

-- a put within memory
unfoldable pub taken : Queue → ℕ → ℕ → Queue
taken q a v =
    cond (waits q.entries a) (queue q.below (changed q.entries a v))
    (cond (nat_lt (length q.entries) 16) (pushed q a v) (pushed (sent q) a v))

-- a put: past the end nothing changes
unfoldable pub queued : Queue → ℕ → ℕ → Queue
queued q a v = cond (nat_lt a (length q.below)) (taken q a v) q

-- bytes put one after another from an address on
unfoldable pub queued_all : Queue → ℕ → List ℕ → Queue
queued_all q a [] = q
queued_all q a (x ∷ xs) = queued_all (queued q a x) (a + 1) xs

-- n bytes put from c on, one after another, each made of the bytes that the queue then shows at the same place from a and from b on
unfoldable pub queued_merged : (ℕ → ℕ → ℕ) → Queue → ℕ → ℕ → ℕ → ℕ → Queue
queued_merged f q a b c zero = q
queued_merged f q a b c (suc n) =
    let p = queued_merged f q a b c n in
    queued p (c + n) (f (slice_index (over p) (a + n)) (slice_index (over p) (b + n)))

-- n bytes put from c on, one after another, each that which the queue then shows at the same place from a on
abbrev pub queued_copied : Queue → ℕ → ℕ → ℕ → Queue
queued_copied q a c n = queued_merged (λ x _. x) q a a c n

-- how many of n bytes put from a on may go below in one call: all but the last 16, or none where one of fewer than 48 waits
abbrev pub through : List Entry → ℕ → ℕ → ℕ
through es a n = cond (waits_within es a n && nat_lt n 48) 0 (n - 16)

-- no address waits twice
abbrev pub Once : List Entry → Type 0
Once es = AllPairs (λ e f. e.address ≢ f.address) es
