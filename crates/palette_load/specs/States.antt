-- What a load is as plain values.
use Rattle.std.specs.Prelude.{◌≡◌, ℕ, List, [], ◌∷◌, Some, None, Option}
use Rattle.std.proofs.Common.{refl, ap}
use Rattle.palette_load.specs.declared.load.PaletteLoad.TheInside.{Inside}
use Rattle.palette_load.specs.Loads.{Load}

abbrev pub waits : Option ℕ → List ℕ
waits None = []
waits (Some b) = b ∷ []

abbrev pub load_of : Inside → Load
load_of l = record { entries = l.entries; waiting = waits l.low }

-- the byte that waits, if there is one
abbrev pub low_of : List ℕ → Option ℕ
low_of [] = None
low_of (b ∷ bs) = Some b

abbrev pub inside_of : Load → Inside
inside_of l = record { entries = l.entries; low = low_of l.waiting }

-- which undoes what clauses see
low_again : (o : Option ℕ) → low_of (waits o) ≡ o
low_again None = refl
low_again (Some b) = refl

pub inside_again : (l : Inside) → inside_of (load_of l) ≡ l
inside_again l = ap (λ o. record { entries = l.entries; low = o }) (low_again l.low)
