-- A blend at one level.
use Rattle.std.specs.Prelude.{ℕ}
use Rattle.rules.specs.declared.Blend.{Blend}

abbrev pub blend_at : {F S : Type 0} → ℕ → F → S → Blend F S
blend_at level first second = record { level = level; first = first; second = second }
