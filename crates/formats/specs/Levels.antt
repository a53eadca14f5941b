-- The levels of the overlay formats are at most 32.
use Rattle.std.specs.Prelude.{ℕ, zero, suc, ◌*◌, ◌/◌, ◌%◌, ◌≤◌, true, false, cond, ◌==◌, slice_index}
use Rattle.std.proofs.Common.{arith, lit≤}
use Rattle.formats.specs.Overlays.{index_levels, level4444}
use Rattle.formats.specs.OverlayKinds.{overlay_level}
use Rattle.formats.specs.declared.overlays.OverlayKind.{OverlayKind}
use Rattle.formats.specs.declared.overlays.OverlayKind.TheVariants.{Index26, Argb4444}

pub index_bounded : (k : ℕ) → slice_index index_levels k ≤ 32
index_bounded zero = lit≤ tt
index_bounded (suc zero) = lit≤ tt
index_bounded (suc (suc zero)) = lit≤ tt
index_bounded (suc (suc (suc zero))) = lit≤ tt
index_bounded (suc (suc (suc (suc k)))) = lit≤ tt

pub bounded4444 : (v : ℕ) → level4444 v ≤ 32
bounded4444 v =
    elim (v / 4096 % 16 == 15) as (λ b. cond b 32 (2 * (v / 4096 % 16)) ≤ 32) [ true ↦ lit≤ tt | false ↦ omega arith ]

-- the level of the kind that is chosen while the program runs
pub overlay_bounded : (k : OverlayKind) (v : ℕ) → overlay_level k v ≤ 32
overlay_bounded Index26 v = index_bounded (v / 64 % 4)
overlay_bounded Argb4444 v = bounded4444 v
