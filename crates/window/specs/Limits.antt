-- The limits within which a window exists.
use Rattle.std.specs.Prelude.{◌≡◌, ℕ, ◌+◌, ◌≤◌, min, Bool, ◌&&◌, nat_le, Ok, Err, Result}
use Rattle.window.specs.declared.area.Area.{Area}

-- a number from 1 to the limit; a limit above 8,191 counts as 8,191
abbrev pub side : ℕ → ℕ → Bool
side limit n = nat_le 1 n && nat_le n (min limit 8191)

-- image width and both sides are sides; left and top are 0 to 8,191; the columns lie within the image
abbrev pub within : ℕ → Area → Bool
within limit a =
    side limit a.image && (side limit a.width && (side limit a.height && (nat_le a.left 8191 && (nat_le a.top 8191 && nat_le (a.left + a.width) a.image))))

-- the numbers of a window are within the limits
pub record Within (limit : ℕ) (a : Area) : Type 0 where
  pub image : (1 ≤ a.image) × (a.image ≤ 8191) × (a.image ≤ limit)
  pub width : (1 ≤ a.width) × (a.width ≤ 8191) × (a.width ≤ limit)
  pub height : (1 ≤ a.height) × (a.height ≤ 8191) × (a.height ≤ limit)
  pub left : a.left ≤ 8191
  pub top : a.top ≤ 8191
  pub columns : a.left + a.width ≤ a.image

-- a window that is made is the one that was asked for, and its numbers are within the limits; where they are not, 7 is answered
abbrev pub MadeExactly : ℕ → Area → Result Area ℕ → Type 0
MadeExactly limit a (Ok b) = (b ≡ a) × Within limit a
MadeExactly limit a (Err n) = (n ≡ 7) × (Within limit a → ⊥)
