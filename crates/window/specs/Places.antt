-- Where the pixels of a window lie.
use Rattle.std.specs.Prelude.{ℕ, ◌+◌, ◌-◌, ◌*◌, ◌/◌, ◌%◌, if◌then◌else◌, Ok, Err, Result, ◌==◌}
use Rattle.refusal.specs.declared.Refusal.{Refusal}
use Rattle.refusal.specs.Numbers.{number_of}
use Rattle.window.specs.declared.area.Area.{Area}
use Rattle.window.specs.declared.window.Window.{Window}
use Rattle.window.specs.Limits.{within}

-- the numbers of a window
abbrev pub area_of : Window → Area
area_of w = w.area

-- a window, or 7 where the numbers lie outside the limits
abbrev pub window_at : ℕ → Area → Result Area ℕ
window_at limit a = if within limit a then Ok a else Err 7

abbrev pub shown : Result Window Refusal → Result Area ℕ
shown (Ok w) = Ok (area_of w)
shown (Err e) = Err (number_of e)

-- how many pixels a window has
abbrev pub pixels : Area → ℕ
pixels a = a.width * a.height

-- which pixel of its image pixel k is: k counts row by row from the top, from left to right
abbrev pub in_image : Area → ℕ → ℕ
in_image a k = (a.top + k / a.width) * a.image + a.left + k % a.width

-- where pixel k begins, at b bytes a pixel
unfoldable pub place : Area → ℕ → ℕ → ℕ
place a b k = a.start + in_image a k * b

-- the pixel of a window that stands at pixel k of a rectangle with so many columns, where copies of the window lie
-- side by side and below one another; no columns have the first pixel everywhere
abbrev pub cell : Area → ℕ → ℕ → ℕ
cell a columns k = if columns == 0 then 0 else k / columns % a.height * a.width + k % columns % a.width

-- the first address past the window's last pixel
abbrev pub reach : Area → ℕ → ℕ
reach a b = a.start + ((a.top + a.height - 1) * a.image + a.left + a.width) * b
