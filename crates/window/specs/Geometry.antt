-- Where the pixels of a window lie, by column and row, and how far the window reaches.
use Rattle.std.specs.Prelude.{◌≡◌, ℕ, ◌+◌, ◌*◌, ◌%◌, ◌<◌, ◌≤◌}
use Rattle.window.specs.declared.area.Area.{Area}
use Rattle.window.specs.Places.{place, cell}

-- where the pixel in column c and row r begins, at b bytes a pixel
abbrev pub begins : Area → ℕ → ℕ → ℕ → ℕ
begins a b c r = a.start + ((a.top + r) * a.image + a.left + c) * b

-- pixels are counted row after row from the top, and within a row from left to right
abbrev pub InRowOrder : Area → ℕ → Type 0
InRowOrder a b = (c r : ℕ) → c < a.width → place a b (r * a.width + c) ≡ begins a b c r

-- the n pixels from k on lie side by side: pixel k + i begins i pixels past pixel k, at any number of bytes a pixel
abbrev pub SideBySide : Area → ℕ → ℕ → Type 0
SideBySide a k n = (i : ℕ) → i < n → (b : ℕ) → place a b (k + i) ≡ place a b k + i * b

-- column c and row r of a rectangle so many columns wide have the window's pixel in column c mod width and row r mod height
abbrev pub Repeats : Area → ℕ → Type 0
Repeats a columns = (c r : ℕ) → c < columns → cell a columns (r * columns + c) ≡ r % a.height * a.width + c % a.width

-- x is one of the b bytes of a pixel of the window
pub record PixelByte (a : Area) (b x : ℕ) : Type 0 where
  pub column : ℕ
  pub row : ℕ
  pub byte : ℕ
  pub in_row : column < a.width
  pub in_window : row < a.height
  pub in_pixel : byte < b
  pub is : x ≡ begins a b column row + byte

-- a byte that is meant does not lie below a size
pub record BytePast (Meant : ℕ → Type 0) (size : ℕ) : Type 0 where
  pub address : ℕ
  pub meant : Meant address
  pub past : size ≤ address

-- the least size that holds every byte that is meant: each lies below it, and past each smaller size lies one
pub record LeastSize (Meant : ℕ → Type 0) (size : ℕ) : Type 0 where
  pub holds : (x : ℕ) → Meant x → x < size
  pub least : (smaller : ℕ) → smaller < size → BytePast Meant smaller
