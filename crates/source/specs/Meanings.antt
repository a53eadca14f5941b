-- What a source gives, by column and row, and the bytes of memory that it has.
use Rattle.std.specs.Prelude.{◌≡◌, ℕ, ◌+◌, ◌-◌, ◌*◌, ◌/◌, ◌%◌, ◌^◌, ◌<◌, List}
use Rattle.window.specs.Values.{value_at}
use Rattle.window.specs.Geometry.{begins, PixelByte}
use Rattle.source.specs.Rows.{Rows}
use Rattle.source.specs.Shapes.{AsWide}
use Rattle.source.specs.Pictures.{GivesItsOwn, UnitByte, unit_begins}
use Rattle.source.specs.Origins.{Origin, unused, host, host_bits, image, pattern, bits, sampled}

-- how far column c of a row of bits lies from the top bit of the row's first unit
abbrev pub away : Rows → ℕ → ℕ
away r c = c + (r.unit - 1 - r.start)

-- the value in column c and row r, memory being m and n the number that the host sent for the pixel or its unit: that number
-- itself; what the pixel of the window holds, that of a pattern being in column c mod width and row r mod height; or a bit of
-- the unit that was sent, or of the unit in memory, low byte first
abbrev pub value_of : Origin → ℕ → List ℕ → ℕ → ℕ → ℕ
value_of unused n m c row = 0
value_of (host _) n m c row = n
value_of (host_bits r) n m c row = n / 2 ^ (r.unit - 1 - away r c % r.unit) % 2
value_of (image a b) n m c row = value_at m (begins a b c row) b
value_of (pattern a b _) n m c row = value_at m (begins a b (c % a.width) (row % a.height)) b
value_of (bits r start) n m c row =
    value_at m (unit_begins r start row (away r c / r.unit)) (r.unit / 8) / 2 ^ (r.unit - 1 - away r c % r.unit) % 2

-- over a rectangle w pixels wide, pixel row × w + c is the one in column c and that row
abbrev pub Gives : Origin → List ℕ → ℕ → Type 0
Gives o m n = (w c row : ℕ) → AsWide o w → c < w → sampled o m n (row * w + c) ≡ value_of o n m c row

-- where the bytes begin, among all that the host sends, that hold the pixel in column c and row r of a rectangle w pixels wide
abbrev pub sent_at : Origin → ℕ → ℕ → ℕ → ℕ
sent_at unused w c row = 0
sent_at (host b) w c row = (row * w + c) * b
sent_at (host_bits r) w c row = unit_begins r 0 row (away r c / r.unit)
sent_at (image _ _) w c row = 0
sent_at (pattern _ _ _) w c row = 0
sent_at (bits _ _) w c row = 0

-- a whole pixel or unit from the host serves exactly the pixels that it holds
abbrev pub Serves : Origin → ℕ → ℕ → Type 0
Serves unused k n = n ≡ 0
Serves (host _) k n = n ≡ 1
Serves (host_bits r) k n = GivesItsOwn r k n
Serves (image _ _) k n = n ≡ 0
Serves (pattern _ _ _) k n = n ≡ 0
Serves (bits _ _) k n = n ≡ 0

-- x is a byte that a source has in memory, of bits one of a unit, for a rectangle so many rows high
abbrev pub SourceByte : Origin → ℕ → ℕ → Type 0
SourceByte unused height x = ⊥
SourceByte (host _) height x = ⊥
SourceByte (host_bits _) height x = ⊥
SourceByte (image a b) height x = PixelByte a b x
SourceByte (pattern a b _) height x = PixelByte a b x
SourceByte (bits r start) height x = UnitByte r start height x
