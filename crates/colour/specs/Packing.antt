-- Pixel values of three fields side by side, of n, m and l bits from the highest.
use Rattle.std.specs.Prelude.{◌≡◌, ℕ, ◌+◌, ◌*◌, ◌/◌, ◌%◌, ◌^◌, ◌<◌}
use Rattle.colour.specs.declared.Colour.{Colour}
use Rattle.colour.specs.Widths.{widened, narrowed}
use Rattle.colour.specs.Channels.{rgb}

-- the channels that the fields of a value widen to
abbrev pub unpacked : ℕ → ℕ → ℕ → ℕ → ℕ × ℕ × ℕ
unpacked n m l v = (widened n (v / 2 ^ (m + l) % 2 ^ n), widened m (v / 2 ^ l % 2 ^ m), widened l (v % 2 ^ l))

-- the colour whose red, green and blue stand in the fields of a value, from the highest
abbrev pub unpacked_colour : ℕ → ℕ → ℕ → ℕ → Colour
unpacked_colour n m l v = let c = unpacked n m l v in rgb c.0 c.1 c.2

-- the value whose fields are what three channels narrow to
abbrev pub packed : ℕ → ℕ → ℕ → ℕ → ℕ → ℕ → ℕ
packed n m l x y z = (narrowed n x * 2 ^ m + narrowed m y) * 2 ^ l + narrowed l z

-- the value that has one field above another of m bits, and that above a third of l bits
abbrev pub composed : ℕ → ℕ → ℕ → ℕ → ℕ → ℕ
composed m l high middle low = (high * 2 ^ m + middle) * 2 ^ l + low

-- whichever three fields a value is composed of, these are the channels that they widen to
pub record WidensFields (n m l value : ℕ) (channels : ℕ × ℕ × ℕ) : Type 0 where
  pub each : (a b c : ℕ) → a < 2 ^ n → b < 2 ^ m → c < 2 ^ l → value ≡ composed m l a b c
      → channels ≡ (widened n a, widened m b, widened l c)

-- the same where the channels are the red, green and blue of a colour, red the highest
pub record ShowsFields (n m l value : ℕ) (colour : Colour) : Type 0 where
  pub each : (r g b : ℕ) → r < 2 ^ n → g < 2 ^ m → b < 2 ^ l → value ≡ composed m l r g b
      → colour ≡ rgb (widened n r) (widened m g) (widened l b)

-- a value is composed of the fields that the channels of a colour narrow to, red the highest
pub record HoldsFields (n m l : ℕ) (colour : Colour) (value : ℕ) : Type 0 where
  pub is : value
      ≡ composed m l (narrowed n colour.red) (narrowed m colour.green) (narrowed l colour.blue)
