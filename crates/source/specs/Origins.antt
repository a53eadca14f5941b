-- Where an operation takes the values of its pixels from.
use Rattle.std.specs.Prelude.{◌≡◌, ℕ, ◌/◌, ◌%◌, ◌^◌, List}
use Rattle.window.specs.declared.area.Area.{Area}
use Rattle.window.specs.Places.{area_of, place, cell}
use Rattle.window.specs.Values.{value_at}
use Rattle.source.specs.declared.source.Source.{Source}
use Rattle.source.specs.declared.source.Source.TheVariants.{Unused, Host, HostBits, Image, Pattern, Bits}
use Rattle.source.specs.Rows.{Rows, rows_of, bit_of, bit_address, unit_pixels}

-- b bytes a pixel from the host; bits from the host; the pixels of a window; a window repeated over so many columns;
-- bits in memory
pub data Origin : Type 0 where
  unused : Origin
  host : ℕ → Origin
  host_bits : Rows → Origin
  image : Area → ℕ → Origin
  pattern : Area → ℕ → ℕ → Origin
  bits : Rows → ℕ → Origin

abbrev pub origin_of : Source → Origin
origin_of Unused = unused
origin_of (Host s) = host s.bytes
origin_of (HostBits r) = host_bits (rows_of r)
origin_of (Image w s) = image (area_of w) s.bytes
origin_of (Pattern w s c) = pattern (area_of w) s.bytes c
origin_of (Bits r a) = bits (rows_of r) a

-- where the bytes begin that pixel k takes from memory
abbrev pub taken_from : Origin → ℕ → ℕ
taken_from unused k = 0
taken_from (host _) k = 0
taken_from (host_bits _) k = 0
taken_from (image a b) k = place a b k
taken_from (pattern a b columns) k = place a b (cell a columns k)
taken_from (bits r start) k = bit_address r start k

-- how many bytes a pixel takes from memory: of a bit, the one that holds it
abbrev pub taken : Origin → ℕ
taken unused = 0
taken (host _) = 0
taken (host_bits _) = 0
taken (image a b) = b
taken (pattern a b _) = b
taken (bits _ _) = 1

-- the value of pixel k, from what the host sent and what the bytes in memory hold
abbrev pub decoded : Origin → ℕ → ℕ → ℕ → ℕ
decoded unused sent k x = 0
decoded (host _) sent k x = sent
decoded (host_bits r) sent k x = sent / 2 ^ bit_of r k % 2
decoded (image _ _) sent k x = x
decoded (pattern _ _ _) sent k x = x
decoded (bits r _) sent k x = x / 2 ^ (bit_of r k % 8) % 2

abbrev pub sampled : Origin → List ℕ → ℕ → ℕ → ℕ
sampled o m sent k = decoded o sent k (value_at m (taken_from o k) (taken o))

-- the bytes that the host sends together: for a pixel, or for a unit; 0 where it sends none
abbrev pub awaited : Origin → ℕ
awaited unused = 0
awaited (host b) = b
awaited (host_bits r) = r.unit / 8
awaited (image _ _) = 0
awaited (pattern _ _ _) = 0
awaited (bits _ _) = 0

-- how many pixels are drawn by what was sent, the first of them being k
abbrev pub served : Origin → ℕ → ℕ
served unused k = 0
served (host _) k = 1
served (host_bits r) k = unit_pixels r k
served (image _ _) k = 0
served (pattern _ _ _) k = 0
served (bits _ _) k = 0

-- a source has the origin of its own sort, with its own numbers
abbrev pub OriginIs : Source → Origin → Type 0
OriginIs Unused unused = Unit {0}
OriginIs (Host s) (host b) = b ≡ s.bytes
OriginIs (HostBits r) (host_bits q) = q ≡ rows_of r
OriginIs (Image w s) (image a b) = (a ≡ area_of w) × (b ≡ s.bytes)
OriginIs (Pattern w s c) (pattern a b columns) = (a ≡ area_of w) × (b ≡ s.bytes) × (columns ≡ c)
OriginIs (Bits r a) (bits q start) = (q ≡ rows_of r) × (start ≡ a)
OriginIs _ _ = ⊥
