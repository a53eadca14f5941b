-- Pixel values of three fields, and the laws of a canvas format that is made of them.
use Rattle.std.proofs.Common.{◌≡◌, ℕ, ◌<◌, ◌≤◌, ◌+◌, ◌-◌, ◌*◌, ◌/◌, ◌%◌, ◌^◌, refl, ap, ◌∙◌, arith, add_comm, mul_comm, mod-eq_of_lt, add-mul, one-mul}
use Rattle.std.proofs.lemmas.Nat.{pow-add, mul-add-lt, shr-shr, mod-pow-add, shl_whole, and_shr, and_block}
use lib.Bits.{bit_and}
use Rattle.colour.specs.declared.Colour.{Colour}
use Rattle.colour.specs.declared.Palette.{Palette}
use Rattle.colour.specs.declared.field.FieldWidth.{FieldWidth}
use Rattle.colour.specs.declared.field.FieldWidth.TheVariants.{Two, Three, Four, Five, Six, Eight}
use Rattle.colour.specs.Widths.{bits_of, widened, narrowed}
use Rattle.colour.specs.Packing.{unpacked, packed}
use Rattle.colour.specs.Channels.{Channels, complement, both}
use Rattle.colour.specs.Formats.{Format, Narrows}

-- a width has at most 8 bits, so the lowest byte has the lowest field
pub few : (w : FieldWidth) → bits_of w ≤ 8
few Two = omega arith
few Three = omega arith
few Four = omega arith
few Five = omega arith
few Six = omega arith
few Eight = omega arith

lowest : (w : FieldWidth) (v : ℕ) → v % 256 % 2 ^ bits_of w ≡ v % 2 ^ bits_of w
lowest Two v = omega arith
lowest Three v = omega arith
lowest Four v = omega arith
lowest Five v = omega arith
lowest Six v = omega arith
lowest Eight v = omega arith

-- a field of w bits, widened, narrows to itself
pub narrowed_widened : (w : FieldWidth) (v : ℕ) → narrowed (bits_of w) (widened (bits_of w) (v % 2 ^ bits_of w)) ≡ v % 2 ^ bits_of w
narrowed_widened Two v = omega arith
narrowed_widened Three v = omega arith
narrowed_widened Four v = omega arith
narrowed_widened Five v = omega arith
narrowed_widened Six v = omega arith
narrowed_widened Eight v = omega arith

pub narrowed_lt : (w : FieldWidth) (x : ℕ) → x < 256 → narrowed (bits_of w) x < 2 ^ bits_of w
narrowed_lt Two x h = omega arith
narrowed_lt Three x h = omega arith
narrowed_lt Four x h = omega arith
narrowed_lt Five x h = omega arith
narrowed_lt Six x h = omega arith
narrowed_lt Eight x h = omega arith

narrowed_complement : (w : FieldWidth) (x : ℕ) → x < 256 → narrowed (bits_of w) (255 - x) ≡ 2 ^ bits_of w - 1 - narrowed (bits_of w) x
narrowed_complement Two x h = omega arith
narrowed_complement Three x h = omega arith
narrowed_complement Four x h = omega arith
narrowed_complement Five x h = omega arith
narrowed_complement Six x h = omega arith
narrowed_complement Eight x h = omega arith

-- two fields of n and m bits, a above b
pub joined_lt : (n m a b : ℕ) → a < 2 ^ n → b < 2 ^ m → a * 2 ^ m + b < 2 ^ (n + m)
joined_lt n m a b h k = omega (arith, pow-add 2 n m, mul_comm (2 ^ n) (2 ^ m), mul-add-lt a (2 ^ m) b (2 ^ n) h k)

joined_complement : (n m a b : ℕ) → a < 2 ^ n → b < 2 ^ m → (2 ^ n - 1 - a) * 2 ^ m + (2 ^ m - 1 - b) ≡ 2 ^ (n + m) - 1 - (a * 2 ^ m + b)
joined_complement n m a b h k =
    let rest = 2 ^ n - 1 - a in
    let all : 2 ^ n ≡ rest + a + 1 = omega arith in
    let each = add-mul (rest + a) 1 (2 ^ m) in
    let parts = add-mul rest a (2 ^ m) in
    omega (arith, pow-add 2 n m, ap (λ q. q * 2 ^ m) all, one-mul (2 ^ m))

-- the and of two values is made of the ands of their fields: a, b of m bits, and c of l bits, from the highest
pub and_fields : (m l a b c a' b' c' : ℕ) → b < 2 ^ m → b' < 2 ^ m → c < 2 ^ l → c' < 2 ^ l
    → bit_and ((a * 2 ^ m + b) * 2 ^ l + c) ((a' * 2 ^ m + b') * 2 ^ l + c') ≡ (bit_and a a' * 2 ^ m + bit_and b b') * 2 ^ l + bit_and c c'
and_fields m l a b c a' b' c' h h' k k' =
    and_block l (a * 2 ^ m + b) (a' * 2 ^ m + b') c c' k k' ∙ ap (λ x. x * 2 ^ l + bit_and c c') (and_block m a a' b b' h h')

-- a value is made of its fields
pub joined_fields : (n m l v : ℕ) → v < 2 ^ (n + m + l) → (v / 2 ^ (m + l) % 2 ^ n * 2 ^ m + v / 2 ^ l % 2 ^ m) * 2 ^ l + v % 2 ^ l ≡ v
joined_fields n m l v h =
    rw (
      add_comm m l,
      ← shr-shr v l m,
      ← mod-pow-add (v / 2 ^ l) n m,
      ← mod-pow-add v (n + m) l,
    )
    (mod-eq_of_lt h)

-- one of the channels of a colour
pub data Channel : Type 0 where
  Red : Channel
  Green : Channel
  Blue : Channel

abbrev pub channel : Channel → Colour → ℕ
channel Red c = c.red
channel Green c = c.green
channel Blue c = c.blue

channel_lt : (k : Channel) (c : Colour) → Channels c → channel k c < 256
channel_lt Red c h = h.red
channel_lt Green c h = h.green
channel_lt Blue c h = h.blue

channel_complement : (k : Channel) (c : Colour) → channel k (complement c) ≡ 255 - channel k c
channel_complement Red c = refl
channel_complement Green c = refl
channel_complement Blue c = refl

channel_and : (k : Channel) (c d : Colour) → channel k (both c d) ≡ bit_and (channel k c) (channel k d)
channel_and Red c d = refl
channel_and Green c d = refl
channel_and Blue c d = refl

module _ (high middle low : FieldWidth) where
  abbrev n : ℕ
  n = bits_of high

  abbrev m : ℕ
  m = bits_of middle

  abbrev l : ℕ
  l = bits_of low

  abbrev packed_of : ℕ → ℕ → ℕ → ℕ
  packed_of = packed n m l

  upper_lt : (x y : ℕ) → x < 256 → y < 256 → narrowed n x * 2 ^ m + narrowed m y < 2 ^ (n + m)
  upper_lt x y h k = joined_lt n m _ _ (narrowed_lt high x h) (narrowed_lt middle y k)

  packed_lt : (x y z : ℕ) → x < 256 → y < 256 → z < 256 → packed_of x y z < 2 ^ (n + m + l)
  packed_lt x y z h k j = joined_lt (n + m) l _ _ (upper_lt x y h k) (narrowed_lt low z j)

  packed_complement : (x y z : ℕ) → x < 256 → y < 256 → z < 256 → packed_of (255 - x) (255 - y) (255 - z) ≡ 2 ^ (n + m + l) - 1 - packed_of x y z
  packed_complement x y z h k j =
      rw (
        narrowed_complement high x h,
        narrowed_complement middle y k,
        narrowed_complement low z j,
        joined_complement n m _ _ (narrowed_lt high x h) (narrowed_lt middle y k),
      )
      (joined_complement (n + m) l _ _ (upper_lt x y h k) (narrowed_lt low z j))

  packed_and : (x y z x' y' z' : ℕ) → y < 256 → z < 256 → y' < 256 → z' < 256
      → packed_of (bit_and x x') (bit_and y y') (bit_and z z') ≡ bit_and (packed_of x y z) (packed_of x' y' z')
  packed_and x y z x' y' z' h k h' k' =
      rw (
        and_fields m l _ _ _ _ _ _ (narrowed_lt middle y h) (narrowed_lt middle y' h') (narrowed_lt low z k) (narrowed_lt low z' k'),
        and_shr x x' (8 - n),
        and_shr y y' (8 - m),
        and_shr z z' (8 - l),
      )

  packed_unpacked : (v : ℕ) → v < 2 ^ (n + m + l)
      → (let c = unpacked n m l v in packed_of c.0 c.1 c.2) ≡ v
  packed_unpacked v h = rw (narrowed_widened high, narrowed_widened middle, narrowed_widened low) (joined_fields n m l v h)

  -- the code moves the fields by shifts
  pub unpacked_by_shifts : (v : ℕ)
      → (
        widened n (v / 2 ^ l / 2 ^ m % 256 % 2 ^ n),
        widened m (v / 2 ^ l % 256 % 2 ^ m),
        widened l (v % 256 % 2 ^ l),
      )
      ≡ unpacked n m l v
  unpacked_by_shifts v =
      rw (shr-shr v l m, add_comm l m, lowest high, lowest middle, lowest low)

  pub packed_by_shifts : (x y z : ℕ) → x < 256 → y < 256
      → (narrowed n x * 2 ^ m % 2 ^ 32 + narrowed m y) * 2 ^ l % 2 ^ 32 + narrowed l z ≡ packed_of x y z
  packed_by_shifts x y z h k =
      rw (
        shl_whole _ n m 32 (narrowed_lt high x h) (omega (arith, few high, few middle)),
        shl_whole _ (n + m) l 32 (upper_lt x y h k) (omega (arith, few high, few middle, few low)),
      )

  -- a format that has these fields, in which the channels stand in the order given, keeps the laws of narrowing
  module _ (first second third : Channel) (f : Format) where
    pub narrows : 8 * f.width ≡ n + m + l
        → ((p : Palette) (v : ℕ) → let c = f.colour p v in (channel first c, channel second c, channel third c) ≡ unpacked n m l v)
        → Narrows f (λ c. packed_of (channel first c) (channel second c) (channel third c))
    narrows e colours = record {
      fits = λ c h. rw e (packed_lt _ _ _ (channel_lt first c h) (channel_lt second c h) (channel_lt third c h));
      back = λ p v h. ap (λ (t : ℕ × ℕ × ℕ). packed_of t.0 t.1 t.2) (colours p v) ∙ packed_unpacked v (rw e at h);
      complements = λ c h.
          rw (e, channel_complement first c, channel_complement second c, channel_complement third c)
          (packed_complement _ _ _ (channel_lt first c h) (channel_lt second c h) (channel_lt third c h));
      ands = λ c d h k.
          rw (channel_and first c d, channel_and second c d, channel_and third c d)
          (packed_and _ _ _ _ _ _ (channel_lt second c h) (channel_lt third c h) (channel_lt second d k) (channel_lt third d k));
    }
