-- Bits of bytes as bytes of their own, and which of them the pixels of a row take.
use Rattle.std.proofs.Common.{◌≡◌, ℕ, ◌+◌, ◌-◌, ◌*◌, ◌/◌, ◌%◌, ◌^◌, ◌<◌, ◌≤◌, List, ◌++◌, length, get_or, take, drop, sym, ap, ◌∙◌, ⊎_elim, length-append, arith}
use Rattle.std.proofs.lemmas.Bool.{cases_lt}
use Rattle.std.proofs.lemmas.Nat.{mod_below}
use Rattle.std.proofs.lemmas.List.{take_rest, get_or-drop, get_or_append_left, get_or-append_right}
use Rattle.memory.specs.Spans.{span}
use Rattle.memory.proofs.Spans.{span_at}
use Rattle.window.specs.Values.{value_at}
use Rattle.source.specs.declared.rows.Unit.{Unit}
use Rattle.source.specs.declared.rows.Unit.TheVariants.{Eight, Sixteen}
use Rattle.source.specs.declared.rows.BitRows.{BitRows}
use Rattle.source.specs.Units.{unit_bits}
use Rattle.source.specs.Rows.{rows_of, depth_in_row, bit_of, unit_address, units_bytes, bit_address}
use Rattle.source.specs.Strips.{SpreadBits, turned}
use Rattle.source.proofs.Reaches.{unit_some}
use Rattle.source.proofs.RowPixels.{bit_more, bit_place}

-- bits, and those that follow them
pub bits_join : (bytes x y : List ℕ) (d n : ℕ) → length x ≡ n → SpreadBits bytes d x → SpreadBits bytes (d + n) y → SpreadBits bytes d (x ++ y)
bits_join bytes x y d n long f g i h =
    ⊎_elim
    (λ (l : i < n). get_or_append_left x y 0 i (omega arith) ∙ f i (omega arith))
    (λ (l : n ≤ i).
    let e : d + n + (i - n) ≡ d + i = omega arith in
    get_or-append_right x y n i 0 long l
    ∙ g (i - n) (omega (arith, length-append x y))
    ∙ ap (λ j. get_or bytes (j / 8) 0 / 2 ^ (7 - j % 8) % 2) e)
    (cases_lt i n)

-- bits from the start of byte q on
pub bits_from : (bytes x : List ℕ) (d q : ℕ) → (0 < length x → 8 * q ≡ d) → SpreadBits (take (length bytes - q) (drop q bytes)) 0 x → SpreadBits bytes d x
bits_from bytes x d q aligned f i h =
    let e : 8 * q ≡ d = aligned (omega arith) in
    let place : q + (0 + i) / 8 ≡ (d + i) / 8 = omega arith in
    let bit : (0 + i) % 8 ≡ (d + i) % 8 = omega arith in
    f i h
    ∙ ap (λ xs. get_or xs ((0 + i) / 8) 0 / 2 ^ (7 - (0 + i) % 8) % 2) (take_rest bytes q)
    ∙ ap (λ b. b / 2 ^ (7 - (0 + i) % 8) % 2) (get_or-drop q bytes ((0 + i) / 8) 0)
    ∙ ap (λ j. get_or bytes j 0 / 2 ^ (7 - (0 + i) % 8) % 2) place
    ∙ ap (λ j. get_or bytes ((d + i) / 8) 0 / 2 ^ (7 - j) % 2) bit

-- bit d of units that are turned round
turned_place : (u : Unit) (d : ℕ) → d / unit_bits u * (unit_bits u / 8) + (unit_bits u - 1 - d % unit_bits u) / 8 ≡ turned (unit_bits u) (d / 8)
turned_place Eight d = omega arith
turned_place Sixteen d = omega arith

turned_bit : (u : Unit) (d : ℕ) → (unit_bits u - 1 - d % unit_bits u) % 8 ≡ 7 - d % 8
turned_bit Eight d = omega arith
turned_bit Sixteen d = omega arith

pub depth_low : (u : Unit) (d : ℕ) → d % unit_bits u < 16
depth_low Eight d = omega arith
depth_low Sixteen d = omega arith

-- the units of 1,024 bits have 128 bytes
pub units_few : (u : Unit) (n : ℕ) → n ≤ 1024 → (n + (unit_bits u - 1)) / unit_bits u * (unit_bits u / 8) ≤ 128
units_few Eight n h = omega arith
units_few Sixteen n h = omega arith

-- it lies in the units of the first n pixels, the first of them d bits into its unit
module _ (u : Unit) (d i n : ℕ) (few : i < n) where
  byte_within : (d + i) / 8 < (d + n + (unit_bits u - 1)) / unit_bits u * (unit_bits u / 8)
  byte_within = elim u as (λ u. (d + i) / 8 < (d + n + (unit_bits u - 1)) / unit_bits u * (unit_bits u / 8)) [ Eight ↦ omega arith | Sixteen ↦ omega arith ]

  turned_within : turned (unit_bits u) ((d + i) / 8) < (d + n + (unit_bits u - 1)) / unit_bits u * (unit_bits u / 8)
  turned_within = elim u as (λ u. turned (unit_bits u) ((d + i) / 8) < (d + n + (unit_bits u - 1)) / unit_bits u * (unit_bits u / 8)) [ Eight ↦ omega arith | Sixteen ↦ omega arith ]

byte_at : (m : List ℕ) (a : ℕ) → value_at m a 1 ≡ get_or m a 0
unfolding value_at
byte_at m a = omega arith

-- the bits of the pixels of a row, from the bytes of its units turned round
pub bit_taken : (m x y z : List ℕ) (q : BitRows) (start k n i : ℕ) → n ≤ q.columns - k % q.columns → i < n
    → x ≡ span m (unit_address (rows_of q) start k) (units_bytes (rows_of q) k n)
    → ((j : ℕ) → j < units_bytes (rows_of q) k n → get_or y j 0 ≡ get_or x (turned (unit_bits q.unit) j) 0)
    → get_or z i 0 ≡ get_or y ((depth_in_row (rows_of q) k % unit_bits q.unit + i) / 8) 0 / 2 ^ (7 - (depth_in_row (rows_of q) k % unit_bits q.unit + i) % 8) % 2
    → get_or z i 0 ≡ value_at m (bit_address (rows_of q) start (k + i)) 1 / 2 ^ (bit_of (rows_of q) (k + i) % 8) % 2
bit_taken m x y z q start k n i in_row few loaded turns spreads =
    let r = rows_of q in
    let u = q.unit in
    let d = depth_in_row r k % unit_bits u in
    let column = mod_below k q.columns q.some in
    let within : k % q.columns + i < q.columns = omega arith in
    let a = unit_address r start k in
    let place : bit_address r start (k + i) ≡ a + turned (unit_bits u) ((d + i) / 8) = bit_place r k i within (unit_some u) start ∙ ap (λ j. a + j) (turned_place u (d + i)) in
    let bit : bit_of r (k + i) % 8 ≡ 7 - (d + i) % 8 = ap (λ j. j % 8) (bit_more r k i within) ∙ turned_bit u (d + i) in
    let byte : get_or y ((d + i) / 8) 0 ≡ value_at m (bit_address r start (k + i)) 1 =
    turns ((d + i) / 8) (byte_within u d i n few)
    ∙ ap (λ xs. get_or xs (turned (unit_bits u) ((d + i) / 8)) 0) loaded
    ∙ span_at m a (units_bytes r k n) (turned (unit_bits u) ((d + i) / 8)) (turned_within u d i n few)
    ∙ ap (λ j. get_or m j 0) (sym place)
    ∙ sym (byte_at m (bit_address r start (k + i))) in
    spreads ∙ ap (λ b. b / 2 ^ (7 - (d + i) % 8) % 2) byte ∙ ap (λ j. value_at m (bit_address r start (k + i)) 1 / 2 ^ j % 2) (sym bit)
