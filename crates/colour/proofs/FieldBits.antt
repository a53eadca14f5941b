-- Laws of the bits of a field, and of the value that fields compose.
use Rattle.std.proofs.Common.{◌≡◌, ℕ, zero, suc, ◌<◌, ◌+◌, ◌-◌, ◌*◌, ◌/◌, ◌%◌, ◌^◌, refl, ap, ◌∙◌, arith, add_comm, mod-eq_of_lt}
use Rattle.std.specs.Int.{bit_at}
use Rattle.std.proofs.lemmas.Nat.{div-mul-add, mod-mul-add, shr-shr}
use Rattle.colour.specs.declared.field.FieldWidth.{FieldWidth}
use Rattle.colour.specs.declared.field.FieldWidth.TheVariants.{Two, Three, Four, Five, Six, Eight}
use Rattle.colour.specs.Widths.{bits_of, widened, narrowed, RepeatsField, TakesTop}
use Rattle.colour.specs.declared.Colour.{Colour}
use Rattle.colour.specs.Channels.{rgb}
use Rattle.colour.specs.Packing.{unpacked, unpacked_colour, WidensFields, ShowsFields}
use Rattle.colour.proofs.Packing.{few, narrowed_lt}

-- what holds of each number below 8
eight : (P : ℕ → Type 0) → P 0 → P 1 → P 2 → P 3 → P 4 → P 5 → P 6 → P 7 → (i : ℕ) → i < 8 → P i
eight P a b c d e f g h zero k = a
eight P a b c d e f g h (suc zero) k = b
eight P a b c d e f g h (suc (suc zero)) k = c
eight P a b c d e f g h (suc (suc (suc zero))) k = d
eight P a b c d e f g h (suc (suc (suc (suc zero)))) k = e
eight P a b c d e f g h (suc (suc (suc (suc (suc zero))))) k = f
eight P a b c d e f g h (suc (suc (suc (suc (suc (suc zero)))))) k = g
eight P a b c d e f g h (suc (suc (suc (suc (suc (suc (suc zero))))))) k = h
eight P a b c d e f g h (suc (suc (suc (suc (suc (suc (suc (suc i)))))))) k = absurd (omega arith)

repeated : (w : FieldWidth) (v i : ℕ) → i < 8 → bit_at (widened (bits_of w) (v % 2 ^ bits_of w)) (7 - i) ≡ bit_at v (bits_of w - 1 - i % bits_of w)
repeated Two v = eight _ (omega arith) (omega arith) (omega arith) (omega arith) (omega arith) (omega arith) (omega arith) (omega arith)
repeated Three v = eight _ (omega arith) (omega arith) (omega arith) (omega arith) (omega arith) (omega arith) (omega arith) (omega arith)
repeated Four v = eight _ (omega arith) (omega arith) (omega arith) (omega arith) (omega arith) (omega arith) (omega arith) (omega arith)
repeated Five v = eight _ (omega arith) (omega arith) (omega arith) (omega arith) (omega arith) (omega arith) (omega arith) (omega arith)
repeated Six v = eight _ (omega arith) (omega arith) (omega arith) (omega arith) (omega arith) (omega arith) (omega arith) (omega arith)
repeated Eight v = eight _ (omega arith) (omega arith) (omega arith) (omega arith) (omega arith) (omega arith) (omega arith) (omega arith)

pub widened_repeats : (w : FieldWidth) (v channel : ℕ) → channel ≡ widened (bits_of w) (v % 2 ^ bits_of w) → RepeatsField (bits_of w) v channel
widened_repeats w v channel e = record { each = λ i h. rw e (repeated w v i h) }

topmost : (w : FieldWidth) (v i : ℕ) → i < 8 → i < bits_of w → bit_at (narrowed (bits_of w) v) (bits_of w - 1 - i) ≡ bit_at v (7 - i)
topmost Two v = eight _ (λ _. omega arith) (λ _. omega arith) (λ h. absurd (omega arith)) (λ h. absurd (omega arith)) (λ h. absurd (omega arith)) (λ h. absurd (omega arith)) (λ h. absurd (omega arith)) (λ h. absurd (omega arith))
topmost Three v = eight _ (λ _. omega arith) (λ _. omega arith) (λ _. omega arith) (λ h. absurd (omega arith)) (λ h. absurd (omega arith)) (λ h. absurd (omega arith)) (λ h. absurd (omega arith)) (λ h. absurd (omega arith))
topmost Four v = eight _ (λ _. omega arith) (λ _. omega arith) (λ _. omega arith) (λ _. omega arith) (λ h. absurd (omega arith)) (λ h. absurd (omega arith)) (λ h. absurd (omega arith)) (λ h. absurd (omega arith))
topmost Five v = eight _ (λ _. omega arith) (λ _. omega arith) (λ _. omega arith) (λ _. omega arith) (λ _. omega arith) (λ h. absurd (omega arith)) (λ h. absurd (omega arith)) (λ h. absurd (omega arith))
topmost Six v = eight _ (λ _. omega arith) (λ _. omega arith) (λ _. omega arith) (λ _. omega arith) (λ _. omega arith) (λ _. omega arith) (λ h. absurd (omega arith)) (λ h. absurd (omega arith))
topmost Eight v = eight _ (λ _. omega arith) (λ _. omega arith) (λ _. omega arith) (λ _. omega arith) (λ _. omega arith) (λ _. omega arith) (λ _. omega arith) (λ _. omega arith)

pub narrowed_top : (w : FieldWidth) (v field : ℕ) → v < 256 → field ≡ narrowed (bits_of w) v → TakesTop (bits_of w) v field
narrowed_top w v field h e = record { each = λ i l. rw e (topmost w v i (omega (arith, few w)) l); no_more = rw e (narrowed_lt w v h) }

-- three fields, taken out of the value that they compose
pub unpacked_composed : (n m l v : ℕ) (channels : ℕ × ℕ × ℕ) → channels ≡ unpacked n m l v → WidensFields n m l v channels
unpacked_composed n m l v channels s = record {
  each = λ a b c h k j e.
      let upper : v / 2 ^ l ≡ a * 2 ^ m + b = ap (λ x. x / 2 ^ l) e ∙ div-mul-add (a * 2 ^ m + b) (2 ^ l) c j in
      let high : v / 2 ^ (m + l) % 2 ^ n ≡ a = rw (add_comm m l, ← shr-shr v l m, upper, div-mul-add a (2 ^ m) b k) (mod-eq_of_lt h) in
      let middle : v / 2 ^ l % 2 ^ m ≡ b = rw upper (mod-mul-add a (2 ^ m) b k) in
      let low : v % 2 ^ l ≡ c = ap (λ x. x % 2 ^ l) e ∙ mod-mul-add (a * 2 ^ m + b) (2 ^ l) c j in
      let fields : unpacked n m l v ≡ (widened n a, widened m b, widened l c) = rw (high, middle, low) in
      s ∙ fields;
}

-- the same, as the channels of a colour
pub shown_composed : (n m l v : ℕ) (colour : Colour) → colour ≡ unpacked_colour n m l v → ShowsFields n m l v colour
shown_composed n m l v colour s = record {
  each = λ r g b h k j e. s ∙ ap (λ (t : ℕ × ℕ × ℕ). rgb t.0 t.1 t.2) ((unpacked_composed n m l v _ refl).each r g b h k j e);
}
