-- Raster rules whose sources have changed places.
use Rattle.std.proofs.Common.{◌≡◌, ℕ, zero, suc, ◌+◌, ◌*◌, ◌/◌, ◌%◌, ◌<◌, List, set, get_or, refl, ap, ◌∙◌, arith}
use Rattle.colour.proofs.Bits.{two_bits}
use Rattle.memory.specs.Spans.{merged}
use Rattle.pixel.specs.Rasters.{chosen, raster_bits}

abbrev pub mirror : ℕ → ℕ
mirror rule = rule / 8 % 2 * 8 + rule % 2 + rule / 2 % 2 * 4 + rule / 4 % 2 * 2

chosen_mirrored : (rule a b : ℕ) → a < 2 → b < 2 → chosen (mirror rule) a b ≡ chosen rule b a
chosen_mirrored rule a b h k = two_bits (λ r s. chosen (mirror rule) r s ≡ chosen rule s r) (omega arith) (omega arith) (omega arith) (omega arith) a b h k

pub mirrored_bits : (n rule x y : ℕ) → raster_bits n (mirror rule) x y ≡ raster_bits n rule y x
unfolding raster_bits
mirrored_bits zero rule x y = refl
mirrored_bits (suc n) rule x y =
    ap (λ z. z * 2 + chosen (mirror rule) (x % 2) (y % 2)) (mirrored_bits n rule (x / 2) (y / 2))
    ∙ ap (λ z. raster_bits n rule (y / 2) (x / 2) * 2 + z) (chosen_mirrored rule (x % 2) (y % 2) (omega arith) (omega arith))

pub merged_mirrored : (f g : ℕ → ℕ → ℕ) → ((x y : ℕ) → g x y ≡ f y x) → (m : List ℕ) (a b c n : ℕ) → merged g m b a c n ≡ merged f m a b c n
unfolding merged
merged_mirrored f g same m a b c zero = refl
merged_mirrored f g same m a b c (suc n) =
    let l = merged g m b a c n in
    ap (set l (c + n)) (same (get_or l (b + n) 0) (get_or l (a + n) 0))
    ∙ ap (λ t. set t (c + n) (f (get_or t (a + n) 0) (get_or t (b + n) 0))) (merged_mirrored f g same m a b c n)
