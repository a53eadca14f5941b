-- A table keeps a rule: it lists what the rule gives at each place, as antt computes over the whole table.
use Rattle.std.proofs.Common.{◌≡◌, ℕ, ◌/◌, ◌%◌, ◌<◌, List, map, get_or, ap, ◌∙◌, zero-add, arith}
use Rattle.std.proofs.lemmas.List.FromFn.{get_or-map-range_with_len}
use Rattle.std.specs.List.{range_with_len}
use Rattle.colour.specs.declared.Colour.{Colour}
use Rattle.formats.specs.Packed.{colour332}
use Rattle.formats.specs.Overlays.{field_level}

kept : {A : Type 0} (rule : ℕ → A) (rows : List A) (n k : ℕ) (d : A) → rows ≡ map rule (range_with_len 0 n) → k < n → get_or rows k d ≡ rule k
kept rule rows n k d t h = ap (λ r. get_or r k d) t ∙ get_or-map-range_with_len rule 0 n k k d h (zero-add k)

-- a 3:3:2 pixel has one byte, so only the value modulo 256 counts
lowest : (v : ℕ) → colour332 (v % 256) ≡ colour332 v
lowest v =
    let r : v % 256 / 32 % 8 ≡ v / 32 % 8 = omega arith in
    let g : v % 256 / 4 % 8 ≡ v / 4 % 8 = omega arith in
    let b : v % 256 % 4 ≡ v % 4 = omega arith in
    rw (r, g, b)

pub colour_row : (rows : List Colour) → rows ≡ map colour332 (range_with_len 0 256) → (v : ℕ) (d : Colour) → get_or rows (v % 256) d ≡ colour332 v
colour_row rows t v d = kept colour332 rows 256 (v % 256) d t (omega arith) ∙ lowest v

pub level_row : (rows : List ℕ) → rows ≡ map field_level (range_with_len 0 16) → (v d : ℕ) → get_or rows (v % 16) d ≡ field_level (v % 16)
level_row rows t v d = kept field_level rows 16 (v % 16) d t (omega arith)
