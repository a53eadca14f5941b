-- What the two boards show.
use Rattle.std.specs.Prelude.{◌≡◌, ℕ, ◌+◌, ◌*◌, ◌/◌, ◌%◌, min, cond, List, map, length, ◌==◌, slice_index, slice_index_or, refl}
use Rattle.std.proofs.Common.{ap, sym, ◌∙◌, arith, lit<}
use Rattle.std.proofs.Math.ListN.{get_or-map}
use Rattle.std.proofs.Math.Nat.{one-mul, div-one}
use Rattle.std.proofs.Math.Path.{fun_ext}
use Rattle.std.proofs.lemmas.Bool.Decides.{nat_tests}
use Rattle.memory.specs.Bytes.{Sound, view}
use Rattle.memory.specs.Cells.{CellLaws, of_cells, cells_sound}

-- a cell of one byte is that byte
abbrev pub whole : ℕ → ℕ → ℕ
whole b _ = b

abbrev pub with_whole : ℕ → ℕ → ℕ → ℕ
with_whole _ _ v = v

pub whole_laws : CellLaws 1 whole with_whole
whole_laws = record {
  some = lit< tt;
  fills = refl;
  here = λ b a v fits. refl;
  there = λ b a v k fits e ne. grind (arith, nat_tests);
}

-- the byte of a word at an address: an even address is the low half
abbrev pub half : ℕ → ℕ → ℕ
half w a = cond (a % 2 == 0) (w % 256) (w / 256)

-- the word with that byte replaced
abbrev pub with_half : ℕ → ℕ → ℕ → ℕ
with_half w a v = cond (a % 2 == 0) (w / 256 * 256 + v) (v * 256 + w % 256)

pub half_laws : CellLaws 2 half with_half
half_laws = record {
  some = lit< tt;
  fills = refl;
  here = λ w a v fits. grind (arith, nat_tests);
  there = λ w a v k fits e ne. grind (arith, nat_tests);
}

-- what a block of bytes shows
abbrev pub of_bytes : List ℕ → List ℕ
of_bytes bs = of_cells 1 whole bs

-- what a block of words shows
abbrev pub of_words : List ℕ → List ℕ
of_words ws = of_cells 2 half ws

-- what they show is short enough, and each byte of it is below 256
pub bytes_sound : (bs : List ℕ) → Sound (of_bytes bs)
bytes_sound bs = cells_sound 1 whole bs

pub words_sound : (ws : List ℕ) → Sound (of_words ws)
words_sound ws = cells_sound 2 half ws

-- the byte at an address is the element of the block at that place
pub bytes_plain : (bs : List ℕ) → of_bytes bs ≡ view (min 16777216 (length bs)) (λ k. slice_index bs k)
bytes_plain bs =
    rw one-mul
    (ap (view (min 16777216 (length bs))) (fun_ext (λ k. get_or-map (λ b. whole b k) bs (k / 1) 0 ∙ ap (slice_index bs) (div-one k))))

-- the byte at an address is a half of the word at half that place
pub words_plain : (ws : List ℕ) → of_words ws ≡ view (min 16777216 (2 * length ws)) (λ k. half (slice_index ws (k / 2)) k)
words_plain ws =
    ap (view (min 16777216 (2 * length ws)))
    (fun_ext (λ k.
    let none : half 0 k ≡ 0 = grind (arith, nat_tests) in
    let past : slice_index (map (λ w. half w k) ws) (k / 2) ≡ slice_index_or (map (λ w. half w k) ws) (k / 2) (half 0 k) =
    ap (slice_index_or (map (λ w. half w k) ws) (k / 2)) (sym none) in
    past ∙ get_or-map (λ w. half w k) ws (k / 2) 0))
