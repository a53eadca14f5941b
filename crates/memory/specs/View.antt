-- The laws of a view, and that a byte put into memory leaves it sound.
use Rattle.std.specs.Prelude.{◌≡◌, ℕ, ◌%◌, ◌<◌, ◌≤◌, List, length, ◌≢◌, slice_index, slice_set}
use Rattle.std.proofs.Common.{sym, ap, ◌∙◌, ⊎_elim, mod-eq_of_lt, zero-add, arith, lit<}
use Rattle.std.proofs.lemmas.List.{get_or_past, length-set, get_or-set_same, get_or-set_other, set_past, ext_get_or}
use Rattle.std.proofs.lemmas.List.FromFn.{length-map-range_with_len, get_or-map-range_with_len}
use Rattle.std.proofs.lemmas.Bool.{cases_lt, cases_eq}
use Rattle.memory.specs.Bytes.{Sound, view}

pub view_length : (n : ℕ) (f : ℕ → ℕ) → length (view n f) ≡ n
unfolding view
view_length n f = length-map-range_with_len (λ k. f k % 256) 0 n

pub view_mod : (n : ℕ) (f : ℕ → ℕ) (k : ℕ) → k < n → slice_index (view n f) k ≡ f k % 256
unfolding view
view_mod n f k h = get_or-map-range_with_len (λ k. f k % 256) 0 n k k 0 h (zero-add k)

pub view_at : (n : ℕ) (f : ℕ → ℕ) (k : ℕ) → k < n → f k < 256 → slice_index (view n f) k ≡ f k
view_at n f k h fits = view_mod n f k h ∙ mod-eq_of_lt fits

pub view_sound : (n : ℕ) (f : ℕ → ℕ) → n ≤ 16777216 → Sound (view n f)
view_sound n f h = record {
  short = omega (arith, view_length n f);
  bytes = λ k. ⊎_elim
      (λ in'. omega (arith, view_mod n f k in'))
      (λ past. let p : length (view n f) ≤ k = omega (arith, view_length n f) in rw (get_or_past (view n f) k 0 p) (lit< tt))
      (cases_lt k n);
}

-- f' is f but for v at a
pub view_put : (n : ℕ) (f f' : ℕ → ℕ) (a v : ℕ) → a < n → v < 256 → f' a ≡ v → ((k : ℕ) → (k ≢ a) → f' k ≡ f k) → view n f' ≡ slice_set (view n f) a v
view_put n f f' a v h fits here there =
    let long = view_length n f in
    let long' = view_length n f' in
    let same : length (view n f') ≡ length (slice_set (view n f) a v) = simp length-set (long' ∙ sym long) in
    ext_get_or 0 (view n f') (slice_set (view n f) a v) same
    (λ k in'.
    let q : k < n = omega arith in
    ⊎_elim
    (λ e. rw e (view_mod n f' a h ∙ ap (λ x. x % 256) here ∙ mod-eq_of_lt fits ∙ sym (get_or-set_same (view n f) a v 0 (omega arith))))
    (λ ne. view_mod n f' k q ∙ ap (λ x. x % 256) (there k ne) ∙ sym (get_or-set_other (view n f) a k v 0 ne ∙ view_mod n f k q))
    (cases_eq k a))

pub set_sound : (m : List ℕ) → Sound m → (a v : ℕ) → v < 256 → Sound (slice_set m a v)
set_sound m s a v h = record {
  short = omega (arith, s.short, length-set m a v);
  bytes = λ k. ⊎_elim
      (λ e. ⊎_elim
      (λ in'. omega (arith, ap (λ n. slice_index (slice_set m a v) n) e, get_or-set_same m a v 0 in'))
      (λ past. rw (set_past m a v past) (s.bytes k))
      (cases_lt a (length m)))
      (λ ne. rw (get_or-set_other m a k v 0 ne) (s.bytes k))
      (cases_eq k a);
}
