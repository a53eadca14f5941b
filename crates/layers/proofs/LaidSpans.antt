-- What waiting bytes laid over memory are to its spans.
use Rattle.std.proofs.Common.{◌≡◌, ℕ, ◌+◌, ◌-◌, ◌%◌, ◌<◌, ◌≤◌, ◌⊎◌, ⊎_elim, List, length, get_or, set, take, min, sym, ap, ◌∙◌, arith}
use Rattle.std.proofs.lemmas.List.{length-set, get_or-set_same, get_or-set_other, set_past, take_more}
use Rattle.std.proofs.lemmas.Bool.{cases_eq, cases_lt}
use Rattle.memory.specs.Spans.{span}
use Rattle.memory.proofs.Spans.{is_span, span_at, length_span}
use Rattle.layers.specs.declared.pending.Entry.{Entry}
use Rattle.layers.specs.Entries.{none}
use Rattle.layers.specs.Laid.{laid}
use Rattle.layers.proofs.Lays.{laid_push}

-- one entry more
pub laid_more : (m : List ℕ) (es : List Entry) (i : ℕ) → i < length es
    → laid m (take (i + 1) es) ≡ set (laid m (take i es)) (get_or es i none).address ((get_or es i none).value % 256)
laid_more m es i h = ap (laid m) (take_more es i none h) ∙ laid_push m (take i es) (get_or es i none)

module _ (m : List ℕ) (start n a v : ℕ) where
  -- a byte put within a span
  pub span_set : a < length m → start ≤ a → a < start + n → set (span m start n) (a - start) v ≡ span (set m a v) start n
  span_set h from in' =
      is_span (set m a v) start n (set (span m start n) (a - start) v) (length-set (span m start n) (a - start) v ∙ length_span m start n)
      (λ k less. ⊎_elim
      (λ e.
      let here : start + k ≡ a = omega arith in
      ap (λ i. get_or (set (span m start n) (a - start) v) i 0) e
      ∙ get_or-set_same (span m start n) (a - start) v 0 (omega (arith, length_span m start n))
      ∙ sym (ap (λ i. get_or (set m a v) i 0) here ∙ get_or-set_same m a v 0 h))
      (λ ne.
      get_or-set_other (span m start n) (a - start) k v 0 ne ∙ span_at m start n k less
      ∙ sym (get_or-set_other m a (start + k) v 0 (λ q. ne (omega arith))))
      (cases_eq k (a - start)))

  -- and outside it, or past the end
  pub span_out : (a < start) ⊎ (min (length m) (start + n) ≤ a) → span m start n ≡ span (set m a v) start n
  span_out h =
      ⊎_elim
      (λ within.
      is_span (set m a v) start n (span m start n) (length_span m start n)
      (λ k less. span_at m start n k less ∙ sym (get_or-set_other m a (start + k) v 0 (λ q. ⊎_elim (λ below. omega arith) (λ past. omega arith) h))))
      (λ past. ap (λ l. span l start n) (sym (set_past m a v past)))
      (cases_lt a (length m))
