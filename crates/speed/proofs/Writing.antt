-- Register writes, one after another.
use Rattle.std.proofs.Common.{◌≡◌, ℕ, suc, ◌+◌, ◌<◌, cond, List, ◌∷◌, length, drop, get_or, is_ok, Ok, Err, Result, sym, ap, ◌∙◌, arith}
use Rattle.std.proofs.Math.Seq.{drop-cons}
use Rattle.panel.specs.State.{State, answer_of, after_of, written}
use Rattle.speed.specs.declared.settings.RegisterWrite.{RegisterWrite}
use Rattle.speed.specs.Panels.{Called, after_writes}

-- what is left from a write on
rest_from : (ws : List RegisterWrite) (i : ℕ) (d : RegisterWrite) → i < length ws → drop i ws ≡ get_or ws i d ∷ drop (i + 1) ws
rest_from ws i d h =
    let e : i + 1 ≡ suc i = omega arith in
    rw e (drop-cons ws i d h)

abbrev pub called : Result Unit ℕ → State → Called
called r s = record { answer = r; state = s }

module _ (s t : State) (w : RegisterWrite) (ws : List RegisterWrite) where
  accepted : Ok tt ≡ answer_of (written s w.register w.value) → t ≡ after_of s (written s w.register w.value) → after_writes t ws ≡ after_writes s (w ∷ ws)
  accepted = by (written s w.register w.value)
    where
      by : (x : Result State ℕ) → Ok tt ≡ answer_of x → t ≡ after_of s x
          → after_writes t ws ≡ cond (is_ok x) (after_writes (after_of s x) ws) (called (answer_of x) s)
      by (Ok u) e after = ap (λ v. after_writes v ws) after
      by (Err n) e after = cc

  declined : (k : ℕ) → Err k ≡ answer_of (written s w.register w.value) → t ≡ after_of s (written s w.register w.value)
      → called (Err k) t ≡ after_writes s (w ∷ ws)
  declined k = by (written s w.register w.value)
    where
      by : (x : Result State ℕ) → Err k ≡ answer_of x → t ≡ after_of s x
          → called (Err k) t ≡ cond (is_ok x) (after_writes (after_of s x) ws) (called (answer_of x) s)
      by (Ok u) e after = cc
      by (Err n) e after = λ i. record { answer = e i; state = after i }

module _ (s t : State) (ws : List RegisterWrite) (i : ℕ) (d : RegisterWrite) (h : i < length ws) where
  pub write_more : Ok tt ≡ answer_of (written s (get_or ws i d).register (get_or ws i d).value)
      → t ≡ after_of s (written s (get_or ws i d).register (get_or ws i d).value)
      → after_writes t (drop (i + 1) ws) ≡ after_writes s (drop i ws)
  write_more e after = accepted s t (get_or ws i d) (drop (i + 1) ws) e after ∙ ap (after_writes s) (sym (rest_from ws i d h))

  pub write_declined : (k : ℕ) → Err k ≡ answer_of (written s (get_or ws i d).register (get_or ws i d).value)
      → t ≡ after_of s (written s (get_or ws i d).register (get_or ws i d).value)
      → called (Err k) t ≡ after_writes s (drop i ws)
  write_declined k e after = declined s t (get_or ws i d) (drop (i + 1) ws) k e after ∙ ap (after_writes s) (sym (rest_from ws i d h))
