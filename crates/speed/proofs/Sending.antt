-- Bytes that are sent in bursts.
use Rattle.std.proofs.Common.{◌≡◌, ℕ, ◌+◌, ◌<◌, min, List, [], ◌∷◌, ◌++◌, length, sym, ap, ◌∙◌, add-zero, append-nil, arith}
use Rattle.std.proofs.lemmas.List.{nil_from_length}
use Rattle.panel.specs.State.{State, burst_after}
use Rattle.replay.proofs.Bursts.{bursts_join}
use Rattle.speed.specs.Panels.{sent_after, burst_pixels, sent_pixels}

abbrev one_sent : State → List ℕ → State
one_sent s xs = burst_after s s.doing xs

-- a burst of some bytes, and then the rest
after_more : (s : State) (xs ys : List ℕ) → 0 < length xs → sent_after (one_sent s xs) ys ≡ sent_after s (xs ++ ys)
after_more s [] ys some = grind arith
after_more s (x ∷ xs) [] some = ap (sent_after s) (sym (append-nil (x ∷ xs)))
after_more s (x ∷ xs) (y ∷ ys) some = (bursts_join s (x ∷ xs) (y ∷ ys)).after

pixels_more : (s : State) (xs ys : List ℕ) → 0 < length xs → sent_pixels s (xs ++ ys) ≡ burst_pixels s xs + sent_pixels (one_sent s xs) ys
pixels_more s [] ys some = grind arith
pixels_more s (x ∷ xs) [] some = ap (sent_pixels s) (append-nil (x ∷ xs)) ∙ sym (add-zero (burst_pixels s (x ∷ xs)))
pixels_more s (x ∷ xs) (y ∷ ys) some = ap (λ c. c.1) (bursts_join s (x ∷ xs) (y ∷ ys)).counted

-- on the way from a panel s, by bytes xs: the bytes ys are still to come for the panel t, and so many pixels are counted
pub record Sending (s : State) (xs : List ℕ) (t : State) (ys : List ℕ) (count : ℕ) : Type 0 where
  pub after : sent_after t ys ≡ sent_after s xs
  pub pixels : min (count + sent_pixels t ys) 4294967295 ≡ min (sent_pixels s xs) 4294967295
  pub fits : count < 4294967296

pub sending_starts : (s : State) (xs ys : List ℕ) → ys ≡ xs → Sending s xs s ys 0
sending_starts s xs ys all = record { after = ap (sent_after s) all; pixels = omega (arith, ap (sent_pixels s) all); fits = omega arith }

counted_more : (a b c d : ℕ) → d ≡ min (a + b) 4294967295 → min (d + c) 4294967295 ≡ min (a + (b + c)) 4294967295
counted_more a b c d e = omega arith

module _ {s : State} {xs : List ℕ} {t : State} {ys : List ℕ} {count : ℕ} (g : Sending s xs t ys count) where
  pub sending_more : (bytes rest : List ℕ) (u : State) (k more : ℕ) → ys ≡ bytes ++ rest → 0 < length bytes → u ≡ one_sent t bytes
      → k ≡ burst_pixels t bytes → more ≡ min (count + k) 4294967295 → Sending s xs u rest more
  sending_more bytes rest u k more parts some after pixels sum = record {
    after = ap (λ v. sent_after v rest) after ∙ after_more t bytes rest some ∙ ap (sent_after t) (sym parts) ∙ g.after;
    pixels =
        ap (λ v. min (more + sent_pixels v rest) 4294967295) after
        ∙ counted_more count (burst_pixels t bytes) (sent_pixels (one_sent t bytes) rest) more (sum ∙ ap (λ j. min (count + j) 4294967295) pixels)
        ∙ ap (λ j. min (count + j) 4294967295) (sym (ap (sent_pixels t) parts ∙ pixels_more t bytes rest some)) ∙ g.pixels;
    fits = omega (arith, sum);
  }

  pub after_ends : length ys ≡ 0 → t ≡ sent_after s xs
  after_ends e = let none = nil_from_length ys e in rw none at g.after

  pub pixels_end : length ys ≡ 0 → count ≡ min (sent_pixels s xs) 4294967295
  pixels_end e =
      let none = nil_from_length ys e in
      let all : min (count + 0) 4294967295 ≡ min (sent_pixels s xs) 4294967295 = rw none at g.pixels in
      omega (arith, g.fits, all)
