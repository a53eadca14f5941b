-- Calls that are made one after another, and their answers kept.
use Rattle.std.proofs.Common.{◌≡◌, ℕ, suc, ◌+◌, ◌<◌, List, [], ◌∷◌, ◌++◌, sym, ap, ◌∙◌, append_assoc, length, map, drop, get_or, arith}
use Rattle.std.proofs.Math.Seq.{drop-cons}
use Rattle.std.proofs.lemmas.List.Sums.{fold-append}
use Rattle.panel_calls.specs.Calls.{Call}
use Rattle.panel_calls.specs.Replies.{Reply}
use Rattle.panel.specs.State.{State}
use Rattle.panel.specs.Calls.{answered, left_by, ends}
use Rattle.panel.proofs.Scans.{scan_more}
use Rattle.replay.specs.Lists.{answers, Replayed}

-- of the calls cs, all but `left` were made and their answers kept
pub record DoneSoFar (s : State) (cs : List Call) (before : List Reply) (t : State) (after : List Reply) (left : List Call) : Type 0 where
  pub done : List Call
  pub all : cs ≡ done ++ left
  pub so_far : Replayed s done before t after

ends_more : (s : State) (cs : List Call) (c : Call) → ends s (cs ++ c ∷ []) ≡ left_by (ends s cs) c
ends_more s cs c = fold-append left_by s cs (c ∷ [])

-- what is left from an element on
pub rest_from : {A B : Type 0} (f : A → B) (xs : List A) (i : ℕ) (d : A) → i < length xs → map f (drop i xs) ≡ f (get_or xs i d) ∷ map f (drop (i + 1) xs)
rest_from f xs i d h =
    let e : i + 1 ≡ suc i = omega arith in
    rw e (ap (map f) (drop-cons xs i d h))

module _ {s : State} {cs : List Call} {before : List Reply} {t : State} {after : List Reply} where
  pub made : (c : Call) (left : List Call) → DoneSoFar s cs before t after (c ∷ left) → DoneSoFar s cs before (left_by t c) (after ++ answered t c ∷ []) left
  made c left u = record {
    done = u.done ++ c ∷ [];
    all = u.all ∙ sym (append_assoc u.done (c ∷ []) left);
    so_far = record {
      answers_are = cc (u.so_far.answers_are, u.so_far.panel_is, append_assoc before (answers s u.done) (answered (ends s u.done) c ∷ []), scan_more left_by answered s u.done c);
      panel_is = ap (λ p. left_by p c) u.so_far.panel_is ∙ sym (ends_more s u.done c);
    };
  }
