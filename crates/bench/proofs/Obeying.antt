-- Lines that are obeyed and answered one after another.
use Rattle.std.proofs.Common.{◌≡◌, ℕ, List, [], ◌∷◌, ◌++◌, map, Result, Ok, Err, OnErr, sym, ap, ◌∙◌, append_assoc, append-nil}
use Rattle.std.proofs.lemmas.Grind.{flat_map-append}
use Rattle.std.specs.List.{fold, flat_map, scan}
use Rattle.std.proofs.lemmas.List.{map-append}
use Rattle.std.proofs.lemmas.List.Sums.{fold-append}
use Rattle.panel.specs.State.{State}
use Rattle.panel.proofs.Scans.{scan_more}
use Rattle.bench_lines.specs.Answers.{reply_line}
use Rattle.bench_lines.specs.Commands.{command_of}
use Rattle.bench.specs.Replies.{line_reply, line_after}
use Rattle.bench.specs.Scripts.{transcript, end_of, Replayed, GaveUp}

-- of the lines ls, all but `left` were obeyed and answered
pub record DoneSoFar (s : State) (ls : List (List ℕ)) (before : List ℕ) (t : State) (written : List ℕ) (left : List (List ℕ)) : Type 0 where
  pub done : List (List ℕ)
  pub all : ls ≡ done ++ left
  pub so_far : Replayed s done before t written

end_more : (s : State) (ls : List (List ℕ)) (l : List ℕ) → end_of s (ls ++ l ∷ []) ≡ line_after (end_of s ls) (command_of l)
end_more s ls l = ap (fold line_after s) (map-append command_of ls (l ∷ [])) ∙ fold-append line_after s (map command_of ls) (command_of l ∷ [])

transcript_more : (s : State) (ls : List (List ℕ)) (l : List ℕ)
    → transcript s (ls ++ l ∷ []) ≡ transcript s ls ++ reply_line (line_reply (end_of s ls) (command_of l))
transcript_more s ls l =
    let cs = map command_of ls in
    let c = command_of l in
    ap (λ xs. flat_map reply_line (scan line_after line_reply s xs)) (map-append command_of ls (l ∷ []))
    ∙ ap (flat_map reply_line) (scan_more line_after line_reply s cs c)
    ∙ flat_map-append reply_line (scan line_after line_reply s cs) (line_reply (end_of s ls) c ∷ [])
    ∙ ap (λ w. transcript s ls ++ w) (append-nil (reply_line (line_reply (end_of s ls) c)))

-- what holds in any case holds of an error
pub on_err : {T E P : Type 0} (r : Result T E) → P → OnErr r P
on_err (Ok _) p = tt
on_err (Err _) p = p

module _ {s : State} {ls : List (List ℕ)} {before : List ℕ} {t : State} {written : List ℕ} where
  pub obeyed : (l : List ℕ) (left : List (List ℕ)) → DoneSoFar s ls before t written (l ∷ left)
      → DoneSoFar s ls before (line_after t (command_of l)) (written ++ reply_line (line_reply t (command_of l))) left
  obeyed l left u =
      let answer = reply_line (line_reply (end_of s u.done) (command_of l)) in
      record {
        done = u.done ++ l ∷ [];
        all = u.all ∙ sym (append_assoc u.done (l ∷ []) left);
        so_far = record {
          answers =
              cc (u.so_far.answers, u.so_far.panel, append_assoc before (transcript s u.done) answer, transcript_more s u.done l);
          panel = ap (λ p. line_after p (command_of l)) u.so_far.panel ∙ sym (end_more s u.done l);
        };
      }

  pub stopped : (l : List ℕ) (left : List (List ℕ)) → DoneSoFar s ls before t written (l ∷ left) → GaveUp s ls before (line_after t (command_of l)) written
  stopped l left u = record {
    first = u.done;
    last = l;
    rest = left;
    all = u.all;
    answers = u.so_far.answers;
    panel = ap (λ p. line_after p (command_of l)) u.so_far.panel ∙ sym (end_more s u.done l);
  }
