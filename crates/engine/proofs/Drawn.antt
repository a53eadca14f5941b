-- What a drawing that lies inside memory keeps of its pixels and its history, by each call.
use Rattle.std.proofs.Common.{◌≡◌, ℕ, ◌-◌, ◌≤◌, true, false, List, length, sym, ap, ◌∙◌, subst, arith}
use Rattle.memory.specs.Bytes.{Sound}
use Rattle.colour.specs.declared.Colour.{Colour}
use Rattle.colour.specs.declared.Palette.{Palette}
use Rattle.colour.specs.Formats.{Format}
use Rattle.rules.specs.Yields.{Yields}
use Rattle.window.specs.Places.{pixels, reach}
use Rattle.window.proofs.Limits.{limits_of}
use Rattle.source.proofs.Meanings.{proper}
use Rattle.engine.specs.declared.drawing.Drawing.{Drawing}
use Rattle.engine.specs.Painted.{Op, op_of, plotted, painted}
use Rattle.engine.specs.Fed.{Stage, fed, takes_at, byte_come, Feed}
use Rattle.window.specs.Geometry.{BytePast}
use Rattle.std.proofs.lemmas.Bool.Decides.{when_true, when_false}
use Rattle.engine.specs.Inside.{lies_inside, OpByte, Covered, Inside}
use Rattle.engine.proofs.Bytes.{drawing_exactly}
use Rattle.engine.specs.Calls.{allowed}
use Rattle.engine.specs.Accepted.{DrewInside, FedInside}
use Rattle.feeding.proofs.Feeding.{in_parts}
use Rattle.engine.specs.Laws.{FeedsInParts, WholesHold}
use Rattle.engine.specs.Totals.{TakesInAll}
use Rattle.engine.proofs.Laws.{painted_holds, painted_only, feed_only, fed_grew}
use Rattle.engine.proofs.Wholes.{wholes_hold}
use Rattle.engine.proofs.Totals.{takes_in_all}
use Rattle.engine.proofs.Histories.{Lies, drawing_lies, drawing_reach, runs_on, goes_on, takes_rest}

module _ {R D : Type 0} (yields : R → Yields) (format : D → Format) (narrow : D → Colour → ℕ) (d : Drawing R D) (p : Palette) where
  abbrev pub o : Op
  o = op_of yields format narrow d

  pub parts : FeedsInParts o p
  parts = in_parts (takes_at o) (byte_come o p)

  pub wholes : WholesHold o p
  wholes = let l = limits_of d.target in wholes_hold o p l.width_some l.inside l.height_some

  pub in_all : TakesInAll o p
  in_all = takes_in_all o p (proper d.first)

  -- the test in the words of its law
  pub is_inside : (size : ℕ) → lies_inside o size ≡ true → Inside o size
  is_inside size e = when_true (Inside o size) (Covered o → BytePast (OpByte o) size) e (drawing_exactly yields format narrow d size)

  pub not_inside : (size : ℕ) → lies_inside o size ≡ false → Inside o size → ⊥
  not_inside size e i =
      let p = when_false (Inside o size) (Covered o → BytePast (OpByte o) size) e (drawing_exactly yields format narrow d size) i.covered in
      omega (arith, i.below p.address p.meant, p.past)

  pub never_inside : (m : List ℕ) (size : ℕ) → size ≡ length m → false ≡ lies_inside o size → Inside o (length m) → ⊥
  never_inside m size e t = not_inside (length m) (ap (lies_inside o) (sym e) ∙ sym t)

  module _ (m : List ℕ) (sound : Sound m) (size : ℕ) (size_is : size ≡ length m) (tested : true ≡ lies_inside o size) where
    lies : Lies o
    lies = drawing_lies yields format narrow d size (sym tested)

    fits : reach o.target o.format.width ≤ length m
    fits = omega (arith, size_is, drawing_reach yields format narrow d size (sym tested))

    here : lies_inside o (length m) ≡ true
    here = ap (lies_inside o) (sym size_is) ∙ sym tested

    pub drew_so : (sent first n count : ℕ) (after : List ℕ) → count ≡ allowed o first n → after ≡ painted (plotted o p sent) first count m
        → DrewInside o p sent first n count m after
    drew_so sent first n count after count_is is =
        let l = limits_of d.target in
        let few : count ≤ pixels o.target - first = omega (arith, count_is) in
        record {
          answer = rw (here, ← count_is);
          after = rw (here, ← count_is) is;
          accepts = (is_inside (length m) here, count_is);
          drew = rw is (painted_holds o p sent l.width_some l.inside l.height_some first count m few fits, painted_only o p sent first count m few);
          history = λ z start come waiting r. rw is (runs_on o p lies start z come waiting sent first count m sound fits few r);
        }

    pub fed_so : (s t : Stage) → s.memory ≡ m → (xs : List ℕ) (taken drawn : ℕ) → Feed o p s xs t taken drawn → FedInside o p s xs (taken, drawn) t
    fed_so s t at xs taken drawn f =
        let inside : lies_inside o (length s.memory) ≡ true = ap (λ x. lies_inside o (length x)) at ∙ here in
        let drawn_is : drawn ≡ (fed o p s xs).drawn - s.drawn = f.drawn_is ∙ ap (λ x. x.drawn - s.drawn) f.after in
        record {
          answer = rw (inside, f.taken_is, drawn_is);
          after = rw inside f.after;
          counts = (is_inside (length s.memory) inside, let g = fed_grew o p s xs in omega (arith, ap (λ x. x.drawn) f.after, g.drawn_is, drawn_is));
          only = feed_only o p f;
          rest = λ u. rw (f.after, f.taken_is) (takes_rest o p lies m xs s u);
          history = λ start sent r.
              rw (f.after, f.taken_is)
              (goes_on o p lies start xs sent s (subst Sound (sym at) sound) (subst (λ x. reach o.target o.format.width ≤ length x) (sym at) fits) r);
        }
