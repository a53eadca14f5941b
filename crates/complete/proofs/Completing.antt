-- Parts that draw every pixel make a complete operation.
use Rattle.std.proofs.Common.{◌≡◌, ℕ, ◌+◌, ◌-◌, ◌≤◌, Bool, true, false, ◌&&◌, leb, List, [], ◌∷◌, map, length, sym, refl, ap, ◌∙◌, subst, ⊎_elim, add_assoc, arith, eqb-true, leb-true}
use Rattle.std.proofs.lemmas.Bool.{cases_lt, cond-true, cond-false}
use Rattle.std.proofs.lemmas.List.Sums.{fold-append}
use Rattle.colour.specs.declared.Palette.{Palette}
use Rattle.window.specs.Places.{pixels}
use Rattle.source.specs.Origins.{awaited}
use Rattle.engine.specs.Painted.{Op, plotted, painted}
use Rattle.engine.specs.Fed.{Stage, takes, takes_at, byte_come, byte_fed, fed, bytes_taken, Feed}
use Rattle.engine.specs.Laws.{OnlyPixels}
use Rattle.engine.proofs.Bytes.{ends}
use Rattle.engine.proofs.Orders.{cut}
use Rattle.feeding.proofs.Feeding.{fed_ended}
use Rattle.engine.proofs.Laws.{feed_only}
use Rattle.complete.specs.declared.part.Part.{Part}
use Rattle.complete.specs.Parts.{Portion, portion_of, feed, run, sent_in, by_memory, allowed, advanced, parted}
use Rattle.engine.specs.Inside.{lies_inside}
use Rattle.complete.specs.Complete.{begun, completed, Accepted, Complete, Way, way_in_parts, DrawnBy}

pub stage_eq : (m n : List ℕ) (d e : ℕ) (w x : List ℕ) → m ≡ n → d ≡ e → w ≡ x
    → ◌≡◌ {A = Stage} (record { memory = m; drawn = d; waiting = w }) (record { memory = n; drawn = e; waiting = x })
stage_eq m n d e w x p q r = cc

module _ (o : Op) (p : Palette) where
  -- what feeding changes
  pub fed_only : (s : Stage) (xs : List ℕ) → OnlyPixels o s.drawn ((fed o p s xs).drawn - s.drawn) s.memory (fed o p s xs).memory
  fed_only s xs =
      let t = fed o p s xs in
      let feeds : Feed o p s xs t (bytes_taken o p s xs) (t.drawn - s.drawn) = record { after = refl; taken_is = refl; drawn_is = refl } in
      feed_only o p feeds

  fed_most : (m xs : List ℕ) → (fed o p (begun m) xs).drawn ≤ pixels o.target
  fed_most m xs =
      let d = (fed o p (begun m) xs).drawn in
      let own = (fed_only (begun m) xs).own in
      ⊎_elim (λ h. omega arith) (λ h. omega (arith, own (d - 1) (omega arith))) (cases_lt d 1)

  -- where the host serves an operation, only its bytes count
  by_host : by_memory o ≡ false → (s : Stage) (ps : List Portion) → parted o p s ps ≡ fed o p s (sent_in ps)
  by_host e s [] = refl
  by_host e s (feed xs ∷ ps) = by_host e (fed o p s xs) ps ∙ sym (fold-append (byte_fed o p) s xs (sent_in ps))
  by_host e s (run n ∷ ps) =
      ap (λ t. parted o p t ps) (cond-false (by_memory o) (advanced o p s (allowed o s n)) s e) ∙ by_host e s ps

  takes_none : by_memory o ≡ true → (k : ℕ) → takes o k ≡ false
  takes_none e k = let z = eqb-true (awaited o.first) 0 e in rw z

  -- t has so many pixels more than s, and no more than there are
  record Further (s t : Stage) : Type 0 where
    more : ℕ
    is : t ≡ advanced o p s more
    most : s.drawn ≤ pixels o.target → s.drawn + more ≤ pixels o.target

  further_none : (s : Stage) → Further s s
  unfolding painted
  further_none s = record {
    more = 0;
    is = stage_eq s.memory s.memory s.drawn (s.drawn + 0) s.waiting s.waiting refl (omega arith) refl;
    most = λ h. omega arith;
  }

  further_more : (s : Stage) (n : ℕ) (t : Stage) → n ≤ pixels o.target - s.drawn → Further (advanced o p s n) t → Further s t
  further_more s n t few f = record {
    more = n + f.more;
    is = f.is ∙ stage_eq _ _ _ _ s.waiting s.waiting (sym (cut (plotted o p 0) s.drawn n f.more s.memory)) (add_assoc s.drawn n f.more) refl;
    most = λ h. omega (arith, f.most (omega arith));
  }

  by_allowances : by_memory o ≡ true → (s : Stage) (ps : List Portion) → Further s (parted o p s ps)
  by_allowances e s [] = further_none s
  by_allowances e s (feed xs ∷ ps) =
      subst (λ t. Further s (parted o p t ps)) (sym (fed_ended (takes_at o) (byte_come o p) s xs (takes_none e s.drawn))) (by_allowances e s ps)
  by_allowances e s (run n ∷ ps) =
      subst (λ t. Further s (parted o p t ps)) (sym (cond-true (by_memory o) (advanced o p s (allowed o s n)) s e))
      (further_more s (allowed o s n) (parted o p (advanced o p s (allowed o s n)) ps) (omega arith) (by_allowances e (advanced o p s (allowed o s n)) ps))

  -- the two ways an operation is served
  module _ (xs m : List ℕ) where
    pub completed_memory : by_memory o ≡ true → completed o p xs m ≡ record { memory = painted (plotted o p 0) 0 (pixels o.target) m; drawn = pixels o.target; waiting = [] }
    completed_memory e = cond-true (by_memory o) _ _ e

    pub completed_host : by_memory o ≡ false → completed o p xs m ≡ fed o p (begun m) xs
    completed_host e = cond-false (by_memory o) _ _ e

  pub complete_in_parts : (ps : List Portion) (m : List ℕ) → Accepted o (length m) → pixels o.target ≤ (parted o p (begun m) ps).drawn
      → Complete o p (sent_in ps) m (parted o p (begun m) ps).memory
  complete_in_parts ps m accepted all = by (by_memory o) refl
    where
      by : (b : Bool) → by_memory o ≡ b → Complete o p (sent_in ps) m (parted o p (begun m) ps).memory
      by true e =
          let f = by_allowances e (begun m) ps in
          let far = ap (λ t. t.drawn) f.is in
          let count : f.more ≡ pixels o.target = omega (arith, f.most (omega arith)) in
          let is = completed_memory (sent_in ps) m e in
          record {
            accepted = accepted;
            memory_is = ap (λ t. t.memory) f.is ∙ ap (λ n. painted (plotted o p 0) 0 n m) count ∙ sym (ap (λ t. t.memory) is);
            all_drawn = ap (λ t. t.drawn) is;
          }
      by false e =
          let f = by_host e (begun m) ps in
          let is = completed_host (sent_in ps) m e in
          let far = ap (λ t. t.drawn) f in
          record {
            accepted = accepted;
            memory_is = ap (λ t. t.memory) f ∙ sym (ap (λ t. t.memory) is);
            all_drawn = ap (λ t. t.drawn) is ∙ omega (arith, fed_most m (sent_in ps));
          }

module _ (w : Way) (m : List ℕ) where
  -- where the operation is accepted, and the parts lead to a stage
  pub drawn_accepted : w.accepts (length m) ≡ true → Accepted w.operation (length m) → (n : List ℕ) (d : ℕ) (ws : List ℕ)
      → record { memory = n; drawn = d; waiting = ws } ≡ parted w.operation w.palette (begun m) w.portions
      → (complete : Bool) → complete ≡ leb (pixels w.operation.target) d → DrawnBy w m n complete
  drawn_accepted taken accepted n d ws e complete is =
      let o = w.operation in
      let p = w.palette in
      let t = parted o p (begun m) w.portions in
      let k = pixels o.target in
      let memory : n ≡ t.memory = ap (λ s. s.memory) e in
      let drawn : d ≡ t.drawn = ap (λ s. s.drawn) e in
      record {
        leaves = memory ∙ sym (cond-true (w.accepts (length m)) t.memory m taken);
        ends = is ∙ ap (leb k) drawn ∙ sym (ap (λ b. b && leb k t.drawn) taken);
        whole = λ all.
            subst (Complete o p (sent_in w.portions) m) (sym memory)
            (complete_in_parts o p w.portions m accepted (omega (arith, leb-true k d (sym is ∙ all))));
      }

  -- where it is not
  pub drawn_declined : w.accepts (length m) ≡ false → DrawnBy w m m false
  drawn_declined not_taken = record {
    leaves = sym (cond-false (w.accepts (length m)) (parted w.operation w.palette (begun m) w.portions).memory m not_taken);
    ends = sym (ap (λ b. b && leb (pixels w.operation.target) (parted w.operation w.palette (begun m) w.portions).drawn) not_taken);
    whole = λ e. let z : ◌≡◌ {A = ℕ} 0 1 = cc in let n : ⊥ = omega arith in absurd n;
  }

module _ (o : Op) (size : ℕ) (across : 1 ≤ o.target.width) (down : 1 ≤ o.target.height) (fits : o.target.left + o.target.width ≤ o.target.image) where
  pub accepted_inside : lies_inside o size ≡ true → Accepted o size
  accepted_inside e =
      let i = ends o size e in
      record { across = across; down = down; fits = fits; first_inside = i.first; second_inside = i.second; target_inside = i.target }

-- a drawing by parts that lies inside memory
module _ (o : Op) (p : Palette) (ps : List Part) (m : List ℕ) (across : 1 ≤ o.target.width) (down : 1 ≤ o.target.height)
    (fits : o.target.left + o.target.width ≤ o.target.image) where
  pub drawn_inside : (size : ℕ) → size ≡ length m → true ≡ lies_inside o size → (n : List ℕ) (d : ℕ) (ws : List ℕ)
      → record { memory = n; drawn = d; waiting = ws } ≡ parted o p (begun m) (map portion_of ps)
      → (complete : Bool) → complete ≡ leb (pixels o.target) d → DrawnBy (way_in_parts o p ps) m n complete
  drawn_inside size size_is tested =
      let inside : lies_inside o (length m) ≡ true = sym (tested ∙ ap (lies_inside o) size_is) in
      drawn_accepted (way_in_parts o p ps) m inside (accepted_inside o (length m) across down fits inside)
