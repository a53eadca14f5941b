use Rattle.std.proofs.Common.{◌≡◌, ℕ, ◌<◌, ◌≢◌, List, length, Option, Some, None, MatchOption, sym, ◌∙◌, subst, rules, tests, arith}
use Rattle.std.proofs.lemmas.Iterator.{IsFirst-from_position, YieldsList-from_slice}
use Rattle.std.specs.List.{AllWithin, HoldsAt}
use Rattle.layers.specs.declared.pending.Entry.{Entry}
use Rattle.layers.specs.Places.{Last, Absent}
use Rattle.layers.specs.Queue.{Once}
use Rattle.layers.proofs.pending.Pending.place.Goals as goal

-- the first entry for an address is its last
last_first : (es : List Entry) (a : ℕ) (r : Option ℕ) → Once es
    → MatchOption r (AllWithin (λ e. e.address ≢ a) es 0 (length es)) (λ i. (i < length es) × HoldsAt (λ e. e.address ≡ a) es i × AllWithin (λ e. e.address ≢ a) es 0 i)
    → MatchOption r (Absent es a) (λ i. Last es a i)
last_first es a None o f = λ k d l. f k d (omega arith) l
last_first es a (Some i) o f = record { within = f.0; here = f.1; later = λ k d h l q. o i k d (omega arith) l (f.1 d ∙ sym q) }

pub returns : goal.returns
returns c =
    let es = c.args.self.now in
    let a = c.args.address in
    last_first es a c.position.result (subst Once c.self.view_is c.self.invariant.1)
    (IsFirst-from_position _ _ _ (λ e. e.address ≡ a) (λ e. e.address ≢ a) c.position.ensures.ran (YieldsList-from_slice es cc) (λ x q k. search (rules, tests)) (λ x q k. search (rules, tests)))
