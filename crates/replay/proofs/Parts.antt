-- What can be done in parts.
use Rattle.std.proofs.Common.{◌≡◌, refl}
use Rattle.panel.specs.State.{State}

-- amounts A that act on a state and count for something
module _ {A N : Type 0} (plus : A → A → A) (sum : N → N → N) (act : State → A → State) (count : State → A → N) where
  -- a and then b come to both together
  pub record Join (s : State) (a b : A) : Type 0 where
    pub after : act (act s a) b ≡ act s (plus a b)
    pub counted : count s (plus a b) ≡ sum (count s a) (count (act s a) b)

  module _ {X : Type 0} (mk : X → State) (go : X → A → X) (amount : X → A → N) where
    -- what an amount does to the state s, it does to the progress x
    pub record Follows (s : State) (x : X) : Type 0 where
      pub after : (a : A) → act s a ≡ mk (go x a)
      pub counted : (a : A) → count s a ≡ amount x a

    -- so what holds of the progress holds of the state
    pub join : (s : State) (x : X) → Follows s x → ((a : A) → Follows (mk (go x a)) (go x a)) → (a b : A)
        → go x (plus a b) ≡ go (go x a) b → amount x (plus a b) ≡ sum (amount x a) (amount (go x a) b) → Join s a b
    join s x f rest a b e h = record {
      after = rw (f.after a, (rest a).after b, f.after (plus a b), e);
      counted = rw (f.after a, f.counted a, (rest a).counted b, f.counted (plus a b), h);
    }

  -- where nothing comes of any amount
  pub declined_join : (none : N) → none ≡ sum none none → (s : State) → ((a : A) → act s a ≡ s) → ((a : A) → count s a ≡ none) → (a b : A) → Join s a b
  declined_join none h s stays counts a b =
      let f : Follows (λ t. t) (λ t _. t) (λ _ _. none) s s = record { after = stays; counted = counts } in
      join (λ t. t) (λ t _. t) (λ _ _. none) s s f (λ _. f) a b refl h
