-- What is made of one item more.
use Rattle.std.proofs.Common.{◌≡◌, List, [], ◌∷◌, ◌++◌, fold, refl, ap}
use Rattle.std.specs.List.{scan}

pub scan_more : {S X Y : Type 0} (f : S → X → S) (g : S → X → Y) (s : S) (xs : List X) (x : X)
    → scan f g s (xs ++ x ∷ []) ≡ scan f g s xs ++ g (fold f s xs) x ∷ []
scan_more f g s [] x = refl
scan_more f g s (y ∷ ys) x = ap (λ zs. g s y ∷ zs) (scan_more f g (f s y) ys x)
