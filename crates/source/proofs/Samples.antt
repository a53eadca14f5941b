-- What a source gives rests only on the bytes that it takes.
use Rattle.std.proofs.Common.{◌≡◌, ℕ, ◌+◌, ◌<◌, List, get_or, ap}
use Rattle.window.specs.Apart.{Apart}
use Rattle.window.specs.Values.{stored}
use Rattle.window.proofs.Frames.{value_stored}
use Rattle.window.proofs.Spans.{value_same}
use Rattle.source.specs.Origins.{Origin, taken_from, taken, decoded, sampled}

pub sampled_same : (o : Origin) (sent k : ℕ) (m n : List ℕ) → ((i : ℕ) → i < taken o → get_or m (taken_from o k + i) 0 ≡ get_or n (taken_from o k + i) 0)
    → sampled o m sent k ≡ sampled o n sent k
sampled_same o sent k m n e = ap (decoded o sent k) (value_same m n (taken_from o k) (taken_from o k) (taken o) e)

-- bytes stored apart from them do not matter
pub sampled_apart : (o : Origin) (sent k : ℕ) (m : List ℕ) (a b v : ℕ) → Apart a b (taken_from o k) (taken o) → sampled o (stored m a b v) sent k ≡ sampled o m sent k
sampled_apart o sent k m a b v apart = ap (decoded o sent k) (value_stored m a b v (taken_from o k) (taken o) apart)
