-- What a source gives, and its bytes in memory.
use Rattle.std.proofs.Common.{◌≡◌, ℕ, zero, suc, ◌+◌, ◌-◌, ◌*◌, ◌/◌, ◌%◌, ◌^◌, ◌<◌, ◌≤◌, List, get_or, refl, sym, ap, ◌∙◌, subst, ⊎_elim, arith}
use Rattle.std.proofs.lemmas.Bool.{cases_lt}
use Rattle.std.proofs.lemmas.Nat.{shr-shr, mod_below}
use Rattle.memory.specs.Bytes.{Sound}
use Rattle.window.specs.Values.{value_at}
use Rattle.window.specs.Geometry.{begins, LeastSize}
use Rattle.window.specs.Places.{area_of, place, cell}
use Rattle.window.proofs.Geometry.{in_row_order, repeats, byte_inside, byte_past}
use Rattle.window.proofs.Limits.{limits_of}
use Rattle.source.specs.Rows.{rows_of, bit_of}
use Rattle.source.specs.Pictures.{unit_begins}
use Rattle.source.specs.Origins.{Origin, unused, host, host_bits, image, pattern, bits, sampled, served, origin_of, OriginIs}
use Rattle.source.specs.Meanings.{away, value_of, Gives, Serves, SourceByte}
use Rattle.source.specs.Reaches.{reach_of}
use Rattle.source.specs.declared.source.Source.{Source}
use Rattle.source.specs.declared.source.Source.TheVariants as source
use Rattle.source.proofs.Pictures.{bits_in_row_order, away_in, gives_its_own, unit_inside_reach, unit_past_size}
use Rattle.source.proofs.Reaches.{unit_some, unit_whole}

low_bit : (b x v : ℕ) → v < 8 → (b + 256 * x) / 2 ^ v % 2 ≡ (b + 256 * 0) / 2 ^ v % 2
low_bit b x zero h = omega arith
low_bit b x (suc zero) h = omega arith
low_bit b x (suc (suc zero)) h = omega arith
low_bit b x (suc (suc (suc zero))) h = omega arith
low_bit b x (suc (suc (suc (suc zero)))) h = omega arith
low_bit b x (suc (suc (suc (suc (suc zero))))) h = omega arith
low_bit b x (suc (suc (suc (suc (suc (suc zero)))))) h = omega arith
low_bit b x (suc (suc (suc (suc (suc (suc (suc zero))))))) h = omega arith
low_bit b x (suc (suc (suc (suc (suc (suc (suc (suc v)))))))) h = absurd (omega arith)

-- bit v of the number that w bytes hold is a bit of the byte v div 8
bit_in_byte : (m : List ℕ) → Sound m → (w a v : ℕ) → v < 8 * w → value_at m (a + v / 8) 1 / 2 ^ (v % 8) % 2 ≡ value_at m a w / 2 ^ v % 2
unfolding value_at
bit_in_byte m s zero a v h = absurd (omega arith)
bit_in_byte m s (suc w) a v h =
    ⊎_elim
    (λ (l : v < 8).
    let x : a + v / 8 ≡ a = omega arith in
    let y : v % 8 ≡ v = omega arith in
    rw (x, y) (sym (low_bit (get_or m a 0) (value_at m (a + 1) w) v l)))
    (λ (l : 8 ≤ v).
    let u = v - 8 in
    let all = get_or m a 0 + 256 * value_at m (a + 1) w in
    let x : a + v / 8 ≡ a + 1 + u / 8 = omega arith in
    let y : v % 8 ≡ u % 8 = omega arith in
    let z : v ≡ 8 + u = omega arith in
    let upper : all / 2 ^ 8 ≡ value_at m (a + 1) w = omega (arith, s.bytes a) in
    rw (x, y)
    (bit_in_byte m s w (a + 1) u (omega arith)
    ∙ ap (λ n. n / 2 ^ u % 2) (sym upper)
    ∙ ap (λ n. n % 2) (shr-shr all 8 u)
    ∙ ap (λ n. all / 2 ^ n % 2) (sym z)))
    (cases_lt v 8)

pub origin_is : (s : Source) → OriginIs s (origin_of s)
origin_is source.Unused = tt
origin_is (source.Host _) = refl
origin_is (source.HostBits _) = refl
origin_is (source.Image _ _) = (refl, refl)
origin_is (source.Pattern _ _ _) = (refl, refl, refl)
origin_is (source.Bits _ _) = (refl, refl)

pub gives : (s : Source) (m : List ℕ) → Sound m → (n : ℕ) → Gives (origin_of s) m n
gives source.Unused m sound n w c row e h = refl
gives (source.Host _) m sound n w c row e h = refl
gives (source.HostBits b) m sound n w c row e h =
    let r = rows_of b in
    let P : ℕ → Type 0 = λ v. c < v → n / 2 ^ bit_of r (row * v + c) % 2 ≡ n / 2 ^ (r.unit - 1 - away r c % r.unit) % 2 in
    subst P e (λ i. ap (λ x. n / 2 ^ x % 2) (bits_in_row_order r c row _ _ (away_in r (unit_some b.unit) c i)).bit) h
gives (source.Image i s) m sound n w c row e h =
    let a = area_of i in
    let P : ℕ → Type 0 = λ v. c < v → value_at m (place a s.bytes (row * v + c)) s.bytes ≡ value_at m (begins a s.bytes c row) s.bytes in
    subst P e (λ k. ap (λ x. value_at m x s.bytes) (in_row_order a s.bytes c row k)) h
gives (source.Pattern i s columns) m sound n w c row e h =
    let a = area_of i in
    let to = begins a s.bytes (c % a.width) (row % a.height) in
    let P : ℕ → Type 0 = λ v. c < v → value_at m (place a s.bytes (cell a columns (row * v + c))) s.bytes ≡ value_at m to s.bytes in
    subst P e (λ k.
    ap (λ x. value_at m (place a s.bytes x) s.bytes) (repeats a columns c row k)
    ∙ ap (λ x. value_at m x s.bytes) (in_row_order a s.bytes (c % a.width) (row % a.height) (mod_below c a.width (limits_of i).width_some))) h
gives (source.Bits b start) m sound n w c row e h =
    let r = rows_of b in
    let u = away r c / r.unit in
    let d = away r c % r.unit in
    let P : ℕ → Type 0 = λ v. c < v → sampled (bits r start) m n (row * v + c) ≡ value_of (bits r start) n m c row in
    subst P e (λ i.
    let t = bits_in_row_order r c row u d (away_in r (unit_some b.unit) c i) in
    ap (λ x. value_at m (start + x * (r.unit / 8) + bit_of r (row * r.columns + c) / 8) 1 / 2 ^ (bit_of r (row * r.columns + c) % 8) % 2) t.unit
    ∙ ap (λ x. value_at m (unit_begins r start row u + x / 8) 1 / 2 ^ (x % 8) % 2) t.bit
    ∙ bit_in_byte m sound (r.unit / 8) (unit_begins r start row u) (r.unit - 1 - d) (omega (arith, unit_whole b.unit, unit_some b.unit))) h

pub serves : (s : Source) (k : ℕ) → Serves (origin_of s) k (served (origin_of s) k)
serves source.Unused k = refl
serves (source.Host _) k = refl
serves (source.HostBits b) k = gives_its_own (rows_of b) (unit_some b.unit) b.some k
serves (source.Image _ _) k = refl
serves (source.Pattern _ _ _) k = refl
serves (source.Bits _ _) k = refl

-- what the numbers of a source must be for its reach to be exact
abbrev pub Proper : Origin → Type 0
Proper unused = Unit {0}
Proper (host b) = 1 ≤ b
Proper (host_bits r) = (1 ≤ r.unit) × (1 ≤ r.columns) × (1 ≤ r.unit / 8)
Proper (image a b) = (1 ≤ a.width) × (1 ≤ a.height) × (1 ≤ b)
Proper (pattern a b _) = (1 ≤ a.width) × (1 ≤ a.height) × (1 ≤ b)
Proper (bits r _) = (1 ≤ r.unit) × (1 ≤ r.columns) × (1 ≤ r.unit / 8)

pub proper : (s : Source) → Proper (origin_of s)
proper source.Unused = tt
proper (source.Host s) = s.some
proper (source.HostBits b) = (unit_some b.unit, b.some, omega (arith, unit_whole b.unit, unit_some b.unit))
proper (source.Image w s) = let l = limits_of w in (l.width_some, l.height_some, s.some)
proper (source.Pattern w s _) = let l = limits_of w in (l.width_some, l.height_some, s.some)
proper (source.Bits b _) = (unit_some b.unit, b.some, omega (arith, unit_whole b.unit, unit_some b.unit))

pub least_of : (o : Origin) → Proper o → (height : ℕ) → 1 ≤ height → LeastSize (SourceByte o height) (reach_of o height)
least_of unused p height down = record { holds = λ x b. absurd b; least = λ n h. absurd (omega arith) }
least_of (host _) p height down = record { holds = λ x b. absurd b; least = λ n h. absurd (omega arith) }
least_of (host_bits _) p height down = record { holds = λ x b. absurd b; least = λ n h. absurd (omega arith) }
least_of (image a b) p height down = record { holds = byte_inside a p.0 p.1 b; least = λ n h. byte_past a p.0 p.1 b n p.2 h }
least_of (pattern a b _) p height down = record { holds = byte_inside a p.0 p.1 b; least = λ n h. byte_past a p.0 p.1 b n p.2 h }
least_of (bits r start) p height down = record { holds = unit_inside_reach r p.0 p.1 start height; least = λ n h. unit_past_size r p.0 p.1 start height down p.2 n h }

pub source_least : (s : Source) (height : ℕ) → 1 ≤ height → LeastSize (SourceByte (origin_of s) height) (reach_of (origin_of s) height)
source_least s height down = least_of (origin_of s) (proper s) height down
