-- What the table of operations says of each code.
use Rattle.std.proofs.Common.{◌≡◌, ◌≢◌, ℕ, zero, suc, Bool, true, false, cond, is_some, Some, Option, List, [], ◌∷◌, nat_le, refl, sym, subst, eqb, ⊎_elim, arith}
use Rattle.std.specs.Prelude.{Contains, MatchBool, All}
use Rattle.std.proofs.lemmas.Bool.Decides.{nat_tests}
use Rattle.std.proofs.lemmas.Bool.{or_cases, cond_both, eqb-true}
use Rattle.std.proofs.lemmas.List.Elements.{All-contains, All-from_recursion}
use Rattle.job.specs.declared.settings.Settings.{Settings}
use Rattle.job.specs.declared.operation.Operation.{Operation}
use Rattle.job.specs.declared.operation.FirstKind.{FirstKind}
use Rattle.job.specs.declared.operation.FirstKind.TheVariants as kind
use Rattle.job.specs.Operations.{operation_at, first_kind, uses_second, blends, either}
use Rattle.job.specs.Grounds.{depth_taken, kind_taken}
use Rattle.job.specs.Plans.{rule_at, unit_at, depth_at, overlay_at}
use Rattle.job.specs.Plans as plans
use Rattle.job.specs.Table.{Supply, nothing, host_pixels, window, pattern, host_bits, memory_bits, Action, raster, key, expansion, expansion_over, blend, fill, Row, operations, pixel_depths, bit_depths, pixel_kinds, all_kinds, bytes_by_depth, bytes_by_kind, formats_by_depth, formats_by_kind, overlays_by_kind, unit_bits_by_depth, pattern_sides, Lists, Unlisted, DrawsBy}

-- a test passes where a fact does not hold, and fails where it does
abbrev pub Refutes : Bool → Type 0 → Type 0
Refutes b X = MatchBool b (X → ⊥) X

-- a list of the numbers that pass a test
module _ (xs : List ℕ) (b : ℕ → Bool) (some : xs ≢ []) (all : All (λ x. b x ≡ true) xs) (has : (n : ℕ) → b n ≡ true → Contains xs n) where
  unlisted_by : (n : ℕ) (t : Bool) → b n ≡ t → Refutes t (Unlisted xs n)
  unlisted_by n true e = λ u. u.missing (has n e)
  unlisted_by n false e = record { used = some; missing = λ c. let t : b n ≡ true = All-contains (λ x. b x ≡ true) xs n all c in cc }

  unlisted : (n : ℕ) → Refutes (b n) (Unlisted xs n)
  unlisted n = unlisted_by n (b n) refl

none_used : (n : ℕ) → Unlisted [] n → ⊥
none_used n u = u.used refl

nonempty : {x : ℕ} {xs : List ℕ} → (x ∷ xs) ≢ []
nonempty = λ e. cc

-- numbers up to 3, one by one
up_to_3 : (P : ℕ → Type 0) → P 0 → P 1 → P 2 → P 3 → (n : ℕ) → nat_le n 3 ≡ true → P n
up_to_3 P a b c d zero h = a
up_to_3 P a b c d (suc zero) h = b
up_to_3 P a b c d (suc (suc zero)) h = c
up_to_3 P a b c d (suc (suc (suc zero))) h = d
up_to_3 P a b c d (suc (suc (suc (suc n)))) h = absurd (grind (arith, nat_tests))

up_to_2 : (P : ℕ → Type 0) → P 0 → P 1 → P 2 → (n : ℕ) → nat_le n 2 ≡ true → P n
up_to_2 P a b c zero h = a
up_to_2 P a b c (suc zero) h = b
up_to_2 P a b c (suc (suc zero)) h = c
up_to_2 P a b c (suc (suc (suc n))) h = absurd (grind (arith, nat_tests))

up_to_1 : (P : ℕ → Type 0) → P 0 → P 1 → (n : ℕ) → nat_le n 1 ≡ true → P n
up_to_1 P a b zero h = a
up_to_1 P a b (suc zero) h = b
up_to_1 P a b (suc (suc n)) h = absurd (grind (arith, nat_tests))

four_or_five : (P : ℕ → Type 0) → P 4 → P 5 → (n : ℕ) → either 4 5 n ≡ true → P n
four_or_five P a b n h = ⊎_elim (λ e. subst P (sym (eqb-true n 4 e)) a) (λ e. subst P (sym (eqb-true n 5 e)) b) (or_cases _ _ h)

pub depth_unlisted : (n : ℕ) → Refutes (nat_le n 3) (Unlisted pixel_depths n)
depth_unlisted =
    unlisted pixel_depths (λ n. nat_le n 3) nonempty (All-from_recursion (λ n. nat_le n 3 ≡ true) pixel_depths (refl, (refl, (refl, (refl, tt)))))
    (up_to_3 (Contains pixel_depths) (0, omega arith, refl) (1, omega arith, refl) (2, omega arith, refl) (3, omega arith, refl))

bit_depth_unlisted : (n : ℕ) → Refutes (nat_le n 1) (Unlisted bit_depths n)
bit_depth_unlisted =
    unlisted bit_depths (λ n. nat_le n 1) nonempty (All-from_recursion (λ n. nat_le n 1 ≡ true) bit_depths (refl, (refl, tt)))
    (up_to_1 (Contains bit_depths) (0, omega arith, refl) (1, omega arith, refl))

-- the kinds that a raster takes, and a blend
raster_kind : (k : ℕ) → kind_taken 0 k ≡ true → nat_le k 2 ≡ true
raster_kind k e = grind arith

kind_unlisted : (k : ℕ) → Refutes (kind_taken 0 k) (Unlisted pixel_kinds k)
kind_unlisted =
    unlisted pixel_kinds (kind_taken 0) nonempty (All-from_recursion (λ n. kind_taken 0 n ≡ true) pixel_kinds (refl, (refl, (refl, tt))))
    (λ k e. up_to_2 (Contains pixel_kinds) (0, omega arith, refl) (1, omega arith, refl) (2, omega arith, refl) k (raster_kind k e))

blend_kind_unlisted : (k : ℕ) → Refutes (kind_taken 10 k) (Unlisted all_kinds k)
blend_kind_unlisted =
    unlisted all_kinds (kind_taken 10) nonempty (All-from_recursion (λ n. kind_taken 10 n ≡ true) all_kinds (refl, (refl, (refl, (refl, (refl, tt))))))
    (λ k e. ⊎_elim
    (up_to_2 (Contains all_kinds) (0, omega arith, refl) (1, omega arith, refl) (2, omega arith, refl) k)
    (four_or_five (Contains all_kinds) (3, omega arith, refl) (4, omega arith, refl) k)
    (or_cases _ _ e))

pub kind_listed : (k : ℕ) → nat_le k 2 ≡ true → Contains pixel_kinds k
kind_listed = up_to_2 (Contains pixel_kinds) (0, omega arith, refl) (1, omega arith, refl) (2, omega arith, refl)

pub kind_low : (k : ℕ) → Contains pixel_kinds k → nat_le k 2 ≡ true
kind_low k = All-contains (λ n. nat_le n 2 ≡ true) pixel_kinds k (All-from_recursion (λ n. nat_le n 2 ≡ true) pixel_kinds (refl, (refl, (refl, tt))))

-- what the smaller tables list
pub format_listed : (d : ℕ) → nat_le d 3 ≡ true → Lists formats_by_depth d (depth_at d)
format_listed = up_to_3 (λ d. Lists formats_by_depth d (depth_at d)) (0, omega arith, refl) (1, omega arith, refl) (2, omega arith, refl) (3, omega arith, refl)

kind_format_listed : (k : ℕ) → nat_le k 2 ≡ true → Lists formats_by_kind k (depth_at k)
kind_format_listed = up_to_2 (λ d. Lists formats_by_kind d (depth_at d)) (0, omega arith, refl) (1, omega arith, refl) (2, omega arith, refl)

overlay_listed : (k : ℕ) → either 4 5 k ≡ true → Lists overlays_by_kind k (overlay_at k)
overlay_listed = four_or_five (λ k. Lists overlays_by_kind k (overlay_at k)) (0, omega arith, refl) (1, omega arith, refl)

pub bytes_listed : (d : ℕ) → nat_le d 3 ≡ true → Lists bytes_by_depth d (plans.depth_bytes d)
bytes_listed = up_to_3 (λ d. Lists bytes_by_depth d (plans.depth_bytes d)) (0, omega arith, refl) (1, omega arith, refl) (2, omega arith, refl) (3, omega arith, refl)

pub kind_bytes_listed : (k : ℕ) → kind_taken 10 k ≡ true → Lists bytes_by_kind k (plans.kind_bytes k)
kind_bytes_listed k e = ⊎_elim
    (up_to_2 (λ k. Lists bytes_by_kind k (plans.kind_bytes k)) (0, omega arith, refl) (1, omega arith, refl) (2, omega arith, refl) k)
    (four_or_five (λ k. Lists bytes_by_kind k (plans.kind_bytes k)) (3, omega arith, refl) (4, omega arith, refl) k)
    (or_cases _ _ e)

pub unit_listed : (d : ℕ) → nat_le d 1 ≡ true → Lists unit_bits_by_depth d (unit_at d)
unit_listed = up_to_1 (λ d. Lists unit_bits_by_depth d (unit_at d)) (0, omega arith, refl) (1, omega arith, refl)

pub side_listed : (b : Bool) → Lists pattern_sides b (cond b 16 8)
side_listed false = (0, omega arith, refl)
side_listed true = (1, omega arith, refl)

-- and they list nothing else
pub bytes_meant : (d b : ℕ) → Lists bytes_by_depth d b → b ≡ plans.depth_bytes d
bytes_meant d b = All-contains (λ e. e.1 ≡ plans.depth_bytes e.0) bytes_by_depth (d, b) (All-from_recursion (λ e. e.1 ≡ plans.depth_bytes e.0) bytes_by_depth (refl, (refl, (refl, (refl, tt)))))

pub kind_bytes_meant : (k b : ℕ) → Lists bytes_by_kind k b → b ≡ plans.kind_bytes k
kind_bytes_meant k b = All-contains (λ e. e.1 ≡ plans.kind_bytes e.0) bytes_by_kind (k, b) (All-from_recursion (λ e. e.1 ≡ plans.kind_bytes e.0) bytes_by_kind (refl, (refl, (refl, (refl, (refl, tt))))))

pub unit_meant : (d u : ℕ) → Lists unit_bits_by_depth d u → u ≡ unit_at d
unit_meant d u = All-contains (λ e. e.1 ≡ unit_at e.0) unit_bits_by_depth (d, u) (All-from_recursion (λ e. e.1 ≡ unit_at e.0) unit_bits_by_depth (refl, (refl, tt)))

pub side_meant : (b : Bool) (n : ℕ) → Lists pattern_sides b n → n ≡ cond b 16 8
side_meant b n = All-contains (λ e. e.1 ≡ cond e.0 16 8) pattern_sides (b, n) (All-from_recursion (λ e. e.1 ≡ cond e.0 16 8) pattern_sides (refl, (refl, tt)))

-- the columns of the table as the tests see them
abbrev pub kind_of : Supply → FirstKind
kind_of nothing = kind.Nothing
kind_of host_pixels = kind.HostPixels
kind_of window = kind.Pixels
kind_of pattern = kind.Pattern
kind_of host_bits = kind.HostBits
kind_of memory_bits = kind.Bits

abbrev pub is_used : List ℕ → Bool
is_used [] = false
is_used (_ ∷ _) = true

abbrev pub is_blend : Action → Bool
is_blend raster = false
is_blend key = false
is_blend expansion = false
is_blend expansion_over = false
is_blend blend = true
is_blend fill = false

-- what is drawn by a code whose depth and kind are taken
raster_drawn : (s : Settings) → nat_le s.first.depth 3 ≡ true → kind_taken 0 s.second.depth ≡ true → DrawsBy s raster (rule_at s 0)
raster_drawn s d k = (refl, format_listed s.first.depth d, kind_format_listed s.second.depth (raster_kind s.second.depth k))

not_overlay : (k : ℕ) → kind_taken 10 k ≡ true → either 4 5 k ≡ false → nat_le k 2 ≡ true
not_overlay k e f = grind arith

blend_drawn : (s : Settings) → nat_le s.first.depth 3 ≡ true → kind_taken 10 s.second.depth ≡ true → DrawsBy s blend (rule_at s 10)
blend_drawn s d k = cond_both (either 4 5 s.second.depth) _ _ (DrawsBy s blend)
    (λ e. (format_listed s.first.depth d, overlay_listed s.second.depth e))
    (λ e. (refl, format_listed s.first.depth d, kind_format_listed s.second.depth (not_overlay s.second.depth k e)))

-- the tests of a code are those of a row
pub record Agrees (n : ℕ) (r : Row) : Type 0 where
  pub known : is_some (operation_at n) ≡ true
  pub first : first_kind n ≡ kind_of r.supply
  pub second : uses_second n ≡ is_used r.kinds
  pub blend : blends n ≡ is_blend r.action
  pub depths : (d : ℕ) → Refutes (depth_taken (kind_of r.supply) d) (Unlisted r.depths d)
  pub kinds : (k : ℕ) → Refutes (kind_taken n k) (Unlisted r.kinds k)
  pub rule : (s : Settings) → depth_taken (kind_of r.supply) s.first.depth ≡ true → kind_taken n s.second.depth ≡ true → DrawsBy s r.action (rule_at s n)

key_drawn : (s : Settings) → nat_le s.first.depth 3 ≡ true → DrawsBy s key (rule_at s 4)
key_drawn s d = (refl, format_listed s.first.depth d)

each_agrees : All (λ r. Agrees r.code r) operations
each_agrees = All-from_recursion (λ r. Agrees r.code r) operations (
  record { known = refl; first = refl; second = refl; blend = refl; depths = depth_unlisted; kinds = kind_unlisted; rule = raster_drawn },
  (
    record { known = refl; first = refl; second = refl; blend = refl; depths = depth_unlisted; kinds = kind_unlisted; rule = raster_drawn },
    (
      record { known = refl; first = refl; second = refl; blend = refl; depths = depth_unlisted; kinds = none_used; rule = λ s d k. key_drawn s d },
      (
        record { known = refl; first = refl; second = refl; blend = refl; depths = depth_unlisted; kinds = none_used; rule = λ s d k. key_drawn s d },
        (
          record { known = refl; first = refl; second = refl; blend = refl; depths = depth_unlisted; kinds = kind_unlisted; rule = raster_drawn },
          (
            record { known = refl; first = refl; second = refl; blend = refl; depths = depth_unlisted; kinds = none_used; rule = λ s d k. key_drawn s d },
            (
              record { known = refl; first = refl; second = refl; blend = refl; depths = bit_depth_unlisted; kinds = none_used; rule = λ s d k. (refl, refl) },
              (
                record { known = refl; first = refl; second = refl; blend = refl; depths = bit_depth_unlisted; kinds = none_used; rule = λ s d k. refl },
                (
                  record { known = refl; first = refl; second = refl; blend = refl; depths = depth_unlisted; kinds = blend_kind_unlisted; rule = blend_drawn },
                  (
                    record { known = refl; first = refl; second = refl; blend = refl; depths = depth_unlisted; kinds = blend_kind_unlisted; rule = blend_drawn },
                    (
                      record { known = refl; first = refl; second = refl; blend = refl; depths = none_used; kinds = none_used; rule = λ s d k. refl },
                      (
                        record { known = refl; first = refl; second = refl; blend = refl; depths = bit_depth_unlisted; kinds = none_used; rule = λ s d k. (refl, refl) },
                        (
                          record { known = refl; first = refl; second = refl; blend = refl; depths = bit_depth_unlisted; kinds = none_used; rule = λ s d k. refl },
                          tt,
                        ),
                      ),
                    ),
                  ),
                ),
              ),
            ),
          ),
        ),
      ),
    ),
  ),
)

pub agrees : (n : ℕ) (r : Row) → Contains operations r → r.code ≡ n → Agrees n r
agrees n r c e = subst (λ n. Agrees n r) e (All-contains (λ r. Agrees r.code r) operations r each_agrees c)

-- a known code has a row
abbrev pub HasRow : ℕ → Type 0
HasRow n = (r : Row) × Contains operations r × (r.code ≡ n)

one_more : (n k : ℕ) (o : Operation) (rest : Option Operation) → HasRow k → (is_some rest ≡ true → HasRow n) → is_some (cond (eqb n k) (Some o) rest) ≡ true → HasRow n
one_more n k o rest here more = by (eqb n k) refl
  where
    by : (b : Bool) → eqb n k ≡ b → is_some (cond b (Some o) rest) ≡ true → HasRow n
    by true e t = subst HasRow (sym (eqb-true n k e)) here
    by false e t = more t

pub row_known : (n : ℕ) → is_some (operation_at n) ≡ true → HasRow n
row_known n =
    one_more n 0 _ _ (_, (0, omega arith, refl), refl)
    (one_more n 2 _ _ (_, (1, omega arith, refl), refl)
    (one_more n 4 _ _ (_, (2, omega arith, refl), refl)
    (one_more n 5 _ _ (_, (3, omega arith, refl), refl)
    (one_more n 6 _ _ (_, (4, omega arith, refl), refl)
    (one_more n 7 _ _ (_, (5, omega arith, refl), refl)
    (one_more n 8 _ _ (_, (6, omega arith, refl), refl)
    (one_more n 9 _ _ (_, (7, omega arith, refl), refl)
    (one_more n 10 _ _ (_, (8, omega arith, refl), refl)
    (one_more n 11 _ _ (_, (9, omega arith, refl), refl)
    (one_more n 12 _ _ (_, (10, omega arith, refl), refl)
    (one_more n 14 _ _ (_, (11, omega arith, refl), refl)
    (one_more n 15 _ _ (_, (12, omega arith, refl), refl)
    (λ t. absurd (cc))))))))))))))
