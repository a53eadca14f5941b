-- A start ends as the table of operations says.
use Rattle.std.proofs.Common.{◌≡◌, ℕ, zero, suc, ◌<◌, ◌≤◌, Bool, true, false, ◌&&◌, ◌||◌, cond, is_some, Some, None, Option, List, [], ◌∷◌, nat_le, nat_lt, refl, sym, ap, ◌∙◌, subst, ⊎_elim, inl, inr, ◌⊎◌, arith}
use Rattle.std.specs.Prelude.{MatchBool}
use Rattle.std.proofs.lemmas.Bool.Decides.{when_true}
use Rattle.std.proofs.lemmas.Bool.{cases_lt, leb-true, leb-false, ltb-true, ltb-false}
use Rattle.window.specs.declared.area.Area.{Area}
use Rattle.window.specs.Limits.{Within}
use Rattle.window.specs.Geometry.{PixelByte, BytePast}
use Rattle.source.specs.Rows.{Rows}
use Rattle.source.specs.Origins.{Origin}
use Rattle.source.specs.Origins as origin
use Rattle.source.specs.Meanings.{SourceByte}
use Rattle.engine.specs.Inside.{OpByte}
use Rattle.engine.specs.Inside as op
use Rattle.job.specs.declared.settings.Settings.{Settings}
use Rattle.job.specs.declared.settings.Surface.{Surface}
use Rattle.job.specs.declared.operation.FirstKind.TheVariants as kind
use Rattle.job.specs.Operations.{operation_at, first_kind, uses_second, blends, either}
use Rattle.job.specs.Grounds.{grounds, lowest, inside, depth_taken, kind_taken, start_fits, level_fits, limited, first_limited, second_limited, all_limited, depths_taken}
use Rattle.job.specs.Plans.{plan_at, op_at, rule_at, unit_at, depth_at, first_at, second_at, area_at, side_of}
use Rattle.job.specs.Plans as plans
use Rattle.job.specs.Works.{fresh_work, clearing, judged}
use Rattle.job.specs.Table.{Supply, nothing, host_pixels, window, pattern, host_bits, memory_bits, Action, raster, key, expansion, expansion_over, blend, fill, Row, pixel_depths, bytes_by_depth, bytes_by_kind, Lists, RowOf, WindowOn, BitRowsOf, FirstIs, SecondIs, TargetIs, UsesWindow, UsesByte, of_target, of_first, of_pattern, of_second, of_window, of_bits, Unlisted, NoSuchOperation, DepthNotTaken, target_depth, first_depth, second_kind, StartBitPastUnit, LevelTooHigh, OutsideLimits, PastMemory, OfRow, Ground, third, fourth, fifth, sixth, seventh, eighth, DrawsByRow, Accepted, ByTheTable}
use Rattle.job.proofs.Past.{parts, exactly, is_within, not_within}
use Rattle.job.proofs.Table.{Refutes, kind_of, is_used, is_blend, Agrees, agrees, HasRow, row_known, depth_unlisted, kind_listed, kind_low, format_listed, bytes_listed, kind_bytes_listed, unit_listed, side_listed, bytes_meant, kind_bytes_meant, unit_meant, side_meant}

-- windows and rows of bits are what the settings give, and no others
window_on : (f : Surface) (sizes : List (ℕ × ℕ)) (w h b : ℕ) → Lists sizes f.depth b → WindowOn f sizes w h (area_at f w h) b
window_on f sizes w h b l = record { start = refl; image = refl; left = refl; top = refl; width = refl; height = refl; bytes = l }

area_meant : {f : Surface} {sizes : List (ℕ × ℕ)} {w h : ℕ} {a : Area} {b : ℕ} → WindowOn f sizes w h a b → a ≡ area_at f w h
area_meant {f} {sizes} {w} {h} {a} {b} o =
    let e : ◌≡◌ {A = Area} (record { start = a.start; image = a.image; left = a.left; top = a.top; width = a.width; height = a.height }) (area_at f w h) = cc in e

module _ (s : Settings) where
  first_is : (k : Supply) → depth_taken (kind_of k) s.first.depth ≡ true → FirstIs s k (first_at s (kind_of k))
  first_is nothing h = tt
  first_is host_pixels h = bytes_listed s.first.depth h
  first_is window h = window_on s.first bytes_by_depth s.width s.height _ (bytes_listed s.first.depth h)
  first_is pattern h = (side_of s, side_listed s.large, window_on s.first bytes_by_depth (side_of s) (side_of s) _ (bytes_listed s.first.depth h), refl)
  first_is host_bits h = record { unit = unit_listed s.first.depth h; start = refl; columns = refl }
  first_is memory_bits h = (record { unit = unit_listed s.first.depth h; start = refl; columns = refl }, refl)

  rows_meant : (q : Rows) → BitRowsOf s q → q ≡ plans.rows_of_settings s
  rows_meant q h =
      let u = unit_meant s.first.depth q.unit h.unit in
      let e : ◌≡◌ {A = Rows} (record { unit = q.unit; start = q.start; columns = q.columns }) (plans.rows_of_settings s) = cc in e

  first_meant : (k : Supply) (o : Origin) → FirstIs s k o → o ≡ first_at s (kind_of k)
  first_meant nothing origin.unused h = refl
  first_meant host_pixels (origin.host b) h = ap origin.host (bytes_meant s.first.depth b h)
  first_meant window (origin.image a b) h =
      let e : a ≡ area_at s.first s.width s.height = area_meant h in
      let u = bytes_meant s.first.depth b h.bytes in cc
  first_meant pattern (origin.pattern a b columns) h =
      let n = side_meant s.large h.0 h.1 in
      let e : a ≡ area_at s.first h.0 h.0 = area_meant h.2 in
      let u = bytes_meant s.first.depth b h.2.bytes in cc
  first_meant host_bits (origin.host_bits q) h = ap origin.host_bits (rows_meant q h)
  first_meant memory_bits (origin.bits q start) h = let e = rows_meant q h.0 in cc
  first_meant _ _ h = absurd h

  second_is : (ks : List ℕ) → (is_used ks ≡ true → Lists bytes_by_kind s.second.depth (plans.kind_bytes s.second.depth)) → SecondIs s ks (second_at s (is_used ks))
  second_is [] h = tt
  second_is (_ ∷ _) h = window_on s.second bytes_by_kind s.width s.height _ (h refl)

  second_meant : (ks : List ℕ) (o : Origin) → SecondIs s ks o → o ≡ second_at s (is_used ks)
  second_meant [] origin.unused h = refl
  second_meant (_ ∷ _) (origin.image a b) h =
      let e : a ≡ area_at s.second s.width s.height = area_meant h in
      let u = kind_bytes_meant s.second.depth b h.bytes in cc
  second_meant _ _ h = absurd h

-- 4
depths_by : (s : Settings) (r : Row) (x y z : Bool) → Refutes x (Unlisted r.depths s.first.depth) → Refutes y (Unlisted r.kinds s.second.depth) → Refutes z (Unlisted pixel_depths s.target.depth) → Refutes (x && (y && z)) (DepthNotTaken s r)
depths_by s r false y z u v w = first_depth u
depths_by s r true false z u v w = second_kind v
depths_by s r true true false u v w = target_depth w
depths_by s r true true true u v w = none
  where
    none : DepthNotTaken s r → ⊥
    none (target_depth x) = w x
    none (first_depth x) = u x
    none (second_kind x) = v x

-- a kind that is taken is one that a blend takes
widens : (u b x y : Bool) → u ≡ true → cond u (x || (b && y)) true ≡ true → (x || y) ≡ true
widens u b x y e f = grind arith

-- 6
is_blend_true : (a : Action) → is_blend a ≡ true → a ≡ blend
is_blend_true raster e = cc
is_blend_true key e = cc
is_blend_true expansion e = cc
is_blend_true expansion_over e = cc
is_blend_true blend e = refl
is_blend_true fill e = cc

level_by : (s : Settings) (r : Row) (b k l : Bool) → b ≡ is_blend r.action → k ≡ nat_le s.second.depth 2 → l ≡ nat_le s.level 32 → Refutes (cond (b && k) l true) (LevelTooHigh s r)
level_by s r false k l e f g = λ h. let t = ap is_blend h.blends in cc
level_by s r true false l e f g = λ h. let t = kind_low s.second.depth h.kind in cc
level_by s r true true true e f g = λ h. let t = leb-true s.level 32 (sym g) in let u = h.high in omega arith
level_by s r true true false e f g = record { blends = is_blend_true r.action (sym e); kind = kind_listed s.second.depth (sym f); high = leb-false s.level 32 (sym g) }

-- 5
module _ (s : Settings) (r : Row) where
  start_of_bits : (r.supply ≡ host_bits) ⊎ (r.supply ≡ memory_bits) → nat_le s.first.depth 1 ≡ true → (t : Bool) → nat_lt s.code (unit_at s.first.depth) ≡ t → Refutes t (StartBitPastUnit s r)
  start_of_bits bits d true e = λ h. let t = ltb-true s.code (unit_at s.first.depth) e in let u = unit_meant s.first.depth h.unit h.sized in let p = h.past in omega arith
  start_of_bits bits d false e = record { bits = bits; unit = unit_at s.first.depth; sized = unit_listed s.first.depth d; past = ltb-false s.code (unit_at s.first.depth) e }

  no_bits : (k : Supply) → (k ≡ host_bits → ⊥) → (k ≡ memory_bits → ⊥) → r.supply ≡ k → StartBitPastUnit s r → ⊥
  no_bits k x y e h = ⊎_elim (λ b. x (sym e ∙ b)) (λ b. y (sym e ∙ b)) h.bits

  starts : (k : Supply) → r.supply ≡ k → depth_taken (kind_of k) s.first.depth ≡ true → Refutes (start_fits s (kind_of k)) (StartBitPastUnit s r)
  starts nothing e d = no_bits nothing (λ h. cc) (λ h. cc) e
  starts host_pixels e d = no_bits host_pixels (λ h. cc) (λ h. cc) e
  starts window e d = no_bits window (λ h. cc) (λ h. cc) e
  starts pattern e d = no_bits pattern (λ h. cc) (λ h. cc) e
  starts host_bits e d = start_of_bits (inl e) d (nat_lt s.code (unit_at s.first.depth)) refl
  starts memory_bits e d = start_of_bits (inr e) d (nat_lt s.code (unit_at s.first.depth)) refl

-- 7
abbrev OriginWithin : Origin → Type 0
OriginWithin origin.unused = Unit {0}
OriginWithin (origin.host _) = Unit {0}
OriginWithin (origin.host_bits _) = Unit {0}
OriginWithin (origin.image a _) = Within 8191 a
OriginWithin (origin.pattern a _ _) = Within 8191 a
OriginWithin (origin.bits _ _) = Unit {0}

module _ (s : Settings) (r : Row) where
  abbrev target_area : Area
  target_area = area_at s.target s.width s.height

  target_is : nat_le s.target.depth 3 ≡ true → TargetIs s target_area (plans.depth_bytes s.target.depth)
  target_is d = window_on s.target bytes_by_depth s.width s.height _ (bytes_listed s.target.depth d)

  first_within : (k : Supply) → first_limited s (kind_of k) ≡ true → OriginWithin (first_at s (kind_of k))
  first_within nothing e = tt
  first_within host_pixels e = tt
  first_within window e = is_within (area_at s.first s.width s.height) e
  first_within pattern e = is_within (area_at s.first (side_of s) (side_of s)) e
  first_within host_bits e = tt
  first_within memory_bits e = tt

  second_within : (used : Bool) → second_limited s used ≡ true → OriginWithin (second_at s used)
  second_within true e = is_within (area_at s.second s.width s.height) e
  second_within false e = tt

  windows_within : first_limited s (kind_of r.supply) ≡ true → second_limited s (is_used r.kinds) ≡ true → limited target_area ≡ true
      → (a : Area) (b : ℕ) → UsesWindow s r a b → Within 8191 a
  windows_within f g t a b (of_target h) = subst (Within 8191) (sym (area_meant h)) (is_within target_area t)
  windows_within f g t a b (of_first h) = subst OriginWithin (sym (first_meant s r.supply (origin.image a b) h)) (first_within r.supply f)
  windows_within f g t a b (of_pattern c h) = subst OriginWithin (sym (first_meant s r.supply (origin.pattern a b c) h)) (first_within r.supply f)
  windows_within f g t a b (of_second h) = subst OriginWithin (sym (second_meant s r.kinds (origin.image a b) h)) (second_within (is_used r.kinds) g)

  target_outside : nat_le s.target.depth 3 ≡ true → (Within 8191 target_area → ⊥) → OutsideLimits s r
  target_outside d e = record { area = target_area; bytes = plans.depth_bytes s.target.depth; used = of_target (target_is d); outside = e }

  no_columns : nat_lt 0 s.width ≡ false → Within 8191 target_area → ⊥
  no_columns e w = let t = ltb-false 0 s.width e in let u = w.width.0 in omega arith

  first_outside : (k : Supply) → r.supply ≡ k → depth_taken (kind_of k) s.first.depth ≡ true → nat_le s.target.depth 3 ≡ true → first_limited s (kind_of k) ≡ false → OutsideLimits s r
  first_outside nothing e d t f = absurd (cc)
  first_outside host_pixels e d t f = absurd (cc)
  first_outside window e d t f = record {
    area = area_at s.first s.width s.height;
    bytes = plans.depth_bytes s.first.depth;
    used = of_first (subst (λ k. FirstIs s k (first_at s kind.Pixels)) (sym e) (first_is s window d));
    outside = not_within (area_at s.first s.width s.height) f;
  }
  first_outside pattern e d t f = record {
    area = area_at s.first (side_of s) (side_of s);
    bytes = plans.depth_bytes s.first.depth;
    used = of_pattern s.width (subst (λ k. FirstIs s k (first_at s kind.Pattern)) (sym e) (first_is s pattern d));
    outside = not_within (area_at s.first (side_of s) (side_of s)) f;
  }
  first_outside host_bits e d t f = target_outside t (no_columns f)
  first_outside memory_bits e d t f = target_outside t (no_columns f)

  second_outside : (ks : List ℕ) → r.kinds ≡ ks → (is_used ks ≡ true → Lists bytes_by_kind s.second.depth (plans.kind_bytes s.second.depth)) → second_limited s (is_used ks) ≡ false → OutsideLimits s r
  second_outside [] e l f = absurd (cc)
  second_outside (k ∷ ks) e l f = record {
    area = area_at s.second s.width s.height;
    bytes = plans.kind_bytes s.second.depth;
    used = of_second (subst (λ x. SecondIs s x (second_at s true)) (sym e) (second_is s (k ∷ ks) l));
    outside = not_within (area_at s.second s.width s.height) f;
  }

  -- what the tests have shown of a start that is past the fourth
  record Taken : Type 0 where
    depth : depth_taken (kind_of r.supply) s.first.depth ≡ true
    kind : is_used r.kinds ≡ true → Lists bytes_by_kind s.second.depth (plans.kind_bytes s.second.depth)
    target : nat_le s.target.depth 3 ≡ true

  limits_by : Taken → (x y z : Bool) → first_limited s (kind_of r.supply) ≡ x → second_limited s (is_used r.kinds) ≡ y → limited target_area ≡ z → Refutes (x && (y && z)) (OutsideLimits s r)
  limits_by p false y z f g t = first_outside r.supply refl p.depth p.target f
  limits_by p true false z f g t = second_outside r.kinds refl p.kind g
  limits_by p true true false f g t = target_outside p.target (not_within target_area t)
  limits_by p true true true f g t = λ o. o.outside (windows_within f g t o.area o.bytes o.used)

  -- 8: the bytes that are used are those of the plan
  pixel_same : {a c : Area} {b d x : ℕ} → a ≡ c → b ≡ d → PixelByte a b x → PixelByte c d x
  pixel_same {a} {c} {b} {d} {x} e f p = subst (λ y. PixelByte y d x) e (subst (λ y. PixelByte a y x) f p)

  module _ (first : first_kind s.operation ≡ kind_of r.supply) (second : uses_second s.operation ≡ is_used r.kinds) where
    first_same : (o : Origin) (x : ℕ) → FirstIs s r.supply o → SourceByte o s.height x → OpByte (op_at (plan_at s)) x
    first_same o x h p = op.of_first (subst (λ y. SourceByte y s.height x) (first_meant s r.supply o h ∙ ap (first_at s) (sym first)) p)

    planned : (x : ℕ) → UsesByte s r x → OpByte (op_at (plan_at s)) x
    planned x (of_window a b (of_target h) p) = op.of_target (pixel_same (area_meant h) (bytes_meant s.target.depth b h.bytes) p)
    planned x (of_window a b (of_first h) p) = first_same (origin.image a b) x h p
    planned x (of_window a b (of_pattern c h) p) = first_same (origin.pattern a b c) x h p
    planned x (of_window a b (of_second h) p) = op.of_second (subst (λ y. SourceByte y s.height x) (second_meant s r.kinds (origin.image a b) h ∙ ap (second_at s) (sym second)) p)
    planned x (of_bits q start h p) = first_same (origin.bits q start) x h p

    first_used : (k : Supply) → r.supply ≡ k → depth_taken (kind_of k) s.first.depth ≡ true → (x : ℕ) → SourceByte (first_at s (kind_of k)) s.height x → UsesByte s r x
    first_used nothing e d x p = absurd p
    first_used host_pixels e d x p = absurd p
    first_used window e d x p = of_window _ _ (of_first (subst (λ k. FirstIs s k (first_at s kind.Pixels)) (sym e) (first_is s window d))) p
    first_used pattern e d x p = of_window _ _ (of_pattern s.width (subst (λ k. FirstIs s k (first_at s kind.Pattern)) (sym e) (first_is s pattern d))) p
    first_used host_bits e d x p = absurd p
    first_used memory_bits e d x p = of_bits _ _ (subst (λ k. FirstIs s k (first_at s kind.Bits)) (sym e) (first_is s memory_bits d)) p

    second_used : (ks : List ℕ) → r.kinds ≡ ks → (is_used ks ≡ true → Lists bytes_by_kind s.second.depth (plans.kind_bytes s.second.depth)) → (x : ℕ) → SourceByte (second_at s (is_used ks)) s.height x → UsesByte s r x
    second_used [] e l x p = absurd p
    second_used (k ∷ ks) e l x p = of_window _ _ (of_second (subst (λ y. SecondIs s y (second_at s true)) (sym e) (second_is s (k ∷ ks) l))) p

    used : Taken → (x : ℕ) → OpByte (op_at (plan_at s)) x → UsesByte s r x
    used t x (op.of_target p) = of_window _ _ (of_target (target_is t.target)) p
    used t x (op.of_first p) = first_used r.supply refl t.depth x (subst (λ k. SourceByte (first_at s k) s.height x) first p)
    used t x (op.of_second p) = second_used r.kinds refl t.kind x (subst (λ u. SourceByte (second_at s u) s.height x) second p)

    past_by : Taken → (size : ℕ) (t : Bool) → MatchBool t ((x : ℕ) → OpByte (op_at (plan_at s)) x → x < size) (BytePast (OpByte (op_at (plan_at s))) size) → Refutes t (PastMemory s size r)
    past_by k size true h = λ p. let l = h p.address (planned p.address p.meant) in let q = p.past in omega arith
    past_by k size false h = record { address = h.address; meant = used k h.address h.meant; past = h.past }

-- the tests of a start whose operation has a row
module _ (s : Settings) (r : Row) (is : RowOf s r) where
  abbrev n : ℕ
  n = s.operation

  a : Agrees n r
  a = agrees n r is.listed is.code

  fourth_by : Refutes (depths_taken s n) (DepthNotTaken s r)
  fourth_by =
      depths_by s r (depth_taken (first_kind n) s.first.depth) (kind_taken n s.second.depth) (nat_le s.target.depth 3)
      (subst (λ k. Refutes (depth_taken k s.first.depth) (Unlisted r.depths s.first.depth)) (sym a.first) (a.depths s.first.depth))
      (a.kinds s.second.depth) (depth_unlisted s.target.depth)

  each : depths_taken s n ≡ true → (depth_taken (first_kind n) s.first.depth ≡ true) × (kind_taken n s.second.depth ≡ true) × (nat_le s.target.depth 3 ≡ true)
  each e = parts (depth_taken (first_kind n) s.first.depth) (kind_taken n s.second.depth) (nat_le s.target.depth 3) e

  taken : depths_taken s n ≡ true → Taken s r
  taken e = record {
    depth = subst (λ k. depth_taken k s.first.depth ≡ true) a.first (each e).0;
    kind = λ u. kind_bytes_listed s.second.depth (widens (uses_second n) (blends n) (nat_le s.second.depth 2) (either 4 5 s.second.depth) (a.second ∙ u) (each e).1);
    target = (each e).2;
  }

  fifth_by : depths_taken s n ≡ true → Refutes (start_fits s (first_kind n)) (StartBitPastUnit s r)
  fifth_by e = subst (λ k. Refutes (start_fits s k) (StartBitPastUnit s r)) (sym a.first) (starts s r r.supply refl (taken e).depth)

  sixth_by : Refutes (level_fits s n) (LevelTooHigh s r)
  sixth_by = level_by s r (blends n) (nat_le s.second.depth 2) (nat_le s.level 32) a.blend refl refl

  seventh_by : depths_taken s n ≡ true → Refutes (all_limited s n) (OutsideLimits s r)
  seventh_by e = limits_by s r (taken e) (first_limited s (first_kind n)) (second_limited s (uses_second n)) (limited (target_area s r)) (ap (first_limited s) (sym a.first)) (ap (second_limited s) (sym a.second)) refl

  eighth_by : depths_taken s n ≡ true → all_limited s n ≡ true → (size : ℕ) → Refutes (inside (plan_at s) size) (PastMemory s size r)
  eighth_by e l size = past_by s r a.first a.second (taken e) size (inside (plan_at s) size) (exactly s l size)

  drawn : depths_taken s n ≡ true → all_limited s n ≡ true → DrawsByRow s (plan_at s) r
  drawn e l =
      let t = taken e in
      let w = parts (first_limited s (first_kind n)) (second_limited s (uses_second n)) (limited (target_area s r)) l in
      record {
        rule = a.rule s t.depth (each e).1;
        first = subst (λ k. FirstIs s r.supply (first_at s k)) (sym a.first) (first_is s r.supply t.depth);
        second = subst (λ u. SecondIs s r.kinds (second_at s u)) (sym a.second) (second_is s r.kinds t.kind);
        canvas = format_listed s.target.depth t.target;
        bytes = plans.depth_bytes s.target.depth;
        target = target_is s r t.target;
        within = windows_within s r (ap (first_limited s) (sym a.first) ∙ w.0) (ap (second_limited s) (sym a.second) ∙ w.1) w.2;
      }

-- the fact of each ground
abbrev FactAt : Settings → ℕ → ℕ → Type 0
FactAt s size (suc (suc (suc zero))) = NoSuchOperation s
FactAt s size (suc (suc (suc (suc zero)))) = OfRow s (DepthNotTaken s)
FactAt s size (suc (suc (suc (suc (suc zero))))) = OfRow s (StartBitPastUnit s)
FactAt s size (suc (suc (suc (suc (suc (suc zero)))))) = OfRow s (LevelTooHigh s)
FactAt s size (suc (suc (suc (suc (suc (suc (suc zero))))))) = OfRow s (OutsideLimits s)
FactAt s size (suc (suc (suc (suc (suc (suc (suc (suc zero)))))))) = OfRow s (PastMemory s size)
FactAt _ _ _ = ⊥

module _ (s : Settings) (size : ℕ) where
  fact_at : (n : ℕ) → Ground s size n → FactAt s size n
  fact_at n (third e f) = subst (FactAt s size) (sym e) f
  fact_at n (fourth e f) = subst (FactAt s size) (sym e) f
  fact_at n (fifth e f) = subst (FactAt s size) (sym e) f
  fact_at n (sixth e f) = subst (FactAt s size) (sym e) f
  fact_at n (seventh e f) = subst (FactAt s size) (sym e) f
  fact_at n (eighth e f) = subst (FactAt s size) (sym e) f

  numbered : (n : ℕ) → Ground s size n → (3 ≤ n) × (n ≤ 8)
  numbered n (third e _) = (omega arith, omega arith)
  numbered n (fourth e _) = (omega arith, omega arith)
  numbered n (fifth e _) = (omega arith, omega arith)
  numbered n (sixth e _) = (omega arith, omega arith)
  numbered n (seventh e _) = (omega arith, omega arith)
  numbered n (eighth e _) = (omega arith, omega arith)

  abbrev NoneBelow : ℕ → Type 0
  NoneBelow n = (m : ℕ) → m < n → Ground s size m → ⊥

  none_below_3 : NoneBelow 3
  none_below_3 m l g = let b = numbered m g in omega arith

  next : (n : ℕ) → NoneBelow n → (FactAt s size n → ⊥) → NoneBelow (suc n)
  next n below f m l g = ⊎_elim
      (λ k. below m k g)
      (λ k. let e : m ≡ n = omega arith in f (subst (FactAt s size) e (fact_at m g)))
      (cases_lt m n)

  -- how tests end of which each refutes the fact of its number, where those before it pass
  abbrev Ends : Type 0 → Option ℕ → Type 0
  Ends A None = A
  Ends A (Some n) = Ground s size n × NoneBelow n

  ends : (A : Type 0) (t3 t4 t5 t6 t7 t8 : Bool)
      → Refutes t3 (FactAt s size 3)
      → (t3 ≡ true → Refutes t4 (FactAt s size 4))
      → (t3 ≡ true → t4 ≡ true → Refutes t5 (FactAt s size 5))
      → (t3 ≡ true → Refutes t6 (FactAt s size 6))
      → (t3 ≡ true → t4 ≡ true → Refutes t7 (FactAt s size 7))
      → (t3 ≡ true → t4 ≡ true → t7 ≡ true → Refutes t8 (FactAt s size 8))
      → (t3 ≡ true → t4 ≡ true → t7 ≡ true → t8 ≡ true → ((n : ℕ) → Ground s size n → ⊥) → A)
      → Ends A (lowest t3 t4 t5 t6 t7 t8)
  ends A false t4 t5 t6 t7 t8 f3 f4 f5 f6 f7 f8 a = (third refl f3, none_below_3)
  ends A true false t5 t6 t7 t8 f3 f4 f5 f6 f7 f8 a = (fourth refl (f4 refl), next 3 none_below_3 f3)
  ends A true true false t6 t7 t8 f3 f4 f5 f6 f7 f8 a = (fifth refl (f5 refl refl), next 4 (next 3 none_below_3 f3) (f4 refl))
  ends A true true true false t7 t8 f3 f4 f5 f6 f7 f8 a = (sixth refl (f6 refl), next 5 (next 4 (next 3 none_below_3 f3) (f4 refl)) (f5 refl refl))
  ends A true true true true false t8 f3 f4 f5 f6 f7 f8 a = (seventh refl (f7 refl refl), next 6 (next 5 (next 4 (next 3 none_below_3 f3) (f4 refl)) (f5 refl refl)) (f6 refl))
  ends A true true true true true false f3 f4 f5 f6 f7 f8 a = (eighth refl (f8 refl refl refl), next 7 (next 6 (next 5 (next 4 (next 3 none_below_3 f3) (f4 refl)) (f5 refl refl)) (f6 refl)) (f7 refl refl))
  ends A true true true true true true f3 f4 f5 f6 f7 f8 a =
      let below : NoneBelow 9 = next 8 (next 7 (next 6 (next 5 (next 4 (next 3 none_below_3 f3) (f4 refl)) (f5 refl refl)) (f6 refl)) (f7 refl refl)) (f8 refl refl refl) in
      a refl refl refl refl (λ n g. let b = numbered n g in below n (omega arith) g)

  row_of : HasRow s.operation → (r : Row) × RowOf s r
  row_of h = (h.0, record { listed = h.1; code = h.2 })

  third_by : (t : Bool) → is_some (operation_at s.operation) ≡ t → Refutes t (NoSuchOperation s)
  third_by true e = λ none. let h = row_of (row_known s.operation e) in none h.0 h.1
  third_by false e = λ r is. let a = agrees s.operation r is.listed is.code in cc

  row_by : (t : Bool) (Fact : Row → Type 0) → (r : Row) × RowOf s r → ((r : Row) → RowOf s r → Refutes t (Fact r)) → Refutes t (OfRow s Fact)
  row_by true Fact h by = λ o. by o.row o.is o.fact
  row_by false Fact h by = record { row = h.0; is = h.1; fact = by h.0 h.1 }

  judged_by : Ends (Accepted s size (fresh_work (plan_at s) size)) (grounds s size)
  judged_by =
      let row = λ (e : is_some (operation_at s.operation) ≡ true). row_of (row_known s.operation e) in
      ends (Accepted s size (fresh_work (plan_at s) size)) (is_some (operation_at s.operation)) (depths_taken s s.operation) (start_fits s (first_kind s.operation)) (level_fits s s.operation) (all_limited s s.operation) (inside (plan_at s) size)
      (third_by (is_some (operation_at s.operation)) refl)
      (λ k. row_by (depths_taken s s.operation) (DepthNotTaken s) (row k) (fourth_by s))
      (λ k d. row_by (start_fits s (first_kind s.operation)) (StartBitPastUnit s) (row k) (λ r is. fifth_by s r is d))
      (λ k. row_by (level_fits s s.operation) (LevelTooHigh s) (row k) (sixth_by s))
      (λ k d. row_by (all_limited s s.operation) (OutsideLimits s) (row k) (λ r is. seventh_by s r is d))
      (λ k d l. row_by (inside (plan_at s) size) (PastMemory s size) (row k) (λ r is. eighth_by s r is d l size))
      (λ k d l i none. record {
        none = none;
        draws = record { row = (row k).0; is = (row k).1; fact = drawn s (row k).0 (row k).1 d l };
        below = when_true ((x : ℕ) → OpByte (op_at (plan_at s)) x → x < size) (BytePast (OpByte (op_at (plan_at s))) size) i (exactly s l size);
        cleared_for = refl;
        drawn = refl;
        waiting = refl;
      })

  answered : (o : Option ℕ) → Ends (Accepted s size (fresh_work (plan_at s) size)) o → ByTheTable s size (judged s size o)
  answered None a = a
  answered (Some n) g = record { ground = g.0; lowest = g.1; unchanged = refl }

  pub by_the_table : ByTheTable s size (clearing s size)
  by_the_table = answered (grounds s size) judged_by
