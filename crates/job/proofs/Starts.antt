-- The steps of a start against its tests.
use Rattle.std.proofs.Common.{◌≡◌, ℕ, Bool, true, ◌&&◌, is_some, None, Ok, Option, Result, nat_le, sym, refl, ap, ◌∙◌, arith}
use Rattle.std.specs.Option.{ok_or}
use Rattle.refusal.specs.declared.Refusal.{Refusal}
use Rattle.refusal.specs.declared.Refusal.TheVariants.{NoSuchOperation}
use Rattle.job.specs.declared.operation.Operation.{Operation}
use Rattle.job.specs.declared.operation.Operation.TheVariants as operation
use Rattle.job.specs.declared.operation.FirstKind.{FirstKind}
use Rattle.job.specs.declared.operation.FirstKind.TheVariants as kind
use Rattle.job.specs.declared.settings.Settings.{Settings}
use Rattle.job.specs.Operations.{Decodes, code_of, first_kind, uses_second}
use Rattle.job.specs.Plans.{Plan, depth_at, first_at, second_at, rule_at, plan_for, plan_at}
use Rattle.job.specs.Grounds.{tested, or_7, lowest, outcome, grounds, depth_taken, kind_taken, depths_taken, start_fits, level_fits, first_limited, second_limited, all_limited, inside}
use Rattle.job.specs.Parsed.{first_format_at, second_format_at, past_fifth, first_parsed, parsed, rule_of, first_made, second_made, onward, plan_made, plan_tested}

-- the second source and the canvas come first, and the fourth test is of all three depths
format_cases : {F G C P : Type 0} (t second canvas u : Bool) (f : F) (g : G) (c : C) (formats : G → C → F → P)
    → onward (tested 4 second g) (λ x. onward (tested 4 canvas c) (λ y. onward (past_fifth t u f) (λ z. Ok (formats x y z)))) ≡ past_fifth (t && (second && canvas)) u (formats g c f)
format_cases t second canvas u f g c formats = grind arith

-- what the formats of the settings give is what the settings mean
module _ (s : Settings) where
  -- as the code parses them, one after another
  pub parsed_meant : (n : ℕ) → parsed s n ≡
      onward (tested 4 (kind_taken n s.second.depth) (second_format_at s n)) (λ g.
      onward (tested 4 (nat_le s.target.depth 3) (depth_at s.target.depth)) (λ c.
      onward (first_parsed s (first_kind n) (first_format_at s (first_kind n))) (λ f. Ok (record { first = f; second = g; canvas = c }))))
  parsed_meant n =
      let k = first_kind n in
      sym (format_cases (depth_taken k s.first.depth) (kind_taken n s.second.depth) (nat_le s.target.depth 3) (start_fits s k)
      (first_format_at s k) (second_format_at s n) (depth_at s.target.depth) (λ g c f. record { first = f; second = g; canvas = c }))

  first_meant : (k : FirstKind) → start_fits s k ≡ true → first_made s (first_format_at s k) ≡ or_7 (first_limited s k) (first_at s k)
  first_meant kind.Nothing h = refl
  first_meant kind.HostPixels h = refl
  first_meant kind.Pixels h = refl
  first_meant kind.Pattern h = refl
  first_meant kind.HostBits h = grind arith
  first_meant kind.Bits h = grind arith

  second_meant : (n : ℕ) → second_made s (second_format_at s n) ≡ or_7 (second_limited s (uses_second n)) (second_at s (uses_second n))
  second_meant n = grind arith

  rule_meant : (o : Operation) → depths_taken s (code_of o) ≡ true
      → rule_of s (code_of o) (first_format_at s (first_kind (code_of o))) (second_format_at s (code_of o)) ≡ tested 6 (level_fits s (code_of o)) (rule_at s (code_of o))
  rule_meant operation.RasterFromHost h = grind arith
  rule_meant operation.RasterFromMemory h = grind arith
  rule_meant operation.PatternRaster h = grind arith
  rule_meant operation.BlendFromMemory h = grind arith
  rule_meant operation.BlendFromHost h = grind arith
  rule_meant operation.KeyFromHost h = refl
  rule_meant operation.KeyFromMemory h = refl
  rule_meant operation.PatternKey h = refl
  rule_meant operation.ExpandFromHost h = refl
  rule_meant operation.ExpandOverFromHost h = refl
  rule_meant operation.Fill h = refl
  rule_meant operation.ExpandFromMemory h = refl
  rule_meant operation.ExpandOverFromMemory h = refl

-- what goes on from each test to the next ends as the tests do
ends : {F R P : Type 0} (t4 t5 t6 t7 t8 : Bool) (f : F) (rules : F → Result R ℕ) (r : R) (draws : F → R → Result P ℕ) (d : P) (fits : P → Bool)
    → (t4 ≡ true → rules f ≡ tested 6 t6 r) → (t5 ≡ true → draws f r ≡ or_7 t7 d) → fits d ≡ t8
    → onward (past_fifth t4 t5 f) (λ x. onward (rules x) (λ y. onward (draws x y) (λ z. tested 8 (fits z) z))) ≡ outcome (lowest true t4 t5 t6 t7 t8) d
ends t4 t5 t6 t7 t8 f rules r draws d fits p q u = grind arith

-- the windows, from the first source's on
drawn : {A B C P : Type 0} (t u v : Bool) (a : A) (b : B) (c : C) (plan : A → B → C → P)
    → onward (or_7 t a) (λ x. onward (or_7 u b) (λ y. onward (or_7 v c) (λ z. Ok (plan x y z)))) ≡ or_7 (t && (u && v)) (plan a b c)
drawn t u v a b c plan = grind arith

module _ (s : Settings) (size : ℕ) where
  -- how the tests of the operation with a code end, known or not
  abbrev ended : Bool → ℕ → Result Plan ℕ
  ended known n =
      outcome (lowest known (depths_taken s n) (start_fits s (first_kind n)) (level_fits s n) (all_limited s n) (inside (plan_for s n) size)) (plan_for s n)

  steps_end : (o : Operation) → plan_tested s size (code_of o) ≡ ended true (code_of o)
  steps_end o =
      let n = code_of o in
      let k = first_kind n in
      ends _ _ _ _ _ _ (λ f. rule_of s n f.first f.second) _ (plan_made s) _ (λ p. inside p size) (rule_meant s o)
      (λ e. rw (first_meant s k e, second_meant s n)
      (drawn (first_limited s k) (second_limited s (uses_second n)) _ _ _ _ (λ a b t. record { rule = rule_at s n; first = a; second = b; canvas = depth_at s.target.depth; target = t })))
      refl

  known : (o : Operation) (x : Option Operation) → ◌≡◌ {A = Result Operation Refusal} (Ok o) (ok_or x NoSuchOperation) → true ≡ is_some x
  known o x e = grind arith

  pub steps_are : (o : Operation) → Decodes s.operation (Ok o) → plan_tested s size (code_of o) ≡ outcome (grounds s size) (plan_at s)
  steps_are o d = steps_end o ∙ ap (ended true) d.code ∙ ap (λ b. ended b s.operation) (known o _ d.is)

-- what was accepted has passed its test
pub accepted : {A : Type 0} (b : Bool) (a x : A) → ◌≡◌ {A = Result A ℕ} (Ok x) (or_7 b a) → (b ≡ true) × (x ≡ a)
accepted b a x e = grind arith

pub cleared_none : {A : Type 0} (o : Option ℕ) (x y : A) → ◌≡◌ {A = Result A ℕ} (Ok x) (outcome o y) → (o ≡ None) × (x ≡ y)
cleared_none o x y e = grind arith

-- where no test fails, the last two pass
last_two : (t3 t4 t5 t6 t7 t8 : Bool) → lowest t3 t4 t5 t6 t7 t8 ≡ None → (t7 ≡ true) × (t8 ≡ true)
last_two t3 t4 t5 t6 t7 t8 e = grind arith

pub last_passed : (t3 t4 t5 t6 t7 t8 : Bool) → lowest t3 t4 t5 t6 t7 t8 ≡ None → t8 ≡ true
last_passed t3 t4 t5 t6 t7 t8 e = (last_two t3 t4 t5 t6 t7 t8 e).1

module _ (s : Settings) (size : ℕ) (none : grounds s size ≡ None) where
  last : (all_limited s s.operation ≡ true) × (inside (plan_at s) size ≡ true)
  last = search last_two

  pub limited_none : all_limited s s.operation ≡ true
  limited_none = last.0

  pub inside_none : inside (plan_at s) size ≡ true
  inside_none = last.1
