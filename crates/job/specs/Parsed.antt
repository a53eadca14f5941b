-- The formats that the codes of a start mean.
use Rattle.std.specs.Prelude.{ℕ, Bool, cond, Some, None, Ok, Err, Option, Result, ◌==◌, nat_le}
use Rattle.formats.specs.declared.Depth.{Depth}
use Rattle.formats.specs.Depths.{depth_format}
use Rattle.formats.specs.OverlayKinds.{overlay_format}
use Rattle.rules.specs.declared.chosen.Rule.{Rule}
use Rattle.rules.specs.declared.chosen.Rule.TheVariants as rule
use Rattle.source.specs.declared.rows.Unit.{Unit}
use Rattle.source.specs.declared.rows.Unit.TheVariants.{Eight, Sixteen}
use Rattle.source.specs.Units.{unit_bits}
use Rattle.source.specs.Rows.{Rows, rows_at}
use Rattle.source.specs.Origins.{Origin, unused, host, host_bits, image, pattern, bits}
use Rattle.job.specs.declared.operation.FirstKind.{FirstKind}
use Rattle.job.specs.declared.operation.FirstKind.TheVariants as kind
use Rattle.job.specs.declared.parsed.BitFormat.{BitFormat}
use Rattle.job.specs.declared.parsed.FirstFormat.{FirstFormat}
use Rattle.job.specs.declared.parsed.FirstFormat.TheVariants as first
use Rattle.job.specs.declared.parsed.SecondFormat.{SecondFormat}
use Rattle.job.specs.declared.parsed.SecondFormat.TheVariants as second
use Rattle.job.specs.declared.parsed.Formats.{Formats}
use Rattle.job.specs.declared.settings.Settings.{Settings}
use Rattle.job.specs.Operations.{first_kind, uses_second, blends, either}
use Rattle.job.specs.Plans.{depth_at, overlay_at, side_of, area_at, Plan}
use Rattle.job.specs.Grounds.{depth_taken, depths_taken, start_fits, limited, tested, or_7, inside}

-- one-bit units have 8 bits at depth 0 and 16 at depth 1
abbrev pub bit_unit_at : ℕ → Unit
bit_unit_at d = cond (d == 0) Eight Sixteen

abbrev pub bits_at : Settings → BitFormat
bits_at s = record { unit = bit_unit_at s.first.depth; start_bit = s.code }

abbrev pub first_format_at : Settings → FirstKind → FirstFormat
first_format_at s kind.Nothing = first.Nothing
first_format_at s kind.HostPixels = first.HostPixels (depth_at s.first.depth)
first_format_at s kind.Pixels = first.Pixels (depth_at s.first.depth)
first_format_at s kind.Pattern = first.Pattern (depth_at s.first.depth)
first_format_at s kind.HostBits = first.HostBits (bits_at s)
first_format_at s kind.Bits = first.Bits (bits_at s)

abbrev pub kind_format : ℕ → SecondFormat
kind_format k = cond (either 4 5 k) (second.Overlay (overlay_at k)) (second.Pixels (depth_at k))

-- a second source has a format where the operation uses it
abbrev pub second_format_at : Settings → ℕ → Option SecondFormat
second_format_at s n = cond (uses_second n) (Some (kind_format s.second.depth)) None

abbrev pub formats_at : Settings → ℕ → Formats
formats_at s n = record { first = first_format_at s (first_kind n); second = second_format_at s n; canvas = depth_at s.target.depth }

-- what passes the fourth test and then the fifth, or the number of the one that fails
abbrev pub past_fifth : {A : Type 0} → Bool → Bool → A → Result A ℕ
past_fifth t4 t5 x = cond t4 (cond t5 (Ok x) (Err 5)) (Err 4)

abbrev pub first_parsed : {A : Type 0} → Settings → FirstKind → A → Result A ℕ
first_parsed s k x = past_fifth (depth_taken k s.first.depth) (start_fits s k) x

abbrev pub parsed : Settings → ℕ → Result Formats ℕ
parsed s n = past_fifth (depths_taken s n) (start_fits s (first_kind n)) (formats_at s n)

-- the bytes of a second source's pixel
abbrev pub format_bytes : SecondFormat → ℕ
format_bytes (second.Pixels d) = (depth_format d).width
format_bytes (second.Overlay k) = (overlay_format k).width

-- bits are expanded, at 9 and 15 over what is there
abbrev pub expansion_of : Settings → ℕ → Rule
expansion_of s n =
    cond (either 9 15 n) (rule.ExpandOver (record { foreground = s.foreground }))
    (rule.Expand (record { foreground = s.foreground; background = s.background }))

-- 6: a blend by the level register
abbrev pub level_blend : Settings → Depth → Depth → Result Rule ℕ
level_blend s f g = tested 6 (nat_le s.level 32) (rule.Blend (record { level = s.level; first = f; second = g }))

-- pixels alone are keyed; with an overlay they are blended, and with other pixels blended or combined by a raster rule
abbrev pub pixel_rule_of : Settings → ℕ → Depth → Option SecondFormat → Result Rule ℕ
pixel_rule_of s n f None = Ok (rule.Key (record { background = s.background; first = f }))
pixel_rule_of s n f (Some (second.Overlay k)) = Ok (rule.OverlayBlend (record { first = f; second = k }))
pixel_rule_of s n f (Some (second.Pixels g)) =
    cond (blends n) (level_blend s f g) (Ok (rule.Raster (record { rule = s.code; first = f; second = g })))

-- the rule of the operation with a code on sources of these formats
abbrev pub rule_of : Settings → ℕ → FirstFormat → Option SecondFormat → Result Rule ℕ
rule_of s n first.Nothing g = Ok (rule.Fill (record { foreground = s.foreground }))
rule_of s n (first.HostPixels f) g = pixel_rule_of s n f g
rule_of s n (first.Pixels f) g = pixel_rule_of s n f g
rule_of s n (first.Pattern f) g = pixel_rule_of s n f g
rule_of s n (first.HostBits _) g = Ok (expansion_of s n)
rule_of s n (first.Bits _) g = Ok (expansion_of s n)

-- rows of bits as wide as the rectangle
abbrev pub bit_rows : Settings → BitFormat → Rows
bit_rows s b = record { unit = unit_bits b.unit; start = b.start_bit; columns = s.width }

-- an answer that is not declined goes on
abbrev pub onward : {A B : Type 0} → Result A ℕ → (A → Result B ℕ) → Result B ℕ
onward (Ok x) f = f x
onward (Err n) f = Err n

-- the first source of a format, within the limits
abbrev pub first_made : Settings → FirstFormat → Result Origin ℕ
first_made s first.Nothing = Ok unused
first_made s (first.HostPixels d) = Ok (host (depth_format d).width)
first_made s (first.Pixels d) =
    let a = area_at s.first s.width s.height in or_7 (limited a) (image a (depth_format d).width)
first_made s (first.Pattern d) =
    let a = area_at s.first (side_of s) (side_of s) in or_7 (limited a) (pattern a (depth_format d).width s.width)
first_made s (first.HostBits b) = onward (rows_at (bit_rows s b)) (λ r. Ok (host_bits r))
first_made s (first.Bits b) = onward (rows_at (bit_rows s b)) (λ r. Ok (bits r s.first.start))

-- and the second
abbrev pub second_made : Settings → Option SecondFormat → Result Origin ℕ
second_made s None = Ok unused
second_made s (Some f) =
    let a = area_at s.second s.width s.height in or_7 (limited a) (image a (format_bytes f))

-- what a rule draws with images of these formats, within the limits: first, second and target
abbrev pub plan_made : Settings → Formats → Rule → Result Plan ℕ
plan_made s f r =
    let area = area_at s.target s.width s.height in
    onward (first_made s f.first) (λ a.
    onward (second_made s f.second) (λ b.
    onward (or_7 (limited area) area) (λ t. Ok (record { rule = r; first = a; second = b; canvas = f.canvas; target = t }))))

-- what the operation with a code draws, tested from its formats to its place in a memory of some size
abbrev pub plan_tested : Settings → ℕ → ℕ → Result Plan ℕ
plan_tested s size n =
    onward (parsed s n) (λ f.
    onward (rule_of s n f.first f.second) (λ r.
    onward (plan_made s f r) (λ p. tested 8 (inside p size) p)))
