-- What the settings of a start mean.
use Rattle.std.specs.Prelude.{ℕ, Bool, cond, ◌==◌}
use Rattle.formats.specs.declared.Depth.{Depth}
use Rattle.formats.specs.declared.Depth.TheVariants.{Rgb332, Rgb565, Rgb888}
use Rattle.formats.specs.declared.OverlayKind.{OverlayKind}
use Rattle.formats.specs.declared.OverlayKind.TheVariants.{Index26, Argb4444}
use Rattle.formats.specs.Depths.{depth_format, depth_narrow}
use Rattle.formats.specs.OverlayKinds.{overlay_format}
use Rattle.rules.specs.declared.chosen.Rule.{Rule}
use Rattle.rules.specs.declared.chosen.Rule.TheVariants as rule
use Rattle.rules.specs.Chosen.{rule_yields}
use Rattle.window.specs.declared.area.Area.{Area}
use Rattle.window.specs.Places.{area_of}
use Rattle.source.specs.Rows.{Rows}
use Rattle.source.specs.Origins.{Origin, origin_of, unused, host, host_bits, image, pattern, bits}
use Rattle.engine.specs.declared.drawing.Drawing.{Drawing}
use Rattle.engine.specs.Painted.{Op}
use Rattle.job.specs.declared.operation.FirstKind.{FirstKind}
use Rattle.job.specs.declared.operation.FirstKind.TheVariants.{Nothing, HostPixels, Pixels, Pattern, HostBits, Bits}
use Rattle.job.specs.declared.settings.Settings.{Settings}
use Rattle.job.specs.declared.settings.Surface.{Surface}
use Rattle.job.specs.Operations.{first_kind, uses_second, blends, either, any}

-- depth 0 is 3:3:2, 1 is 5:6:5, 2 and 3 are 8:8:8
abbrev pub depth_at : ℕ → Depth
depth_at c = cond (c == 0) Rgb332 (cond (c == 1) Rgb565 Rgb888)

abbrev pub depth_bytes : ℕ → ℕ
depth_bytes c = (depth_format (depth_at c)).width

-- kinds 0 to 2 are the depths, 4 is Index 2:6, 5 is 4:4:4:4
abbrev pub overlay_at : ℕ → OverlayKind
overlay_at k = cond (k == 4) Index26 Argb4444

abbrev pub kind_bytes : ℕ → ℕ
kind_bytes k = cond (either 4 5 k) (overlay_format (overlay_at k)).width (depth_bytes k)

-- one-bit units have 8 bits at depth 0 and 16 at depth 1
abbrev pub unit_at : ℕ → ℕ
unit_at d = cond (d == 0) 8 16

-- a pattern's sides
abbrev pub side_of : Settings → ℕ
side_of s = cond s.large 16 8

-- a window on a surface
abbrev pub area_at : Surface → ℕ → ℕ → Area
area_at f w h = record { start = f.start; image = f.image; left = f.left; top = f.top; width = w; height = h }

abbrev pub rows_of_settings : Settings → Rows
rows_of_settings s = record { unit = unit_at s.first.depth; start = s.code; columns = s.width }

-- where the first source's values come from
abbrev pub first_at : Settings → FirstKind → Origin
first_at s Nothing = unused
first_at s HostPixels = host (depth_bytes s.first.depth)
first_at s Pixels = image (area_at s.first s.width s.height) (depth_bytes s.first.depth)
first_at s Pattern = pattern (area_at s.first (side_of s) (side_of s)) (depth_bytes s.first.depth) s.width
first_at s HostBits = host_bits (rows_of_settings s)
first_at s Bits = bits (rows_of_settings s) s.first.start

-- and the second source's
abbrev pub second_at : Settings → Bool → Origin
second_at s used = cond used (image (area_at s.second s.width s.height) (kind_bytes s.second.depth)) unused

-- a blend takes its level from the register, or from the overlay's pixels
abbrev pub blend_at : Settings → Rule
blend_at s =
    cond (either 4 5 s.second.depth)
    (rule.OverlayBlend (record { first = depth_at s.first.depth; second = overlay_at s.second.depth }))
    (rule.Blend (record { level = s.level; first = depth_at s.first.depth; second = depth_at s.second.depth }))

-- the pixel rule of the operation with a code
abbrev pub rule_at : Settings → ℕ → Rule
rule_at s n =
    cond (any 0 2 6 n) (rule.Raster (record { rule = s.code; first = depth_at s.first.depth; second = depth_at s.second.depth }))
    (cond (any 4 5 7 n) (rule.Key (record { background = s.background; first = depth_at s.first.depth }))
    (cond (either 8 14 n) (rule.Expand (record { foreground = s.foreground; background = s.background }))
    (cond (either 9 15 n) (rule.ExpandOver (record { foreground = s.foreground }))
    (cond (blends n) (blend_at s) (rule.Fill (record { foreground = s.foreground }))))))

-- what is drawn, as plain values
pub record Plan : Type 0 where
  pub rule : Rule
  pub first : Origin
  pub second : Origin
  pub canvas : Depth
  pub target : Area

abbrev pub plan_of : Drawing Rule Depth → Plan
plan_of d = record { rule = d.rule; first = origin_of d.first; second = origin_of d.second; canvas = d.canvas; target = area_of d.target }

-- what the operation with a code draws under the settings
abbrev pub plan_for : Settings → ℕ → Plan
plan_for s n = record {
  rule = rule_at s n;
  first = first_at s (first_kind n);
  second = second_at s (uses_second n);
  canvas = depth_at s.target.depth;
  target = area_at s.target s.width s.height;
}

abbrev pub plan_at : Settings → Plan
plan_at s = plan_for s s.operation

-- the operation that the engine draws
abbrev pub op_at : Plan → Op
op_at p = record {
  yields = rule_yields p.rule;
  first = p.first;
  second = p.second;
  format = depth_format p.canvas;
  narrow = depth_narrow p.canvas;
  target = p.target;
}
