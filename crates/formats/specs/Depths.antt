-- The depths of a canvas: which format each one is.
use Rattle.std.specs.Prelude.{ℕ, ◌+◌}
use Rattle.colour.specs.declared.Colour.{Colour}
use Rattle.colour.specs.Packing.{ShowsFields, HoldsFields}
use Rattle.colour.specs.Formats.{Format}
use Rattle.formats.specs.Packed.{format332, narrow332, format565, narrow565, format888, narrow888}
use Rattle.formats.specs.declared.Depth.{Depth}
use Rattle.formats.specs.declared.Depth.TheVariants.{Rgb332, Rgb565, Rgb888}

abbrev pub depth_format : Depth → Format
depth_format Rgb332 = format332
depth_format Rgb565 = format565
depth_format Rgb888 = format888

abbrev pub depth_narrow : Depth → Colour → ℕ
depth_narrow Rgb332 = narrow332
depth_narrow Rgb565 = narrow565
depth_narrow Rgb888 = narrow888

-- the bits of all fields of a value
abbrev pub depth_bits : Depth → ℕ
depth_bits Rgb332 = 3 + 3 + 2
depth_bits Rgb565 = 5 + 6 + 5
depth_bits Rgb888 = 8 + 8 + 8

-- red stands highest and blue lowest, in 3, 3 and 2 bits, in 5, 6 and 5, or in 8 each: a value shows the colour of its fields ..
abbrev pub DepthShows : Depth → ℕ → Colour → Type 0
DepthShows Rgb332 = ShowsFields 3 3 2
DepthShows Rgb565 = ShowsFields 5 6 5
DepthShows Rgb888 = ShowsFields 8 8 8

-- .. and a colour narrows to the value that holds its fields
abbrev pub DepthHolds : Depth → Colour → ℕ → Type 0
DepthHolds Rgb332 = HoldsFields 3 3 2
DepthHolds Rgb565 = HoldsFields 5 6 5
DepthHolds Rgb888 = HoldsFields 8 8 8
