-- The worked examples: every definition that they are about, at any inputs, and at the inputs of the data sheet.
use Rattle.std.specs.Prelude.{◌≡◌, ℕ, ◌%◌, Ok, Err, Result}
use Rattle.colour.specs.Widths.{widened}
use Rattle.colour.specs.Entries.{entry_of_bytes}
use Rattle.formats.specs.Packed.{narrow332, colour565, narrow565}
use Rattle.formats.specs.Overlays.{index_entry, level26}
use Rattle.pixel.specs.Rasters.{raster_channel}
use Rattle.pixel.specs.Blends.{blend_channel}
use Rattle.source.specs.Units.{unit_bits}
use Rattle.source.specs.Rows.{Rows, row_units, rows_at}
use Rattle.source.specs.declared.rows.Unit.TheVariants.{Eight, Sixteen}
use Rattle.worked.specs.declared.inputs.BitRow.{BitRow}
use Rattle.worked.specs.declared.inputs.Inputs.{Inputs}
use Rattle.worked.specs.declared.answers.Worked.{Worked}

-- the units of rows that can be; 0 otherwise
abbrev pub counted : Result Rows ℕ → ℕ
counted (Ok r) = row_units r
counted (Err _) = 0

abbrev pub units_of : BitRow → ℕ
units_of r =
    counted (rows_at (record { unit = unit_bits r.unit; start = r.start_bit; columns = r.columns }))

-- what each definition says of its inputs
abbrev pub examples : Inputs → Worked
examples i = record {
  channel = widened 3 (i.field % 8);
  colour = colour565 i.value;
  in_565 = narrow565 i.colour;
  in_332 = narrow332 i.colour;
  entry = entry_of_bytes i.low i.high;
  level = level26 i.index;
  entry_number = index_entry i.index;
  first_raster = raster_channel i.first_rule i.first_channel i.second_channel;
  second_raster = raster_channel i.second_rule i.first_channel i.second_channel;
  third_raster = raster_channel i.third_rule i.first_channel i.second_channel;
  first_blend = blend_channel i.first_blend.level i.first_blend.first i.first_blend.second;
  second_blend = blend_channel i.second_blend.level i.second_blend.first i.second_blend.second;
  first_units = units_of i.first_row;
  second_units = units_of i.second_row;
}

-- the inputs of the data sheet
abbrev pub sheet_inputs : Inputs
sheet_inputs = record {
  field = 5;
  value = 0xF81F;
  colour = record { red = 255; green = 128; blue = 64 };
  low = 0x34;
  high = 0xF2;
  index = 0x9F;
  first_rule = 2;
  second_rule = 9;
  third_rule = 11;
  first_channel = 0x0F;
  second_channel = 0x3C;
  first_blend = record { level = 16; first = 200; second = 101 };
  second_blend = record { level = 31; first = 255; second = 0 };
  first_row = record { unit = Eight; start_bit = 7; columns = 50 };
  second_row = record { unit = Sixteen; start_bit = 0; columns = 50 };
}

-- the numbers of the data sheet are what the definitions say of these inputs
pub record SheetNumbers : Type 0 where
  pub is : examples sheet_inputs ≡ record {
    channel = 182;
    colour = record { red = 255; green = 0; blue = 255 };
    in_565 = 0xFC08;
    in_332 = 0xF1;
    entry = 0x234;
    level = 21;
    entry_number = 31;
    first_raster = 0x30;
    second_raster = 0xCC;
    third_raster = 0xFC;
    first_blend = 150;
    second_blend = 247;
    first_units = 7;
    second_units = 5;
  }
