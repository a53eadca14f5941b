-- The register file.
use Rattle.std.specs.Prelude.{◌≡◌, ℕ, ◌+◌, ◌*◌, ◌/◌, ◌%◌, Bool, cond, ◌&&◌, ◌||◌, List, Ok, Err, Result, ◌==◌, nat_le, slice_index}
use Rattle.refusal.specs.declared.Refusal.{Refusal}
use Rattle.refusal.specs.declared.Refusal.TheVariants.{NoSuchRegister}
use Rattle.colour.specs.declared.Colour.{Colour}
use Rattle.colour.specs.Channels.{rgb}
use Rattle.job.specs.declared.settings.Settings.{Settings}
use Rattle.job.specs.declared.settings.Surface.{Surface}
use Rattle.panel.specs.declared.register.Register.{Register}

-- 03h, 90h to B5h and D2h to D7h
abbrev pub exists : ℕ → Bool
exists r = r == 0x03 || ((nat_le 0x90 r && nat_le r 0xB5) || (nat_le 0xD2 r && nat_le r 0xD7))

-- the register with a number, if there is one
abbrev pub FindsRegister : ℕ → Result Register Refusal → Type 0
FindsRegister n r = r ≡ cond (exists n) (Ok (record { number = n })) (Err NoSuchRegister)

-- a number of two bytes, low byte first
abbrev pub two : List ℕ → ℕ → ℕ
two regs r = slice_index regs r + 256 * slice_index regs (r + 1)

-- a number of four bytes, low byte first
abbrev pub four : List ℕ → ℕ → ℕ
four regs r = two regs r + 65536 * two regs (r + 2)

-- a source or the destination: start address, image width, left and top
abbrev pub surface_at : List ℕ → ℕ → ℕ → Surface
surface_at regs depth r = record { depth = depth; start = four regs r; image = two regs (r + 4); left = two regs (r + 6); top = two regs (r + 8) }

abbrev pub colour_at : List ℕ → ℕ → Colour
colour_at regs r = rgb (slice_index regs r) (slice_index regs (r + 1)) (slice_index regs (r + 2))

-- what the registers set for an operation that a write of 90h starts
abbrev pub settings_of : List ℕ → ℕ → Settings
settings_of regs control = record {
  operation = slice_index regs 0x91 % 16;
  code = slice_index regs 0x91 / 16;
  large = (control % 2 == 1);
  level = slice_index regs 0xB5 % 64;
  first = surface_at regs (slice_index regs 0x92 / 32 % 4) 0x93;
  second = surface_at regs (slice_index regs 0x92 / 4 % 8) 0x9D;
  target = surface_at regs (slice_index regs 0x92 % 4) 0xA7;
  width = two regs 0xB1;
  height = two regs 0xB3;
  foreground = colour_at regs 0xD2;
  background = colour_at regs 0xD5;
}
