-- An operation by what a host writes into a new panel before it starts it.
use Rattle.std.specs.Prelude.{ℕ, Bool, cond, not, ◌&&◌, List, replicate, ◌==◌, slice_set, fold}
use Rattle.colour.specs.declared.Palette.{Palette}
use Rattle.palette_load.specs.Loads.{loading, loaded_by}
use Rattle.complete.specs.declared.part.Part.{Part}
use Rattle.complete.specs.Complete.{Way}
use Rattle.job.specs.declared.settings.Settings.{Settings}
use Rattle.panel.specs.Registers.{exists, settings_of}
use Rattle.panel.specs.State.{State, new_load}
use Rattle.complete_jobs.specs.Ways.{way_of}
use Rattle.complete_panels.specs.declared.operation.RegisterWrite.{RegisterWrite}
use Rattle.complete_panels.specs.declared.operation.PanelOperation.{PanelOperation}

-- a register of the settings: one that exists, and neither loads the palette nor starts
abbrev pub is_setting : ℕ → Bool
is_setting r = exists r && (not (r == 0x03) && not (r == 0x90))

-- the registers after writes, of which only those of settings are made
abbrev pub register_set : List ℕ → RegisterWrite → List ℕ
register_set regs w = cond (is_setting w.register) (slice_set regs w.register w.value) regs

abbrev pub registers_set : List ℕ → List RegisterWrite → List ℕ
registers_set regs ws = fold register_set regs ws

-- what starts an operation, with patterns of 8 × 8 or 16 × 16
abbrev pub control_value : Bool → ℕ
control_value large = cond large 0x11 0x10

-- the palette of a new panel after these bytes
abbrev pub palette_from : List ℕ → Palette
palette_from xs = (loaded_by (loading (record { entries = replicate 64 0 }) new_load) xs).palette

-- the registers of a new panel after a palette load and the writes; the load is itself written to 03h
abbrev pub registers_from : List RegisterWrite → List ℕ
registers_from ws = registers_set (slice_set (replicate 256 0) 0x03 0x03) ws

abbrev pub settings_from : PanelOperation → Settings
settings_from o = settings_of (registers_from o.writes.now) (control_value o.large)

abbrev pub panel_way : PanelOperation → Way
panel_way o = way_of (settings_from o) (palette_from o.palette.now) o.parts.now

-- the way of an operation that is started on a panel as it is
abbrev pub way_on : State → Bool → List Part → Way
way_on s large ps = way_of (settings_of s.registers (control_value large)) s.palette ps
