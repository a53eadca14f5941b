use Rattle.std.proofs.Common.{◌≡◌, ap, ◌∙◌, subst}
use Rattle.complete.specs.Complete.{DrawnBy}
use Rattle.panel.specs.State.{State, seen}
use Rattle.complete_panels.specs.Settings.{registers_from, palette_from, way_on}
use Rattle.complete_panels.specs.Plays.{palette_loaded, all_set}
use Rattle.complete_panels.proofs.Setting.{at_rest, prepared}
use Rattle.complete_panels.proofs.plays.PanelOperationCompleteOperation.draw.Goals as goal

-- the panel is idle, with what the writes and the palette made of a new one
pub returns : goal.returns
returns g c =
    let b = g.M.Memory.bytes in
    let self = c.args.self.now in
    let m = b c.args.memory in
    let ready : seen b c.set_registers.new.panel ≡ at_rest m (palette_from self.palette.now) (registers_from self.writes.now) =
    c.set_registers.ensures
    ∙ ap (λ t. all_set t self.writes.now) (c.load_palette.ensures ∙ ap (λ t. palette_loaded t self.palette.now) c.new-panel.ensures)
    ∙ prepared m self.palette.now self.writes.now in
    let Drawn : State → Type 0 = λ t. DrawnBy (way_on t self.large self.parts.now) t.memory (b c.draw_on-complete.new.panel.memory) c.draw_on-complete.result in
    rw c.into_memory.ensures (subst Drawn ready (c.draw_on-complete.ensures.drawn (ap (λ t. t.doing) ready)))
