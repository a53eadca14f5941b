use Rattle.std.proofs.Common.{◌+◌, ◌-◌, arith}
use Rattle.window.proofs.Values.{value_none, value_small, value_again}
use Rattle.window.proofs.window.Window.value.Goals as goal

pub loop-done-init : goal.loop-done-init
loop-done-init g c = value_none (g.M.Memory.bytes c.args.memory.now) _

pub overflow_mul-value : goal.overflow_mul-value
overflow_mul-value g c =
    let m = c.args.memory.now in
    record { fits = omega (arith, value_small (g.M.Memory.bytes m) (g.M.Memory.sound m) (c.address-from.result + (c.args.size.bytes - c.loop-done.done)) c.loop-done.done (omega (arith, c.args.size.few))) }

pub overflow_add-value : goal.overflow_add-value
overflow_add-value g c =
    let m = c.args.memory.now in
    record { fits = omega (arith, value_small (g.M.Memory.bytes m) (g.M.Memory.sound m) (c.address-from.result + (c.args.size.bytes - c.loop-done.done)) c.loop-done.done (omega (arith, c.args.size.few))) }

pub loop-done-preserved : goal.loop-done-preserved
loop-done-preserved g c =
    value_again (g.M.Memory.bytes c.args.memory.now) c.address-from.result c.args.size.bytes c.loop-done.done c.loop-done.value c.byte_at.result c.loop-done-test.true c.loop-done.invariant c.byte_at.ensures
