use Rattle.std.proofs.Common.{◌+◌, ◌-◌, take, ◌∙◌, length-take, arith}
use Rattle.std.proofs.lemmas.Slice.{put_mid-paste}
use Rattle.memory.proofs.Pastes.{paste_overlaid}
use Rattle.memory.proofs.bytes.store.Goals as goal

pub returns : goal.returns
returns c =
    let m = c.args.memory.now in
    let xs = c.args.from.now in
    let s = c.min-start.result in
    let n = c.min-inside.result in
    let long = length-take n xs in
    put_mid-paste s (s + n - s) m c.copy_from_slice.new.self (take n xs) n c.copy_from_slice.ensures.after (omega arith) (omega arith)
    ∙ paste_overlaid m xs c.args.start s n c.min-start.ensures c.min-inside.ensures
