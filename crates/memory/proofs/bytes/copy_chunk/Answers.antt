use Rattle.std.proofs.Common.{◌+◌, ◌-◌, ◌≡◌, length, take, drop, ap, ◌∙◌, length-take, length-drop, arith}
use Rattle.std.proofs.lemmas.Slice.{put_mid-paste}
use Rattle.memory.proofs.Pastes.{paste_copied}
use Rattle.memory.proofs.bytes.copy_chunk.Goals as goal

pub returns : goal.returns
returns c =
    let m = c.args.memory.now in
    let a = c.args.from in
    let t = c.args.to in
    let chunk = c.copy_from_slice.new.self in
    let width : a + 64 - a ≡ 64 = omega arith in
    let is : chunk ≡ take 64 (drop a m) = c.copy_from_slice.ensures.after ∙ ap (λ n. take n (drop a m)) width in
    let long : length chunk ≡ 64 = omega (arith, ap length is, length-take 64 (drop a m), length-drop a m) in
    put_mid-paste t (t + 64 - t) m c.copy_from_slice-2.new.self chunk 64 c.copy_from_slice-2.ensures.after (omega arith) (omega arith)
    ∙ paste_copied m chunk a t 64 c.requires.read_first c.requires.from c.requires.to is
