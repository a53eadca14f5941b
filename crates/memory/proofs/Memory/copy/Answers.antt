use Rattle.std.proofs.Common.{◌≡◌, ◌+◌, set, get_or, ◌∙◌, ap, refl, arith}
use Rattle.std.proofs.lemmas.Grind.{common_steps}
use Rattle.memory.specs.Spans.{merged}
use Rattle.memory.proofs.Spans.{merged_more}
use Rattle.memory.proofs.Memory.copy.Goals as goal

pub loop-i-init : goal.loop-i-init
unfolding merged
loop-i-init g c = refl

pub loop-i-preserved : goal.loop-i-preserved
loop-i-preserved g c =
    let bytes = g.Self.Memory.bytes in
    let m = bytes c.loop-i.self in
    let byte : c.map_or-byte.result ≡ get_or m (c.args.from + c.loop-i.i) 0 = grind (arith, common_steps) in
    let put : bytes c.match-checked_add.self ≡ set m (c.args.to + c.loop-i.i) c.map_or-byte.result = grind (arith, common_steps) in
    put
    ∙ ap (set m (c.args.to + c.loop-i.i)) byte
    ∙ ap (λ l. set l (c.args.to + c.loop-i.i) (get_or l (c.args.from + c.loop-i.i) 0)) c.loop-i.invariant
    ∙ merged_more (λ x _. x) (bytes c.args.self.now) c.args.from c.args.from c.args.to c.loop-i.i
