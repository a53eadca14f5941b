use Rattle.std.proofs.Common.{◌≡◌, ◌%◌, ◌+◌, ◌-◌, set, take, [], length, sym, ap, ◌∙◌, mod-eq_of_lt, inl, inr, arith}
use Rattle.memory.specs.Spans.{span}
use Rattle.memory.proofs.Spans.{length_span}
use Rattle.layers.specs.Laid.{laid}
use Rattle.layers.proofs.Lays.{laid_none, length_laid}
use Rattle.layers.proofs.LaidSpans.{laid_more, span_set, span_out}
use Rattle.layers.proofs.queue.WriteQueueMemory.load.Goals as goal
use Rattle.layers.proofs.queue.WriteQueueMemory.load.Goals.{then-entry-address+then-entry-end, else-entry-address, else-entry-address-via-then-entry-address+else-entry-end, else-entry-address-via-else-entry-address}

pub loop-i-init : goal.loop-i-init
loop-i-init g c =
    let m = g.M.Memory.bytes c.args.self.now.below in
    let start = c.args.address in
    let n = length c.args.into.now in
    let long : length c.load.new.into ≡ n = ap length c.load.ensures ∙ length_span m start n in
    c.load.ensures ∙ ap (λ l. span l start n) (sym (laid_none m)) ∙ ap (span (laid m []) start) (sym long)

pub loop-i-preserved : goal.loop-i-preserved
loop-i-preserved g c =
    let q = c.args.self.now in
    let es = q.pending in
    let i = c.loop-i.i in
    let m = g.M.Memory.bytes q.below in
    let shown = laid m (take i es) in
    let start = c.args.address in
    let n = length c.load.new.into in
    let e = c.at-entry.result in
    let long = length_laid m es in
    let as_long = length_laid m (take i es) in
    let more : set shown e.address e.value ≡ laid m (take (i + 1) es) =
    ap (set shown e.address) (sym (mod-eq_of_lt (omega arith)))
    ∙ ap (λ x. set shown x.address (x.value % 256)) c.at-entry.ensures
    ∙ sym (laid_more m es i (omega arith)) in
    let laid_here : c.if-entry-address.into ≡ span (set shown e.address e.value) start n =
    elim c.if-entry-address.branch [
      | then-entry-address+then-entry-end w ↦
          w.into-is ∙ ap (λ l. set l (e.address - start) e.value) c.loop-i.invariant
          ∙ span_set shown start n e.address e.value (omega arith) (omega arith) (omega arith)
      | else-entry-address w ↦
          w.into-is ∙ c.loop-i.invariant
          ∙ span_out shown start n e.address e.value
          (elim w.else-entry-address.branch [
            | else-entry-address-via-then-entry-address+else-entry-end w' ↦ inr (omega arith)
            | else-entry-address-via-else-entry-address w' ↦ inl (omega arith)
          ])
    ] in
    laid_here ∙ ap (λ l. span l start n) more
