use Rattle.std.proofs.Common.{◌≡◌, ◌+◌, get_or, ◌∙◌, ⊎_elim, ap, refl, arith, rules}
use Rattle.std.proofs.lemmas.Bool.{cases_lt}
use Rattle.memory.specs.Spans.{merged}
use Rattle.layers.specs.Part.{part, part_length, put_under}
use Rattle.layers.proofs.Parts.{under_past}
use Rattle.layers.proofs.PartSpans.{none_under, one_more_part, one_more_under}
use Rattle.layers.proofs.stretch.Stretch.merge.Goals as goal
use Rattle.layers.proofs.stretch.Stretch.merge.Goals.{in-Some, in_default}

pub loop-i-init : goal.loop-i-init
unfolding merged
loop-i-init g c =
    let s = c.args.self.now in
    record { start = refl; length = refl; after = refl; under = none_under (g.M.Memory.bytes s.below) s.start s.length }

pub loop-i-preserved : goal.loop-i-preserved
loop-i-preserved g c =
    let bytes = g.M.Memory.bytes in
    let f = g.F.ByteRule.gives c.args.rule in
    let s = c.args.self.now in
    let l = bytes c.loop-i.self.below in
    let i = c.loop-i.i in
    let held = c.loop-i.invariant in
    let v = c.byte-byte.result in
    let same : part l c.loop-i.self.start c.loop-i.self.length ≡ part l s.start s.length =
    ap (λ n. part l n c.loop-i.self.length) held.start ∙ ap (part l s.start) held.length in
    let made : v ≡ f (get_or (part l s.start s.length) (c.args.first + i) 0) (get_or (part l s.start s.length) (c.args.second + i) 0) =
    c.byte-byte.ensures ∙ ap (λ x. f x c.byte_at-in-loop-i.result) c.byte_at.ensures
    ∙ ap (f (get_or (part l c.loop-i.self.start c.loop-i.self.length) (c.args.first + i) 0)) c.byte_at-in-loop-i.ensures
    ∙ ap (λ p. f (get_or p (c.args.first + i) 0) (get_or p (c.args.second + i) 0)) same in
    let put : bytes c.match-checked_add.self.below ≡ put_under l s.start s.length (c.args.to + i) v =
    elim c.match-checked_add.branch [
      | in-Some w ↦ search rules
      | in_default w ↦
          ap (λ x. bytes x.below) w.self-is
          ∙ under_past l s.start s.length (c.args.to + i) v
          (⊎_elim
          (λ less. absurd (w.in_default.ensures less))
          (λ far. omega (arith, part_length l s.start s.length, (g.M.Memory.sound c.loop-i.self.below).short))
          (cases_lt (c.args.to + i) 4294967296))
    ] in
    record {
      start = search rules;
      length = search rules;
      after = one_more_part f (bytes s.below) l _ s.start s.length c.args.first c.args.second c.args.to i v held.after held.under made put;
      under = one_more_under f (bytes s.below) l _ s.start s.length c.args.first c.args.second c.args.to i v held.after held.under made put;
    }
