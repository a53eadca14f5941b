use Rattle.std.proofs.Common.{refl}
use Rattle.complete.specs.Undo.{IsExclusiveOr, exclusive_or_of}
use Rattle.complete.proofs.Undoing.{drawing_op, restores, drawn_as}
use Rattle.complete.proofs.exclusive_or.exclusive_or_twice.Goals as goal

pub returns : goal.returns
returns g c =
    let f = g.F.Readable.format in
    let d = g.D.Readable.format in
    let narrow = g.D.Canvas.narrowed in
    let w = c.args.operation.now in
    let o = exclusive_or_of f d narrow w in
    let x : IsExclusiveOr o = record {
      first_format = f w.format;
      yields_is = λ p s t. refl;
      second_is = refl;
      narrows = g.met.D.Canvas.keeps w.canvas;
    } in
    let a = c.drawing.ensures in
    let b = c.drawing-2.ensures in
    let both = c.twice.ensures in
    let e = drawing_op f d narrow w c.drawing.result a.rule a.canvas a.first a.second a.target in
    let e' = drawing_op f d narrow w c.drawing-2.result b.rule b.canvas b.first b.second b.target in
    let ps = c.args.parts.now in
    let qs = c.args.again.now in
    let all = restores o _ _ c.args.palette.now ps qs _ _ _ x e e' both.drawn.leaves both.drawn.ends both.undone in
    record { drawn = drawn_as o _ _ c.args.palette.now ps qs _ _ _ e e' both.drawn; restored = all.restored }
