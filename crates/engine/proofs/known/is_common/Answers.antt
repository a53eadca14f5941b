use Rattle.std.proofs.Common.{sym, subst}
use Rattle.std.proofs.lemmas.Bool.{eqb-true}
use Rattle.engine.specs.Strips.{Common, of_332, of_565, of_888, rgb332, rgb565, rgb888}
use Rattle.engine.proofs.Buffers.{same_fields}
use Rattle.engine.proofs.known.is_common.Goals as goal

pub returns-in-Three-Three-Two : goal.returns-in-Three-Three-Two
returns-in-Three-Three-Two c e =
    let at = c.in-Three-Three-Two in
    let fields = same_fields c.args.fields rgb332 at.is-0 at.is-1 at.is-2 in
    subst (Common c.args.fields) (sym (eqb-true c.args.width 1 e)) (subst (λ f. Common f 1) (sym fields) of_332)

pub returns-in-Five-Six-Five : goal.returns-in-Five-Six-Five
returns-in-Five-Six-Five c e =
    let at = c.in-Five-Six-Five in
    let fields = same_fields c.args.fields rgb565 at.is-0 at.is-1 at.is-2 in
    subst (Common c.args.fields) (sym (eqb-true c.args.width 2 e)) (subst (λ f. Common f 2) (sym fields) of_565)

pub returns-in-Eight-Eight-Eight : goal.returns-in-Eight-Eight-Eight
returns-in-Eight-Eight-Eight c e =
    let at = c.in-Eight-Eight-Eight in
    let fields = same_fields c.args.fields rgb888 at.is-0 at.is-1 at.is-2 in
    subst (Common c.args.fields) (sym (eqb-true c.args.width 3 e)) (subst (λ f. Common f 3) (sym fields) of_888)
