use Rattle.std.proofs.Common.{◌≡◌, ◌++◌, ◌∷◌, [], ap, arith, length, refl}
use Rattle.std.proofs.lemmas.List.{length-append}
use Rattle.vx_returns.proofs.receiving.with_value.Goals as goal

pub put_top-requires-clause-scope : goal.put_top-requires-clause-scope
put_top-requires-clause-scope g c = rw c.take_top-below.ensures c.requires.scope

pub put_top-requires-clause-operands : goal.put_top-requires-clause-operands
put_top-requires-clause-operands g c =
    let longer : length c.push.new.self.conds ≡ length (c.args.group.top.stack.conds ++ c.args.value ∷ []) = ap (λ r. length r.conds) (rw c.take_top-below.ensures at c.in_ok-push.ensures.ok) in
    omega (arith, longer, length-append c.args.group.top.stack.conds (c.args.value ∷ []), c.requires.few)

pub returns : goal.returns
returns g c = rw (c.put_top.ensures, c.in_ok-push.ensures.ok, c.take_top-below.ensures) refl
