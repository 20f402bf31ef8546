use Rattle.std.proofs.Common.{◌≡◌, ◌+◌, ◌++◌, ◌∷◌, [], ap, arith, length, refl}
use Rattle.std.proofs.lemmas.List.{length-append}
use Rattle.vx_group.proofs.GroupLaws.{IsGroup-one_scope, IsGroup-path_known}
use Rattle.vx_objects.proofs.MakingRows.{no-part-gives, reference-gives}
use Rattle.vx_objects.proofs.making.pushed_part.Goals as goal

pub is_never-requires : goal.is_never-requires
is_never-requires g c = rw c.path-path.ensures (IsGroup-path_known _ c.args.group c.requires.group)

pub returns-then-is_never : goal.returns-then-is_never
returns-then-is_never g c = λ heap held. no-part-gives c.args.site.now (g.met.S.Space.lawful c.args.space.now) c.args.group c.args.reference c.path-path.result c.new.result.items.items c.path-path.ensures (c.is_never.ensures.0 c.if-is_never.true) c.new.ensures heap

pub one-requires : goal.one-requires
one-requires g c = rw c.path-path.ensures (IsGroup-path_known _ c.args.group c.requires.group)

pub put_top-requires-clause-scope : goal.put_top-requires-clause-scope
put_top-requires-clause-scope g c = rw c.take_top-below.ensures (IsGroup-one_scope _ c.args.group c.requires.group)

pub put_top-requires-clause-operands : goal.put_top-requires-clause-operands
put_top-requires-clause-operands g c =
    let longer : length c.push.new.self.conds ≡ length (c.args.group.top.stack.conds ++ c.in_ok-value.value ∷ []) = ap (λ r. length r.conds) (rw c.take_top-below.ensures at c.in_ok-push.ensures.ok) in
    omega (arith, longer, length-append c.args.group.top.stack.conds (c.in_ok-value.value ∷ []), c.requires.few)

pub returns : goal.returns
returns g c = λ heap held.
    let group = c.args.group in
    let after : c.put_top.result ≡ record group { top = record (group.top) { position = group.top.position + c.args.site.now.size; stack = record (group.top.stack) { conds = group.top.stack.conds ++ c.in_ok-value.value ∷ [] } } } = rw (c.put_top.ensures, c.in_ok-push.ensures.ok, c.take_top-below.ensures) refl in
    reference-gives c.args.site.now _ group c.put_top.result c.in_ok-value.value c.args.reference c.path-path.result _ heap c.requires.group c.path-path.ensures c.in_ok-value.ensures.scope c.in_ok-value.ensures.ok held after c.in_ok-outcomes.ensures.one
