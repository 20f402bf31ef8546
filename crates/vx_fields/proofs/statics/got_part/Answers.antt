use Rattle.std.proofs.Common.{◌≡◌, ◌+◌, ◌++◌, ◌∷◌, [], ap, arith, length, refl}
use Rattle.std.proofs.lemmas.List.{length-append}
use Rattle.vx_group.proofs.GroupLaws.{IsGroup-one_scope, IsGroup-path_known}
use Rattle.vx_java.specs.Machine.{State, Top, go}
use Rattle.vx_list.specs.Places.{item_or}
use Rattle.vx_group_states.specs.Sites.{here}
use Rattle.vx_fields.proofs.Moving.{got-gives}
use Rattle.vx_ready.proofs.Splitting.{none-gives}
use Rattle.vx_fields.proofs.statics.got_part.Goals as goal

pub is_never-requires : goal.is_never-requires
is_never-requires g c = rw c.path-path.ensures (IsGroup-path_known _ c.args.group c.requires.group)

pub returns-then-is_never-clause-gives : goal.returns-then-is_never-clause-gives
returns-then-is_never-clause-gives g c = none-gives c.args.site.now.program.now (g.met.S.Space.lawful c.args.space.now) (λ (s : State). go (here c.args.site.now s) (item_or s.statics c.args.field.0 Top ∷ s.top.operands)) c.args.group c.path-path.result c.new.result.items.items c.path-path.ensures (c.is_never.ensures.0 c.if-is_never.true) c.new.ensures c.args.heap.now

pub read_static-requires-clause-known : goal.read_static-requires-clause-known
read_static-requires-clause-known g c = rw c.path-path.ensures (IsGroup-path_known _ c.args.group c.requires.group)

pub read_static-requires-clause-inside : goal.read_static-requires-clause-inside
read_static-requires-clause-inside g c = rw c.path-path.ensures c.requires.runs

pub put_top-requires-clause-scope : goal.put_top-requires-clause-scope
put_top-requires-clause-scope g c = rw c.take_top-below.ensures (IsGroup-one_scope _ c.args.group c.requires.group)

pub put_top-requires-clause-operands : goal.put_top-requires-clause-operands
put_top-requires-clause-operands g c =
    let longer : length c.push.new.self.conds ≡ length (c.args.group.top.stack.conds ++ c.in_ok-value.value ∷ []) = ap (λ r. length r.conds) (rw c.take_top-below.ensures at c.in_ok-push.ensures.ok) in
    omega (arith, longer, length-append c.args.group.top.stack.conds (c.in_ok-value.value ∷ []), c.requires.few)

pub returns-clause-gives : goal.returns-clause-gives
returns-clause-gives g c =
    let group = c.args.group in
    let after : c.put_top.result ≡ record group { top = record (group.top) { position = group.top.position + c.args.site.now.size; stack = record (group.top.stack) { conds = group.top.stack.conds ++ c.in_ok-value.value ∷ [] } } } = rw (c.put_top.ensures, c.in_ok-push.ensures.ok, c.take_top-below.ensures) refl in
    got-gives c.args.site.now group c.put_top.result c.in_ok-value.value c.args.field.0 _ c.args.heap.now c.requires.group c.in_ok-value.ensures.extends (rw c.path-path.ensures at c.in_ok-value.ensures.ok) after c.in_ok-outcomes.ensures.one
