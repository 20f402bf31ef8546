use Rattle.std.proofs.Common.{◌≡◌, ◌+◌, ◌<◌, ◌^◌, ◌++◌, ◌∷◌, [], ap, arith, drop, length, refl}
use Rattle.std.proofs.lemmas.List.{length-append}
use Rattle.vx_group.proofs.GroupLaws.{IsGroup-one_scope, IsGroup-path_known}
use Rattle.vx_java.specs.Machine.{Go, State, at_position}
use Rattle.vx_fields.proofs.Moving.{put-gives}
use Rattle.vx_ready.proofs.Splitting.{none-gives}
use Rattle.vx_fields.proofs.statics.put_part.Goals as goal

pub is_never-requires : goal.is_never-requires
is_never-requires g c = rw c.path.ensures (IsGroup-path_known _ c.args.group c.requires.group)

pub returns-then-is_never : goal.returns-then-is_never
returns-then-is_never g c = none-gives c.args.site.now.program.now (g.met.S.Space.lawful c.args.space.now) (λ (s : State). Go (at_position s (s.top.position + c.args.site.now.size) (drop 1 s.top.operands))) c.args.group c.path.result c.new.result.items.items c.path.ensures (c.is_never.ensures.0 c.if-is_never.true) c.new.ensures

pub unreachable-requires : goal.unreachable-requires
unreachable-requires g c =
    let none : length c.args.group.top.stack.conds ≡ 0 = ap length (rw c.take_top-below.ensures at (c.in_default.ensures.none.0 refl)) in
    omega (arith, none, c.requires.operand)

pub put_top-requires-clause-scope : goal.put_top-requires-clause-scope
put_top-requires-clause-scope g c = rw c.take_top-below.ensures (IsGroup-one_scope _ c.args.group c.requires.group)

pub put_top-requires-clause-operands : goal.put_top-requires-clause-operands
put_top-requires-clause-operands g c =
    let few : length c.args.group.top.stack.conds < 2 ^ 32 = rw (← c.group.view_is) c.group.invariant.1 in
    let longer : length c.args.group.top.stack.conds ≡ length (c.pop.new.self.conds ++ c.in-Some._operand ∷ []) = ap (λ r. length r.conds) (rw c.take_top-below.ensures at c.in-Some.ensures.some) in
    omega (arith, few, longer, length-append c.pop.new.self.conds (c.in-Some._operand ∷ []))

pub returns : goal.returns
returns g c =
    let group = c.args.group in
    let popped : group.top.stack ≡ record c.pop.new.self { conds = c.pop.new.self.conds ++ c.in-Some._operand ∷ [] } = rw c.take_top-below.ensures at c.in-Some.ensures.some in
    let after : c.put_top.result ≡ record group { top = record (group.top) { position = group.top.position + c.args.site.now.size; stack = c.pop.new.self } } = rw (c.put_top.ensures, c.take_top-below.ensures) refl in
    put-gives c.args.site.now _ group c.put_top.result c.pop.new.self c.in-Some._operand _ c.requires.group popped after c.in_ok-outcomes.ensures.one
