use Rattle.std.proofs.Common.{◌<◌, arith, length}
use Rattle.std.proofs.lemmas.Result.{IfOk-weaker}
use Rattle.vx_space.proofs.Spaces.{Extends-trans}
use Rattle.vx_group.proofs.GroupLaws.{IsGroup-extends}
use Rattle.vx_objects.proofs.Missing.{empty-gives}
use Rattle.vx_objects.proofs.casting.without_class.Goals as goal

pub returns-then-len-eq0-clause-gives : goal.returns-then-len-eq0-clause-gives
returns-then-len-eq0-clause-gives g c =
    IfOk-weaker c.no_class.result _ _ (λ r' h'.
    let none : length c.args.group.top.stack.conds < 1 = rw (← c.top_frame.ensures, ← c.len.ensures) (omega arith) in
    empty-gives c.args.site.now c.args.index c.args.answer _ c.args.group _ none (h' _))
    c.no_class.ensures

pub where_null-requires-clause-operand : goal.where_null-requires-clause-operand
where_null-requires-clause-operand g c = rw (← c.top_frame.ensures, ← c.len.ensures) (omega arith)

pub null_or_missing-requires-clause-group : goal.null_or_missing-requires-clause-group
null_or_missing-requires-clause-group g c = IsGroup-extends c.in_ok-null.ensures.extends c.args.group c.requires.group

pub null_or_missing-requires-clause-known : goal.null_or_missing-requires-clause-known
null_or_missing-requires-clause-known g c = c.in_ok-null.ensures.set.known

pub null_or_missing-requires-clause-operand : goal.null_or_missing-requires-clause-operand
null_or_missing-requires-clause-operand g c = rw (← c.top_frame.ensures, ← c.len.ensures) (omega arith)

pub returns-clause-extends : goal.returns-clause-extends
returns-clause-extends g c = Extends-trans c.in_ok-null.ensures.extends c.null_or_missing.ensures.extends

pub returns-clause-gives : goal.returns-clause-gives
returns-clause-gives g c = IfOk-weaker c.null_or_missing.result _ _ (λ r' h'. h' _ c.in_ok-null.ensures.extends c.in_ok-null.ensures.set) c.null_or_missing.ensures.gives
