use Rattle.std.proofs.Common.{◌∙◌, ap, sym}
use Rattle.std.proofs.lemmas.Result.{IfOk-weaker}
use Rattle.std.specs.Prelude.{Some, None}
use Rattle.vx_families.proofs.ShortPools.{short_descriptor}
use Rattle.vx_java.specs.Returns.{agrees}
use Rattle.vx_returns.proofs.MarkLaws.{agreed-attempts, disagreed-attempts}
use Rattle.vx_returns.proofs.returning.attempt.Goals as goal

pub signature-requires : goal.signature-requires
signature-requires g c = rw c.descriptor_of_method.ensures (short_descriptor c.args.site.now.program.now _ c.requires.given.bounded)

pub returns-then-not-agrees-clause-ok : goal.returns-then-not-agrees-clause-ok
returns-then-not-agrees-clause-ok g c =
    IfOk-weaker c.illegal.result _ _ (λ r' h'.
    let read = rw (c.descriptor_of_method.ensures, c.top_frame.ensures) at c.in_ok-declared.ensures in
    disagreed-attempts c.args.site.now c.args.operation _ c.args.heap.now c.args.callers.now c.args.group c.in-Return.sort _ c.in-Return.is c.requires.given c.requires.stands (ap (λ d. agrees c.in-Return.sort d.result) (sym read) ∙ sym c.if-not-agrees.ensures) (h' _))
    c.illegal.ensures

pub return_nothing-requires : goal.return_nothing-requires
return_nothing-requires g c = record { returning = record { bounded = c.requires.given.bounded; is_heap = c.requires.given.is_heap; is_for = c.requires.given.is_for; stands = c.requires.stands } }

pub return_value-requires : goal.return_value-requires
return_value-requires g c = record { returning = record { bounded = c.requires.given.bounded; is_heap = c.requires.given.is_heap; is_for = c.requires.given.is_for; stands = c.requires.stands } }

pub returns-in-None-clause-ok : goal.returns-in-None-clause-ok
returns-in-None-clause-ok g c =
    let read = rw (c.descriptor_of_method.ensures, c.top_frame.ensures) at c.in_ok-declared.ensures in
    IfOk-weaker c.return_nothing.result _ _ (λ r h. agreed-attempts c.args.site.now c.args.operation _ _ c.args.heap.now c.return_nothing.new.heap c.args.callers.now c.return_nothing.new.callers c.args.group c.in-Return.sort None r.items.items c.in-Return.is c.in-None.is (ap (λ d. agrees c.in-Return.sort d.result) (sym read) ∙ sym c.if-not-agrees.ensures) h) c.return_nothing.ensures.ok

pub returns-clause-ok : goal.returns-clause-ok
returns-clause-ok g c =
    let read = rw (c.descriptor_of_method.ensures, c.top_frame.ensures) at c.in_ok-declared.ensures in
    IfOk-weaker c.return_value.result _ _ (λ r h. agreed-attempts c.args.site.now c.args.operation _ _ c.args.heap.now c.return_value.new.heap c.args.callers.now c.return_value.new.callers c.args.group c.in-Return.sort (Some c.in-Some.sort) r.items.items c.in-Return.is c.in-Some.is (ap (λ d. agrees c.in-Return.sort d.result) (sym read) ∙ sym c.if-not-agrees.ensures) h) c.return_value.ensures.ok
