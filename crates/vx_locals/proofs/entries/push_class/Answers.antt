use Rattle.std.proofs.Common.{◌∙◌}
use Rattle.std.proofs.lemmas.Result.{IfOk-weaker}
use Rattle.vx_locals.proofs.Loaded.{class-gives, class_resolved, no_class-gives, none_named, some_named}
use Rattle.vx_locals.proofs.entries.push_class.Goals as goal

pub resolved-resolved-requires-clause-classes : goal.resolved-resolved-requires-clause-classes
resolved-resolved-requires-clause-classes g c = c.requires.given.bounded.classes

pub resolved-resolved-requires-clause-for_program : goal.resolved-resolved-requires-clause-for_program
resolved-resolved-requires-clause-for_program g c = c.requires.given.is_for

pub returns-in_ok-what-in-None-clause-gives : goal.returns-in_ok-what-in-None-clause-gives
returns-in_ok-what-in-None-clause-gives g c =
    let text = rw c.requires.class at c.text_of.ensures.value in
    let entry = rw c.requires.class at c.requires.entry in
    let none = none_named _ c.resolved-resolved.result (rw c.requires.class at c.resolved-resolved.ensures ∙ class_resolved c.args.site.now.program.now _ _ c.args.name entry) c.in-None.is in
    IfOk-weaker c.unsupported.result _ _ (λ r h. no_class-gives c.args.site.now _ c.args.heap.now c.args.group c.args.index _ c.args.name entry none ((rw (c.in_ok-what-in-None.ensures, text) at h) _ c.args.heap.now)) c.unsupported.ensures

pub returns-in-Some-clause-gives : goal.returns-in-Some-clause-gives
returns-in-Some-clause-gives g c =
    let entry = rw c.requires.class at c.requires.entry in
    let some = some_named _ c.resolved-resolved.result c.in-Some.field-0 (rw c.requires.class at c.resolved-resolved.ensures ∙ class_resolved c.args.site.now.program.now _ _ c.args.name entry) c.in-Some.is in
    IfOk-weaker c.push_literal.result _ _ (λ r h. class-gives c.args.site.now _ c.args.heap.now c.args.group c.args.index _ c.args.name some.0 c.requires.given.is_for entry some.1 (rw c.requires.class at h)) c.push_literal.ensures.gives
