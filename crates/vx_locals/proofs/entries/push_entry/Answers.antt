use Rattle.std.proofs.Common.{◌∙◌, sym}
use Rattle.std.proofs.lemmas.Result.{IfOk-weaker}
use Rattle.vx_locals.proofs.Loaded.{left_out-gives, number-gives, number_held, text-gives, unloadable-gives}
use Rattle.vx_locals.proofs.entries.push_entry.Goals as goal

pub returns-in-Number-clause-gives : goal.returns-in-Number-clause-gives
returns-in-Number-clause-gives g c =
    let kind = sym (rw (c.class_of_method-class.ensures, c.top_frame.ensures) at c.constant_of.ensures) ∙ c.in-Number.is in
    IfOk-weaker c.push_constant.result _ _ (λ r h. number-gives c.args.site.now _ c.args.heap.now c.args.group c.args.index _ c.in-Number.value kind (h c.args.heap.now (λ d t. number_held (g.S.Space.sets c.args.space.now) c.args.heap.now d _ c.in-Number.value kind))) c.push_constant.ensures.gives

pub returns-in-Literal-clause-gives : goal.returns-in-Literal-clause-gives
returns-in-Literal-clause-gives g c =
    let kind = sym (rw (c.class_of_method-class.ensures, c.top_frame.ensures) at c.constant_of.ensures) ∙ c.in-Literal.is in
    IfOk-weaker c.push_literal.result _ _ (λ r h. text-gives c.args.site.now _ c.args.heap.now c.args.group c.args.index _ c.requires.given.is_for kind (rw (c.class_of_method-class.ensures, c.top_frame.ensures) at h)) c.push_literal.ensures.gives

pub returns-in_ok-what-in-LeftOut-clause-gives : goal.returns-in_ok-what-in-LeftOut-clause-gives
returns-in_ok-what-in-LeftOut-clause-gives g c =
    let kind = sym (rw (c.class_of_method-class.ensures, c.top_frame.ensures) at c.constant_of.ensures) ∙ c.in-LeftOut.is in
    IfOk-weaker c.unsupported.result _ _ (λ r h. left_out-gives c.args.site.now _ c.args.heap.now c.args.group c.args.index _ c.in-LeftOut.word kind ((rw c.in_ok-what-in-LeftOut.ensures at h) _ c.args.heap.now)) c.unsupported.ensures

pub returns-in-Unloadable-clause-gives : goal.returns-in-Unloadable-clause-gives
returns-in-Unloadable-clause-gives g c =
    let kind = sym (rw (c.class_of_method-class.ensures, c.top_frame.ensures) at c.constant_of.ensures) ∙ c.in-Unloadable.is in
    IfOk-weaker c.illegal.result _ _ (λ r h. unloadable-gives c.args.site.now _ c.args.heap.now c.args.group c.args.index _ kind (h _ c.args.heap.now)) c.illegal.ensures
