use Rattle.std.proofs.Common.{◌∙◌, refl, sym}
use Rattle.std.proofs.lemmas.Result.{on_ok_weaker}
use Rattle.vx_returns.proofs.MarkLaws.{is_marked, not_marked}
use Rattle.vx_returns.proofs.returning.mark_initialised.Goals as goal

pub returns-then-not-has_initialised-clause-ok : goal.returns-then-not-has_initialised-clause-ok
returns-then-not-has_initialised-clause-ok g c = not_marked c.args.program.now _ c.args.heap.now c.args.group.now _ c.requires.heap (sym c.has_initialised.ensures ∙ c.if-not-has_initialised.true)

pub returns-clause-ok : goal.returns-clause-ok
returns-clause-ok g c =
    let named = rw c.top_frame.ensures at c.class_of_method.ensures in
    on_ok_weaker c.mark_one.result (λ h. is_marked c.args.program.now c.args.heap.now c.mark_one.new.heap c.args.group.now _ c.args.path named refl (sym c.has_initialised.ensures ∙ c.if-not-has_initialised.false) h) c.mark_one.ensures.ok
