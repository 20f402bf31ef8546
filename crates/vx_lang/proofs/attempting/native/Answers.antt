use Rattle.std.proofs.Common.{◌∙◌, ap, sym}
use Rattle.std.proofs.lemmas.Result.{IfOk-weaker}
use Rattle.vx_java.specs.Natives.{native_of}
use Rattle.vx_natives.proofs.Few.{missing-attempts}
use Rattle.vx_natives.specs.Behaviours.{meaning}
use Rattle.vx_space.proofs.Spaces.{Extends-refl}
use Rattle.vx_lang.proofs.Numbered.{behaves}
use Rattle.vx_lang.proofs.attempting.native.Goals as goal

pub returns-in-Missing-clause-ok : goal.returns-in-Missing-clause-ok
returns-in-Missing-clause-ok g c =
    let none = ap meaning (sym c.in-Missing.is) ∙ c.behaviour_of-behaviour.ensures.row ∙ ap native_of c.native_number.ensures in
    IfOk-weaker c.illegal.result _ _ (λ r h. missing-attempts c.args.site.now c.requires.given.0 c.args.method.0 c.args.heap.now c.args.group r.items.items (Extends-refl _) c.requires.given.1 none (h _)) c.illegal.ensures

pub attempt-requires-clause-does : goal.attempt-requires-clause-does
attempt-requires-clause-does g c = behaves c.args.site.now.program.now c.args.method.0 c.behaviour_of-behaviour.result c.requires.given.1.bounded c.in_default.not-Missing (rw (← c.native_number.ensures) c.behaviour_of-behaviour.ensures.row) (rw (← c.native_number.ensures) c.behaviour_of-behaviour.ensures.count) (rw (← c.native_number.ensures) c.behaviour_of-behaviour.ensures.reads) (rw (← c.native_number.ensures) c.behaviour_of-behaviour.ensures.known)
