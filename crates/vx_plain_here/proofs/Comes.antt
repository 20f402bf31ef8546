-- What an attempt comes to, said in another way.
use Rattle.std.proofs.Common.{◌≡◌, subst, ◌∙◌}
use Rattle.std.proofs.lemmas.Result.{IfOk-weaker}
use Rattle.std.specs.Prelude.{IfOk, Result}
use Rattle.vx_java.specs.Machine as machine
use Rattle.vx_plain_here.specs.Rows.{ComesTo, Stands, places_of}
use Rattle.vx_plain_here.specs.declared.outcome.Outcome.{Outcome}
use Rattle.vx_plain_here.specs.declared.outcome.Outcome.TheVariants.{Begin, Ended, Go, Native, Raise, Throw, Write}

-- what was told is what the ordinary machine says
pub comes_as : {E : Type 0} (r : Result Outcome E) (told said : machine.Outcome) (old new : machine.State) → told ≡ said → IfOk r (ComesTo told old new) → IfOk r (ComesTo said old new)
comes_as r told said old new e comes = subst (λ o. IfOk r (ComesTo o old new)) e comes

stands_from : (old moved new : machine.State) (o : Outcome) → places_of moved ≡ places_of old → Stands moved new o → Stands old new o
stands_from old moved new (Ended end) e stands = stands ∙ e
stands_from old moved new Go e stands = stands
stands_from old moved new (Raise class message) e stands = stands ∙ e
stands_from old moved new (Throw object) e stands = stands ∙ e
stands_from old moved new (Begin class) e stands = stands ∙ e
stands_from old moved new (Native method) e stands = stands ∙ e
stands_from old moved new (Write stream units) e stands = stands

-- from a state whose frames stand where those of the first one do
pub comes_from : {E : Type 0} (r : Result Outcome E) (said : machine.Outcome) (old moved new : machine.State) → places_of moved ≡ places_of old → IfOk r (ComesTo said moved new) → IfOk r (ComesTo said old new)
comes_from r said old moved new e comes = IfOk-weaker r (ComesTo said moved new) (ComesTo said old new) (λ o c. record { same = c.same; stands = stands_from old moved new o e c.stands }) comes
