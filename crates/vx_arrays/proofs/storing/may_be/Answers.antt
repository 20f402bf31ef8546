use Rattle.std.proofs.Common.{◌≡◌, Bool, ◌∙◌, ap, sym}
use Rattle.std.specs.Prelude.{Option, Some}
use Rattle.vx_link.specs.Assignability.{assignable}
use Rattle.vx_link.specs.ClassNames.{component_of}
use Rattle.vx_link.specs.declared.program.Program.{Program}
use Rattle.vx_value.specs.declared.ids.ClassId.{ClassId}
use Rattle.vx_arrays.specs.Elements.{may_be}
use Rattle.vx_arrays.proofs.storing.may_be.Goals as goal

both_there : (p : Program) (v a : Option ClassId) (class array component : ClassId) (r : Bool) → v ≡ Some class → a ≡ Some array → component.0 ≡ component_of p array.0 → r ≡ assignable p class.0 component.0 → r ≡ may_be p v a
both_there p v a class array component r v_is a_is of is = is ∙ ap (assignable p class.0) of ∙ (λ i. may_be p (sym v_is i) (sym a_is i))

pub returns-in-Some-Some : goal.returns-in-Some-Some
returns-in-Some-Some c = both_there c.args.program.now c.args.value c.args.array c.in-Some-Some.class c.in-Some-Some.array c.component_of.result c.assignable.result c.in-Some-Some.is-0 c.in-Some-Some.is-1 c.component_of.ensures c.assignable.ensures
