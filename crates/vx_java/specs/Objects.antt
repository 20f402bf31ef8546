-- New objects, casts, thrown objects and monitors (JVMS 6.5 new, checkcast, instanceof, athrow, monitorenter, monitorexit).
use Rattle.std.specs.Prelude.{Bool, List, [], false, pos, true, ℕ, ◌||◌, ◌∷◌}
use Rattle.vx_class.specs.Members.{ABSTRACT}
use Rattle.vx_java.specs.Checks.{is_instance_of, is_of, non_null, with_class}
use Rattle.vx_java.specs.FirstObjects.{new_object}
use Rattle.vx_java.specs.Initialisation.{when_initialised}
use Rattle.vx_java.specs.Machine.{Here, Int, Null, Outcome, Ref, Throw, Value, go, has_room, illegal, object_at, push, push_new, raise, when}
use Rattle.vx_java.specs.declared.operation.Sort.TheVariants.{Reference}
use Rattle.vx_link.specs.Assignability.{assignable}
use Rattle.vx_link.specs.ClassNames.{core_class}
use Rattle.vx_link.specs.Names.{class_name}
use Rattle.vx_link.specs.Parts.{class_at, has, is_interface}

-- new: no abstract class and no interface; room stands before initialisation
abbrev pub new_of_class : Here → ℕ → Outcome
new_of_class h c =
    when (has ABSTRACT (class_at h.program c).flags || is_interface h.program c)
    (raise h "java/lang/InstantiationError")
    (when (has_room h 1 h.state.top.operands)
    (when_initialised h c (λ g. push_new g (new_object g.program c) g.state.top.operands))
    (illegal h))

abbrev pub new_instance : Here → ℕ → Outcome
new_instance h i = with_class h (class_name h.pool i) (new_of_class h)

-- athrow: an object of Throwable
abbrev pub throw_top : Here → List Value → Outcome
throw_top h (o ∷ rest) =
    when (is_instance_of h (core_class h.program "java/lang/Throwable") o) (non_null h o (λ r. Throw r h.state)) (illegal h)
throw_top h [] = illegal h

-- monitorenter, monitorexit: the object is popped, and nothing else happens
abbrev pub monitor : Here → List Value → Outcome
monitor h (o ∷ rest) = when (is_of Reference o) (non_null h o (λ r. go h rest)) (illegal h)
monitor h [] = illegal h

-- an object against a class, by assignability
abbrev pub against : Here → Value → ℕ → (Bool → Outcome) → Outcome
against h (Ref r) c rest = rest (assignable h.program (object_at h.state r).class c)
against h _ c rest = illegal h

-- checkcast: null passes before the class is looked for; the stack stays as it is
abbrev pub check_cast : Here → (name : List ℕ) → List Value → Outcome
check_cast h name (Null ∷ rest) = go h (Null ∷ rest)
check_cast h name (v ∷ rest) =
    with_class h name (λ c. against h v c (λ fits. when fits (go h (v ∷ rest)) (raise h "java/lang/ClassCastException")))
check_cast h name [] = with_class h name (λ c. illegal h)

abbrev pub int_of_bool : Bool → Value
int_of_bool true = Int (pos 1)
int_of_bool false = Int (pos 0)

-- instanceof: null is 0 before the class is looked for
abbrev pub instance_of : Here → (name : List ℕ) → List Value → Outcome
instance_of h name (Null ∷ rest) = push h (int_of_bool false) rest
instance_of h name (v ∷ rest) = with_class h name (λ c. against h v c (λ fits. push h (int_of_bool fits) rest))
instance_of h name [] = with_class h name (λ c. illegal h)
