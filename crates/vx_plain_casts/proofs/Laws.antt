-- Objects and casts by what the ordinary machine says.
use Rattle.std.proofs.Common.{◌≡◌, ℕ, Bool, true, false, List, [], ◌∷◌, drop, refl, sym, ap, ◌∙◌}
use Rattle.std.specs.Prelude.{None, Option, Some, slice_get}
use Rattle.std.proofs.lemmas.Option.{same_Some}
use Rattle.vx_java.specs.Checks.{if_there, non_null}
use Rattle.vx_java.specs.Machine as machine
use Rattle.vx_java.specs.Machine.{Here, Outcome, State, go, illegal, object_at, push, raise, when}
use Rattle.vx_java.specs.Objects.{check_cast, instance_of, int_of_bool, monitor, throw_top}
use Rattle.vx_link.specs.Assignability.{assignable}
use Rattle.vx_link.specs.ClassNames.{class_named}
use Rattle.vx_link.specs.declared.program.Program.{Program}
use Rattle.vx_plain.specs.Views.{value_of}
use Rattle.vx_plain.specs.declared.value.Value.{Value}
use Rattle.vx_plain.specs.declared.value.Value.TheVariants.{Int, Long, Null, Ref, Top}
use Rattle.vx_plain_here.proofs.Operands.{no_top, top}
use Rattle.vx_plain_casts.specs.Casts.{cast_by, instance_by, missing, tested, tested_object, tested_value}
use Rattle.vx_plain_casts.specs.Objects.{locked, object_in, thrown}

-- ---- objects

pub null_raises : (h : Here) (v : Value) (rest : ℕ → Outcome) → object_in v ≡ None → raise h "java/lang/NullPointerException" ≡ non_null h (value_of v) rest
null_raises h Top rest e = refl
null_raises h (Int n) rest e = refl
null_raises h (Long n) rest e = refl
null_raises h Null rest e = refl
null_raises h (Ref r) rest e = cc

pub object_goes : (h : Here) (v : Value) (r : ℕ) (rest : ℕ → Outcome) → object_in v ≡ Some r → rest r ≡ non_null h (value_of v) rest
object_goes h Top r rest e = cc
object_goes h (Int n) r rest e = cc
object_goes h (Long n) r rest e = cc
object_goes h Null r rest e = cc
object_goes h (Ref o) r rest e = ap rest (sym (same_Some _ _ e))

pub passes : (b : Bool) (o other : Outcome) → b ≡ true → o ≡ when b o other
passes b o other t = sym (ap (λ b. when b o other) t)

pub fails : (b : Bool) (o other : Outcome) → b ≡ false → other ≡ when b o other
fails b o other t = sym (ap (λ b. when b o other) t)

pub throw_none : (h : Here) (operands : List machine.Value) → None ≡ slice_get operands 0 → illegal h ≡ throw_top h operands
throw_none h operands none = ap (throw_top h) (sym (no_top operands none))

pub throw_there : (h : Here) (operands : List machine.Value) (v : machine.Value) → Some v ≡ slice_get operands 0 → thrown h v ≡ throw_top h operands
throw_there h operands v there = ap (throw_top h) (sym (top operands v there))

pub monitor_none : (h : Here) (operands : List machine.Value) → None ≡ slice_get operands 0 → illegal h ≡ monitor h operands
monitor_none h operands none = ap (monitor h) (sym (no_top operands none))

pub monitor_there : (h : Here) (operands : List machine.Value) (v : machine.Value) → Some v ≡ slice_get operands 0 → locked h v (drop 1 operands) ≡ monitor h operands
monitor_there h operands v there = ap (monitor h) (sym (top operands v there))

-- ---- casts

pub tested_none : (p : Program) (s : State) (named : Option ℕ) (operands : List machine.Value) → None ≡ slice_get operands 0 → missing named ≡ tested p s named operands
tested_none p s named operands none = ap (tested p s named) (sym (no_top operands none))

pub tested_there : (p : Program) (s : State) (named : Option ℕ) (operands : List machine.Value) (v : machine.Value) → Some v ≡ slice_get operands 0 → tested_value p s named v ≡ tested p s named operands
tested_there p s named operands v there = ap (tested p s named) (sym (top operands v there))

no_class : (h : Here) (name : List ℕ) (operands : List machine.Value) (named : Option ℕ) → cast_by h name operands (missing named) ≡ if_there h name named (λ c. illegal h)
no_class h name operands None = refl
no_class h name operands (Some c) = refl

cast_to : (h : Here) (name : List ℕ) (operands : List machine.Value) (r : ℕ) (named : Option ℕ)
    → cast_by h name operands (tested_object h.program h.state r named) ≡ if_there h name named (λ c. when (assignable h.program (object_at h.state r).class c) (go h operands) (raise h "java/lang/ClassCastException"))
cast_to h name operands r None = refl
cast_to h name operands r (Some c) = refl

pub cast_row : (h : Here) (name : List ℕ) (operands : List machine.Value) (named : Option ℕ) → named ≡ class_named h.program name → cast_by h name operands (tested h.program h.state named operands) ≡ check_cast h name operands
cast_row h name (machine.Null ∷ rest) named e = refl
cast_row h name (machine.Ref r ∷ rest) named e =
    cast_to h name (machine.Ref r ∷ rest) r named
    ∙ ap (λ n. if_there h name n (λ c. when (assignable h.program (object_at h.state r).class c) (go h (machine.Ref r ∷ rest)) (raise h "java/lang/ClassCastException"))) e
cast_row h name (machine.Top ∷ rest) named e = no_class h name (machine.Top ∷ rest) named ∙ ap (λ n. if_there h name n (λ c. illegal h)) e
cast_row h name (machine.Int n ∷ rest) named e = no_class h name (machine.Int n ∷ rest) named ∙ ap (λ n. if_there h name n (λ c. illegal h)) e
cast_row h name (machine.Long n ∷ rest) named e = no_class h name (machine.Long n ∷ rest) named ∙ ap (λ n. if_there h name n (λ c. illegal h)) e
cast_row h name (machine.Text t ∷ rest) named e = no_class h name (machine.Text t ∷ rest) named ∙ ap (λ n. if_there h name n (λ c. illegal h)) e
cast_row h name [] named e = no_class h name [] named ∙ ap (λ n. if_there h name n (λ c. illegal h)) e

no_instance : (h : Here) (name : List ℕ) (operands : List machine.Value) (named : Option ℕ) → instance_by h name operands (missing named) ≡ if_there h name named (λ c. illegal h)
no_instance h name operands None = refl
no_instance h name operands (Some c) = refl

instance_to : (h : Here) (name : List ℕ) (operands : List machine.Value) (r : ℕ) (named : Option ℕ)
    → instance_by h name operands (tested_object h.program h.state r named) ≡ if_there h name named (λ c. push h (int_of_bool (assignable h.program (object_at h.state r).class c)) (drop 1 operands))
instance_to h name operands r None = refl
instance_to h name operands r (Some c) = refl

pub instance_row : (h : Here) (name : List ℕ) (operands : List machine.Value) (named : Option ℕ) → named ≡ class_named h.program name → instance_by h name operands (tested h.program h.state named operands) ≡ instance_of h name operands
instance_row h name (machine.Null ∷ rest) named e = refl
instance_row h name (machine.Ref r ∷ rest) named e =
    instance_to h name (machine.Ref r ∷ rest) r named
    ∙ ap (λ n. if_there h name n (λ c. push h (int_of_bool (assignable h.program (object_at h.state r).class c)) rest)) e
instance_row h name (machine.Top ∷ rest) named e = no_instance h name (machine.Top ∷ rest) named ∙ ap (λ n. if_there h name n (λ c. illegal h)) e
instance_row h name (machine.Int n ∷ rest) named e = no_instance h name (machine.Int n ∷ rest) named ∙ ap (λ n. if_there h name n (λ c. illegal h)) e
instance_row h name (machine.Long n ∷ rest) named e = no_instance h name (machine.Long n ∷ rest) named ∙ ap (λ n. if_there h name n (λ c. illegal h)) e
instance_row h name (machine.Text t ∷ rest) named e = no_instance h name (machine.Text t ∷ rest) named ∙ ap (λ n. if_there h name n (λ c. illegal h)) e
instance_row h name [] named e = no_instance h name [] named ∙ ap (λ n. if_there h name n (λ c. illegal h)) e
