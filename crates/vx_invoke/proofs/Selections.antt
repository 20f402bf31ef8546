-- The method that a call selects has the descriptor of the one that is resolved, and is static exactly where that is.
use Rattle.std.proofs.Common.{◌≡◌, ℕ, Bool, true, false, List, [], ◌∷◌, Option, Some, None, refl, sym, ◌∙◌, ap, subst}
use Rattle.std.specs.Prelude.{◌&&◌, if◌then◌else◌, not, unwrap_or}
use Rattle.vx_class.specs.Members.{STATIC}
use Rattle.vx_java.specs.Selection.{class_of_receiver, found_or, of_specific, select, select_from, select_special, selected_if_concrete, selected_method}
use Rattle.vx_java.specs.declared.operation.Mode.{Mode}
use Rattle.vx_java.specs.declared.operation.Mode.TheVariants.{Interface, Special, Static, Virtual}
use Rattle.vx_java.specs.declared.selected.Selected.{Selected}
use Rattle.vx_java.specs.declared.selected.Selected.TheVariants.{Abstract, Method}
use Rattle.vx_link.specs.Hierarchy.{superclass_of, superclasses}
use Rattle.vx_link.specs.Parts.{PRIVATE, has, is_abstract, is_inherited, is_instance, is_interface, method_at}
use Rattle.vx_link.specs.Resolution.{first_given, own_method, specific_methods}
use Rattle.vx_link.specs.declared.program.Program.{Program}
use Rattle.vx_references.proofs.Searches.{Every, IsNamed, given_by, own_named, specific_named}
use Rattle.vx_value.specs.declared.ids.MethodId.{MethodId}
use Rattle.vx_invoke.specs.Arguments.{IsLike}
use Rattle.vx_invoke.specs.Called.{begins_above, selected_by}
use Rattle.vx_invoke.specs.declared.target.Target.{Target}

-- ---- what a selection gives

abbrev number_of : Selected → ℕ
number_of (Method m) = m.0
number_of _ = 0

pub concrete_is : (p : Program) (n : ℕ) (m : MethodId) → selected_if_concrete p n ≡ Method m → n ≡ m.0
concrete_is p n m h = by_abstract (is_abstract (method_at p n)) h
  where
    by_abstract : (b : Bool) → (if b then Abstract else selected_method n) ≡ Method m → n ≡ m.0
    by_abstract true e = cc
    by_abstract false e = ap number_of e

specific_is : (P : ℕ → Type 0) (xs : List ℕ) (m : MethodId) → Every P xs → of_specific xs ≡ Method m → P m.0
specific_is P [] m e h = cc
specific_is P (x ∷ []) m e h = subst P (ap number_of h) e.0
specific_is P (x ∷ y ∷ xs) m e h = cc

found_is : (p : Program) (P : ℕ → Type 0) (o : Option ℕ) (specific : List ℕ) (m : MethodId) → ((n : ℕ) → o ≡ Some n → P n) → Every P specific → found_or p o specific ≡ Method m → P m.0
found_is p P (Some n) specific m f e h = subst P (concrete_is p n m h) (f n refl)
found_is p P None specific m f e h = specific_is P specific m e h

-- ---- a method that isn't static

-- of this descriptor, and of an object
abbrev IsOfObject : Program → (descriptor : List ℕ) → ℕ → Type 0
IsOfObject p descriptor m = ((method_at p m).descriptor ≡ descriptor) × (has STATIC (method_at p m).flags ≡ false)

pub not_static : (b : Bool) → not b ≡ true → b ≡ false
not_static true h = cc
not_static false h = refl

neither : (a b : Bool) → (not a && not b) ≡ true → b ≡ false
neither true b h = cc
neither false b h = not_static b h

of_inherited : (p : Program) (descriptor : List ℕ) (m : ℕ) → IsNamed p is_inherited descriptor m → IsOfObject p descriptor m
of_inherited p descriptor m h = (h.descriptor, neither (has PRIVATE (method_at p m).flags) (has STATIC (method_at p m).flags) h.passes)

of_instance : (p : Program) (descriptor : List ℕ) (m : ℕ) → IsNamed p is_instance descriptor m → IsOfObject p descriptor m
of_instance p descriptor m h = (h.descriptor, not_static (has STATIC (method_at p m).flags) h.passes)

every_of_object : (p : Program) (descriptor : List ℕ) (xs : List ℕ) → Every (IsNamed p is_inherited descriptor) xs → Every (IsOfObject p descriptor) xs
every_of_object p descriptor [] h = tt
every_of_object p descriptor (x ∷ xs) h = (of_inherited p descriptor x h.0, every_of_object p descriptor xs h.1)

like : (p : Program) (resolved m : ℕ) → has STATIC (method_at p resolved).flags ≡ false → IsOfObject p (method_at p resolved).descriptor m → IsLike p resolved m
like p resolved m s h = record {
  descriptor = h.0;
  static = h.1 ∙ sym s;
}

-- ---- the selections

from_class : (p : Program) (c resolved : ℕ) (m : MethodId) → has STATIC (method_at p resolved).flags ≡ false → select_from p c (method_at p resolved) ≡ Method m → IsLike p resolved m.0
from_class p c resolved m s h =
    let r = method_at p resolved in
    like p resolved m.0 s (found_is p (IsOfObject p r.descriptor) (first_given (own_method p is_inherited r.name r.descriptor) (superclasses p c)) (specific_methods p r.name r.descriptor c) m (given_by (own_method p is_inherited r.name r.descriptor) (IsOfObject p r.descriptor) (λ d n e. of_inherited p r.descriptor n (own_named p is_inherited r.name r.descriptor d n e)) (superclasses p c)) (every_of_object p r.descriptor (specific_methods p r.name r.descriptor c) (specific_named p r.name r.descriptor c)) h)

pub concrete_like : (p : Program) (resolved : ℕ) (m : MethodId) → selected_if_concrete p resolved ≡ Method m → IsLike p resolved m.0
concrete_like p resolved m h = subst (IsLike p resolved) (concrete_is p resolved m h) (record { descriptor = refl; static = refl })

pub select_like : (p : Program) (receiver resolved : ℕ) (m : MethodId) → has STATIC (method_at p resolved).flags ≡ false → select p receiver resolved ≡ Method m → IsLike p resolved m.0
select_like p receiver resolved m s h = by_private (has PRIVATE (method_at p resolved).flags) h
  where
    by_private : (b : Bool) → (if b then selected_if_concrete p resolved else select_from p (class_of_receiver p receiver) (method_at p resolved)) ≡ Method m → IsLike p resolved m.0
    by_private true e = concrete_like p resolved m e
    by_private false e = from_class p (class_of_receiver p receiver) resolved m s e

pub special_like : (p : Program) (from resolved : ℕ) (m : MethodId) → has STATIC (method_at p resolved).flags ≡ false → select_special p from resolved ≡ Method m → IsLike p resolved m.0
special_like p from resolved m s h = by_interface (is_interface p from) h
  where
    by_interface : (b : Bool) → (if b then found_or p (first_given (own_method p is_instance (method_at p resolved).name (method_at p resolved).descriptor) (superclasses p from)) (specific_methods p (method_at p resolved).name (method_at p resolved).descriptor from) else select_from p from (method_at p resolved)) ≡ Method m → IsLike p resolved m.0
    by_interface true e =
        let d = (method_at p resolved).descriptor in
        let name = (method_at p resolved).name in
        like p resolved m.0 s (found_is p (IsOfObject p d) (first_given (own_method p is_instance name d) (superclasses p from)) (specific_methods p name d from) m (given_by (own_method p is_instance name d) (IsOfObject p d) (λ c n e. of_instance p d n (own_named p is_instance name d c n e)) (superclasses p from)) (every_of_object p d (specific_methods p name d from) (specific_named p name d from)) e)
    by_interface false e = from_class p from resolved m s e

-- what a call selects on an object of a class
pub target_like : (p : Program) (target : Target) (class : ℕ) (m : MethodId) → has STATIC (method_at p target.resolved.0).flags ≡ false → selected_by target.mode p target class ≡ Method m → IsLike p target.resolved.0 m.0
target_like p target class m s h = by_mode target.mode h
  where
    special : (named_by_interface above : Bool) → (if named_by_interface then select_special p target.named.0 target.resolved.0 else if above then select_special p (unwrap_or (superclass_of p target.current.0) 0) target.resolved.0 else selected_if_concrete p target.resolved.0) ≡ Method m → IsLike p target.resolved.0 m.0
    special true above e = special_like p target.named.0 target.resolved.0 m s e
    special false true e = special_like p (unwrap_or (superclass_of p target.current.0) 0) target.resolved.0 m s e
    special false false e = concrete_like p target.resolved.0 m e

    by_mode : (mode : Mode) → selected_by mode p target class ≡ Method m → IsLike p target.resolved.0 m.0
    by_mode Special e = special target.by_interface (begins_above p target) e
    by_mode Virtual e = select_like p class target.resolved.0 m s e
    by_mode Static e = select_like p class target.resolved.0 m s e
    by_mode Interface e = select_like p class target.resolved.0 m s e
