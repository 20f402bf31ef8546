-- The row of a call, by what is found of its class and its method.
use Rattle.std.proofs.Common.{Bool, None, Option, Some, ap, false, refl, sym, true, ℕ, ◌∙◌, ◌≡◌}
use Rattle.std.specs.Prelude.{if◌then◌else◌, option_map}
use Rattle.vx_java.specs.Checks.{same_bool}
use Rattle.vx_java.specs.Ids.{as_class, as_method}
use Rattle.vx_java.specs.declared.operation.Mode.{Mode}
use Rattle.vx_link.specs.ClassNames.{class_named}
use Rattle.vx_link.specs.Names.{Member}
use Rattle.vx_link.specs.Parts.{is_interface}
use Rattle.vx_link.specs.Resolution.{is_array_clone, resolve_method}
use Rattle.vx_link.specs.declared.program.Program.{Program}
use Rattle.vx_types.proofs.NameLaws.{class_missing, class_there}
use Rattle.vx_types.specs.Rows.{call_resolved, clone_array, if_method, invoke, on_class}
use Rattle.vx_types.specs.declared.types.Row.{Row}
use Rattle.vx_types.specs.declared.types.Row.TheVariants.{Ends}
use Rattle.vx_value.specs.declared.ids.ClassId.{ClassId}
use Rattle.vx_value.specs.declared.ids.MethodId.{MethodId}

-- ---- a class

abbrev kind_row : Program → (method : ℕ) → Mode → Member → ℕ → Row
kind_row p at mode m named = if same_bool m.by_interface (is_interface p named) then on_class p at mode m named else Ends

pub no_class : (p : Program) (at : ℕ) (mode : Mode) (m n : Member) → m ≡ n → None ≡ option_map as_class (class_named p m.class) → Ends ≡ invoke p at mode n
no_class p at mode m n same e = class_missing p m.class (kind_row p at mode m) e ∙ ap (invoke p at mode) same

pub other_kind : (p : Program) (at : ℕ) (mode : Mode) (m n : Member) (class : ClassId) → m ≡ n → Some class ≡ option_map as_class (class_named p m.class)
    → same_bool m.by_interface (is_interface p class.0) ≡ false → Ends ≡ invoke p at mode n
other_kind p at mode m n class same e h =
    sym (ap (λ b. if b then on_class p at mode m class.0 else Ends) h) ∙ class_there p m.class (kind_row p at mode m) class e ∙ ap (invoke p at mode) same

pub right_kind : (p : Program) (at : ℕ) (mode : Mode) (m n : Member) (class : ClassId) → m ≡ n → Some class ≡ option_map as_class (class_named p m.class)
    → same_bool m.by_interface (is_interface p class.0) ≡ true → on_class p at mode m class.0 ≡ invoke p at mode n
right_kind p at mode m n class same e h =
    sym (ap (λ b. if b then on_class p at mode m class.0 else Ends) h) ∙ class_there p m.class (kind_row p at mode m) class e ∙ ap (invoke p at mode) same

-- ---- a method

abbrev clone_or : Program → (method : ℕ) → Mode → Member → Bool → Option ℕ → Row
clone_or p at mode m b o = elim b [ true ↦ clone_array p at mode m | false ↦ if_method p at mode m o ]

pub a_clone : (p : Program) (at : ℕ) (mode : Mode) (m : Member) (named : ℕ) → is_array_clone p named m.name m.descriptor ≡ true → clone_array p at mode m ≡ on_class p at mode m named
a_clone p at mode m named h = sym (ap (λ b. clone_or p at mode m b (resolve_method p named m.name m.descriptor)) h)

method_there : (o : Option ℕ) (method : MethodId) → Some method ≡ option_map as_method o → o ≡ Some method.0
method_there None method e = cc
method_there (Some n) method e = cc

method_none : (o : Option ℕ) → None ≡ option_map as_method o → o ≡ None
method_none None e = refl
method_none (Some n) e = absurd cc

pub a_method : (p : Program) (at : ℕ) (mode : Mode) (m : Member) (named : ℕ) (resolved : MethodId) → is_array_clone p named m.name m.descriptor ≡ false
    → Some resolved ≡ option_map as_method (resolve_method p named m.name m.descriptor) → call_resolved p at mode m resolved.0 ≡ on_class p at mode m named
a_method p at mode m named resolved h e =
    sym
    (ap (λ b. clone_or p at mode m b (resolve_method p named m.name m.descriptor)) h
    ∙ ap (if_method p at mode m) (method_there (resolve_method p named m.name m.descriptor) resolved e))

pub no_method : (p : Program) (at : ℕ) (mode : Mode) (m : Member) (named : ℕ) → is_array_clone p named m.name m.descriptor ≡ false
    → None ≡ option_map as_method (resolve_method p named m.name m.descriptor) → Ends ≡ on_class p at mode m named
no_method p at mode m named h e =
    sym
    (ap (λ b. clone_or p at mode m b (resolve_method p named m.name m.descriptor)) h
    ∙ ap (if_method p at mode m) (method_none (resolve_method p named m.name m.descriptor) e))
