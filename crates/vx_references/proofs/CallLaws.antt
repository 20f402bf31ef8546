-- How the row of a call goes on, step by step.
use Rattle.std.proofs.Common.{◌≡◌, ◌≤◌, ◌⊎◌, ℕ, Bool, true, false, arith, refl, ◌∙◌, ap, inl, inr, length, sym, Some, None}
use Rattle.std.proofs.Math.Bool.{beq}
use Rattle.std.proofs.lemmas.Bool.Decides.{nat_tests}
use Rattle.std.proofs.lemmas.Option.{slice_get_past}
use Rattle.std.specs.Prelude.{Option, if◌then◌else◌, nat_lt, option_map, not, ◌&&◌, ◌||◌}
use Rattle.vx_class.specs.Members.{INTERFACE, STATIC}
use Rattle.vx_java.specs.Calls.{call_instance, call_resolved, call_static, clone_array, if_method, on_class, wrong_kind}
use Rattle.vx_java.specs.Checks.{if_there, same_bool}
use Rattle.vx_java.specs.Ids.{as_class, as_method}
use Rattle.vx_java.specs.Machine.{Here, Outcome, when}
use Rattle.vx_java.specs.declared.operation.Mode.{Mode}
use Rattle.vx_java.specs.declared.operation.Mode.TheVariants.{Interface, Special, Static, Virtual}
use Rattle.vx_link.specs.ClassNames.{class_named, is_array}
use Rattle.vx_link.specs.Names.{Member, member}
use Rattle.vx_link.specs.Parts.{PRIVATE, has, is_interface, method_at}
use Rattle.vx_link.specs.Resolution.{is_array_clone, resolve_method}
use Rattle.vx_link.specs.declared.program.LinkedClass.{LinkedClass}
use Rattle.vx_link.specs.declared.program.Program.{Program}
use Rattle.vx_pool.specs.declared.pool.Pool.{Pool}
use Rattle.vx_value.specs.declared.ids.ClassId.{ClassId}
use Rattle.vx_references.proofs.Numbers.{class_none, class_some}
use Rattle.vx_references.proofs.Searches.{resolved_named}
use Rattle.vx_references.proofs.Tables.{class_missing}
use Rattle.vx_references.specs.Calls.{IsMethodReference, IsSound, by_reference, found_in, may_call}
use Rattle.vx_references.specs.Fields.{seeing}
use Rattle.vx_references.specs.declared.calls.MethodReference.{MethodReference}
use Rattle.vx_references.specs.declared.calls.MethodReference.TheVariants.{Clone, Found, NoClass, WrongKind}

-- what the row makes of a member
abbrev invoked : Here → Mode → Member → (o : Option ℕ) → Outcome
invoked h mode m o = if_there h m.class o (λ named. when (same_bool m.by_interface (is_interface h.program named)) (on_class h mode m named) (wrong_kind h))

pub no_class : (p : Program) (pool : Pool) (i : ℕ) (mode : Mode) → None ≡ option_map as_class (class_named p (member pool i).class) → IsMethodReference p pool i mode NoClass
no_class p pool i mode n = record {
  decides = λ h. ap (invoked (seeing p pool h) mode (member pool i)) (class_none (class_named p (member pool i).class) n);
  sound = tt;
}

-- a class that is there
named_there : (p : Program) (pool : Pool) (i : ℕ) (mode : Mode) (named : ClassId) (kind : Bool) → Some named ≡ option_map as_class (class_named p (member pool i).class) → same_bool (member pool i).by_interface (is_interface p named.0) ≡ kind → (h : Here) → invoked (seeing p pool h) mode (member pool i) (class_named p (member pool i).class) ≡ when kind (on_class (seeing p pool h) mode (member pool i) named.0) (wrong_kind (seeing p pool h))
named_there p pool i mode named kind n k h =
    ap (invoked (seeing p pool h) mode (member pool i)) (class_some (class_named p (member pool i).class) named n)
    ∙ ap (λ b. when b (on_class (seeing p pool h) mode (member pool i) named.0) (wrong_kind (seeing p pool h))) k

pub other_kind : (p : Program) (pool : Pool) (i : ℕ) (mode : Mode) (named : ClassId) → Some named ≡ option_map as_class (class_named p (member pool i).class) → same_bool (member pool i).by_interface (is_interface p named.0) ≡ false → IsMethodReference p pool i mode WrongKind
other_kind p pool i mode named n k = record {
  decides = λ h. named_there p pool i mode named false n k h;
  sound = tt;
}

-- what a class that is there makes of a clone, or of a method
abbrev on_named : Here → Mode → Member → (named : ℕ) → (clones : Bool) → Outcome
on_named h mode m named clones = elim clones [ true ↦ clone_array h mode m named | false ↦ if_method h mode m named (resolve_method h.program named m.name m.descriptor) ]

class_there : (p : Program) (pool : Pool) (i : ℕ) (mode : Mode) (named : ClassId) (clones : Bool) → Some named ≡ option_map as_class (class_named p (member pool i).class) → same_bool (member pool i).by_interface (is_interface p named.0) ≡ true → is_array_clone p named.0 (member pool i).name (member pool i).descriptor ≡ clones → (h : Here) → invoked (seeing p pool h) mode (member pool i) (class_named p (member pool i).class) ≡ on_named (seeing p pool h) mode (member pool i) named.0 clones
class_there p pool i mode named clones n k a h =
    named_there p pool i mode named true n k h ∙ ap (on_named (seeing p pool h) mode (member pool i) named.0) a

pub clone_static : (p : Program) (pool : Pool) (i : ℕ) (named : ClassId) → Some named ≡ option_map as_class (class_named p (member pool i).class) → same_bool (member pool i).by_interface (is_interface p named.0) ≡ true → is_array_clone p named.0 (member pool i).name (member pool i).descriptor ≡ true → IsMethodReference p pool i Static WrongKind
clone_static p pool i named n k a = record {
  decides = λ h. class_there p pool i Static named true n k a h;
  sound = tt;
}

-- the class of an array is no interface
array_class : (p : Program) (c : ℕ) → is_array p c ≡ true → is_interface p c ≡ false
array_class p c a = ap (λ (x : LinkedClass). has INTERFACE x.flags) (sym (class_missing p c (sym (slice_get_past p.classes c (past (nat_lt c (length p.classes)) refl a)))))
  where
    past : (b : Bool) → nat_lt c (length p.classes) ≡ b → not b ≡ true → length p.classes ≤ c
    past true e f = cc f
    past false e f = grind (arith, nat_tests)

no_interface : (p : Program) (m : Member) (named : ℕ) → same_bool m.by_interface (is_interface p named) ≡ true → is_array_clone p named m.name m.descriptor ≡ true → m.by_interface ≡ false
no_interface p m named k a = unlike m.by_interface (is_interface p named) k (array_class p named (both_first (is_array p named) _ a))
  where
    unlike : (a b : Bool) → same_bool a b ≡ true → b ≡ false → a ≡ false
    unlike true true e f = cc f
    unlike true false e f = cc e
    unlike false b e f = refl

    both_first : (a b : Bool) → (a && b) ≡ true → a ≡ true
    both_first true b e = refl
    both_first false b e = cc e

pub clone_of : (p : Program) (pool : Pool) (i : ℕ) (mode : Mode) (named : ClassId) → Some named ≡ option_map as_class (class_named p (member pool i).class) → same_bool (member pool i).by_interface (is_interface p named.0) ≡ true → is_array_clone p named.0 (member pool i).name (member pool i).descriptor ≡ true → (mode ≡ Static → ⊥) → IsMethodReference p pool i mode (Clone named)
clone_of p pool i mode named n k a other = record {
  decides = λ h. class_there p pool i mode named true n k a h;
  sound = (a, no_interface p (member pool i) named.0 k a, other);
}

-- a mode that isn't static
pub other_modes : (mode : Mode) → (mode ≡ Virtual) ⊎ ((mode ≡ Special) ⊎ (mode ≡ Interface)) → mode ≡ Static → ⊥
other_modes mode (inl e) s = cc
other_modes mode (inr (inl e)) s = cc
other_modes mode (inr (inr e)) s = cc

-- ---- a method that is looked for

resolved_by : (h : Here) (mode : Mode) (m : Member) (named : ClassId) (resolved : ℕ) (may : Bool) → may_call mode (method_at h.program resolved) ≡ may → call_resolved h mode m named.0 resolved ≡ by_reference h mode m (if may then Found named (as_method resolved) else WrongKind)
resolved_by h Static m named resolved true e = ap (λ b. when b (call_static h m resolved) (wrong_kind h)) e
resolved_by h Static m named resolved false e = ap (λ b. when b (call_static h m resolved) (wrong_kind h)) e
resolved_by h Interface m named resolved may e = turned (has STATIC (method_at h.program resolved).flags || has PRIVATE (method_at h.program resolved).flags) may e
  where
    turned : (b c : Bool) → not b ≡ c → when b (wrong_kind h) (call_instance h Interface m named.0 resolved) ≡ by_reference h Interface m (if c then Found named (as_method resolved) else WrongKind)
    turned true true e = cc
    turned true false e = refl
    turned false true e = refl
    turned false false e = cc
resolved_by h Virtual m named resolved may e = turned (has STATIC (method_at h.program resolved).flags) may e
  where
    turned : (b c : Bool) → not b ≡ c → when b (wrong_kind h) (call_instance h Virtual m named.0 resolved) ≡ by_reference h Virtual m (if c then Found named (as_method resolved) else WrongKind)
    turned true true e = cc
    turned true false e = refl
    turned false true e = refl
    turned false false e = cc
resolved_by h Special m named resolved may e = turned (has STATIC (method_at h.program resolved).flags) may e
  where
    turned : (b c : Bool) → not b ≡ c → when b (wrong_kind h) (call_instance h Special m named.0 resolved) ≡ by_reference h Special m (if c then Found named (as_method resolved) else WrongKind)
    turned true true e = cc
    turned true false e = refl
    turned false true e = refl
    turned false false e = cc

method_by : (h : Here) (mode : Mode) (m : Member) (named : ClassId) (o : Option ℕ) → if_method h mode m named.0 o ≡ by_reference h mode m (found_in h.program mode named o)
method_by h mode m named None = refl
method_by h mode m named (Some resolved) = resolved_by h mode m named resolved (may_call mode (method_at h.program resolved)) refl

sound_by : (p : Program) (mode : Mode) (m : Member) (named : ClassId) (o : Option ℕ) → ((r : ℕ) → o ≡ Some r → (method_at p r).descriptor ≡ m.descriptor) → IsSound p mode m (found_in p mode named o)
sound_by p mode m named None f = tt
sound_by p mode m named (Some resolved) f = by_may (may_call mode (method_at p resolved)) refl
  where
    by_may : (b : Bool) → may_call mode (method_at p resolved) ≡ b → IsSound p mode m (if b then Found named (as_method resolved) else WrongKind)
    by_may true e = (e, f resolved refl)
    by_may false e = tt

pub found_method : (p : Program) (pool : Pool) (i : ℕ) (mode : Mode) (named : ClassId) (reference : MethodReference) → Some named ≡ option_map as_class (class_named p (member pool i).class) → same_bool (member pool i).by_interface (is_interface p named.0) ≡ true → is_array_clone p named.0 (member pool i).name (member pool i).descriptor ≡ false → reference ≡ found_in p mode named (resolve_method p named.0 (member pool i).name (member pool i).descriptor) → IsMethodReference p pool i mode reference
found_method p pool i mode named reference n k a r =
    let m = member pool i in
    let o = resolve_method p named.0 m.name m.descriptor in
    rw r (record {
      decides = λ h. class_there p pool i mode named false n k a h ∙ method_by (seeing p pool h) mode m named o;
      sound = sound_by p mode m named o (resolved_named p named.0 m.name m.descriptor);
    })

-- two answers that are not unlike
pub same_kind : (a b : Bool) → not (beq a b) ≡ false → same_bool a b ≡ true
same_kind true true h = refl
same_kind true false h = cc
same_kind false true h = cc
same_kind false false h = refl
