-- What a reference to a method comes to (JVMS 5.4.3.3, 5.4.3.4, 6.5).
use Rattle.std.specs.Prelude.{◌≡◌, ℕ, Bool, true, false, not, ◌||◌, if◌then◌else◌, Option, Some, None}
use Rattle.vx_class.specs.Members.{STATIC}
use Rattle.vx_java.specs.Calls.{call_instance, call_static, clone_array, invoke, member_text, wrong_kind}
use Rattle.vx_java.specs.Ids.{as_method}
use Rattle.vx_java.specs.Machine.{Here, Outcome, unsupported}
use Rattle.vx_java.specs.Operation.{class_word, method_word}
use Rattle.vx_java.specs.declared.operation.Mode.{Mode}
use Rattle.vx_java.specs.declared.operation.Mode.TheVariants.{Interface, Static}
use Rattle.vx_link.specs.Names.{Member, member}
use Rattle.vx_link.specs.Parts.{PRIVATE, has, method_at}
use Rattle.vx_link.specs.Resolution.{is_array_clone}
use Rattle.vx_link.specs.declared.program.LinkedMethod.{LinkedMethod}
use Rattle.vx_link.specs.declared.program.Program.{Program}
use Rattle.vx_pool.specs.declared.pool.Pool.{Pool}
use Rattle.vx_value.specs.declared.ids.ClassId.{ClassId}
use Rattle.vx_references.specs.Fields.{seeing}
use Rattle.vx_references.specs.declared.calls.MethodReference.{MethodReference}
use Rattle.vx_references.specs.declared.calls.MethodReference.TheVariants.{Clone, Found, NoClass, NoMethod, WrongKind}

-- a method that an instruction of this mode may call: static or not, and no private one by invokeinterface
abbrev pub may_call : Mode → LinkedMethod → Bool
may_call Static m = has STATIC m.flags
may_call Interface m = not (has STATIC m.flags || has PRIVATE m.flags)
may_call mode m = not (has STATIC m.flags)

-- the call of a method that the name is resolved to
abbrev pub call_found : Here → Mode → Member → (named resolved : ℕ) → Outcome
call_found h Static m named resolved = call_static h m resolved
call_found h mode m named resolved = call_instance h mode m named resolved

-- what follows for a method that is there and for the clone of an array, and how all runs end or raise otherwise
abbrev pub by_reference : Here → Mode → Member → MethodReference → Outcome
by_reference h mode m (Found named resolved) = call_found h mode m named.0 resolved.0
by_reference h mode m (Clone named) = clone_array h mode m named.0
by_reference h mode m NoClass = unsupported h class_word m.class
by_reference h mode m NoMethod = unsupported h method_word (member_text m)
by_reference h mode m WrongKind = wrong_kind h

-- a method that is found has the name's descriptor, and may be called; the clone is that of an array, named as a class and not called by invokestatic
abbrev pub IsSound : Program → Mode → Member → MethodReference → Type 0
IsSound p mode m (Found named resolved) = (may_call mode (method_at p resolved.0) ≡ true) × ((method_at p resolved.0).descriptor ≡ m.descriptor)
IsSound p mode m (Clone named) = (is_array_clone p named.0 m.name m.descriptor ≡ true) × (m.by_interface ≡ false) × (mode ≡ Static → ⊥)
IsSound p mode m _ = Unit {0}

-- what is found in the class that is named, where the search of the name gives this
abbrev pub found_in : Program → Mode → (named : ClassId) → Option ℕ → MethodReference
found_in p mode named None = NoMethod
found_in p mode named (Some resolved) = if may_call mode (method_at p resolved) then Found named (as_method resolved) else WrongKind

-- the row of a call goes by the reference, in whichever state it stands
pub record IsMethodReference (p : Program) (pool : Pool) (i : ℕ) (mode : Mode) (reference : MethodReference) : Type 0 where
  pub decides : (h : Here) → invoke (seeing p pool h) mode i ≡ by_reference (seeing p pool h) mode (member pool i) reference
  pub sound : IsSound p mode (member pool i) reference
