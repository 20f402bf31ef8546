-- Calls and returns by their parts.
use Rattle.std.proofs.Common.{◌≡◌, ℕ, zero, suc, ◌+◌, Bool, true, false, List, [], ◌∷◌, drop, refl, sym, ap, ◌∙◌, add-one}
use Rattle.std.specs.Prelude.{None, Option, Some, slice_get, ◌==◌}
use Rattle.vx_class.specs.declared.class_file.Code.{Code}
use Rattle.vx_desc.specs.declared.java_type.JavaType.{JavaType}
use Rattle.vx_java.specs.Calls.{arguments_off, enter, if_arguments, on_receiver, with_arguments}
use Rattle.vx_java.specs.Machine as machine
use Rattle.vx_java.specs.Machine.{Here, Native, Outcome, illegal, method_text, unsupported, when}
use Rattle.vx_java.specs.Operation.{native_word}
use Rattle.vx_link.specs.Parts.{method_at}
use Rattle.vx_link.specs.Names.{Member}
use Rattle.vx_link.specs.Signature.{signature}
use Rattle.vx_plain_calls.specs.Calls.{body_by, entered}
use Rattle.vx_plain_calls.specs.declared.entering.Body.{Body}
use Rattle.vx_plain_calls.specs.declared.entering.Body.TheVariants as body
use Rattle.vx_plain_here.proofs.Operands.{no_top, top}

pub receiver_none : (h : Here) (m : Member) (named : ℕ) (below : List machine.Value) (next : ℕ → List machine.Value → Outcome) → None ≡ slice_get below 0 → illegal h ≡ on_receiver h m named below next
receiver_none h m named below next none = ap (λ os. on_receiver h m named os next) (sym (no_top below none))

pub receiver_some : (h : Here) (m : Member) (named : ℕ) (below : List machine.Value) (next : ℕ → List machine.Value → Outcome) (o : machine.Value) → Some o ≡ slice_get below 0 → on_receiver h m named (o ∷ drop 1 below) next ≡ on_receiver h m named below next
receiver_some h m named below next o there = ap (λ os. on_receiver h m named os next) (sym (top below o there))

-- an operand below others
pub under : (operands : List machine.Value) (n : ℕ) → slice_get operands n ≡ slice_get (drop n operands) 0
under operands zero = refl
under [] (suc n) = refl
under (v ∷ rest) (suc n) = under rest n

pub drop_more : (operands : List machine.Value) (n : ℕ) → drop 1 (drop n operands) ≡ drop (n + 1) operands
drop_more operands n = rw add-one (one_more operands n)
  where
    one_more : (operands : List machine.Value) (n : ℕ) → drop 1 (drop n operands) ≡ drop (suc n) operands
    one_more operands zero = refl
    one_more [] (suc n) = refl
    one_more (v ∷ rest) (suc n) = one_more rest n

-- ---- arguments

pub arguments_given : (h : Here) (m : Member) (next : List machine.Value → List machine.Value → Outcome) (types : List JavaType) (values rest : List machine.Value) → types ≡ (signature m.descriptor).arguments → Some (values, rest) ≡ arguments_off types h.state.top.operands
    → next values rest ≡ with_arguments h m next
arguments_given h m next types values rest is given = ap (λ o. if_arguments h o next) given ∙ ap (λ ts. if_arguments h (arguments_off ts h.state.top.operands) next) is

-- ---- the body of a method

abbrev without : Bool → Body
without b = elim b as (λ _. Body) [ true ↦ body.Missing | false ↦ body.Native ]

pub has_code : (h : Here) (m native : ℕ) (code : Option Code) (values rest : List machine.Value) → body.Code ≡ body_by native code → entered h m values rest ≡ enter h m code values rest
has_code h m native (Some code) values rest e = refl
has_code h m native None values rest e = other (native == 0) e
  where
    other : (b : Bool) → body.Code ≡ without b → entered h m values rest ≡ enter h m None values rest
    other true k = cc
    other false k = cc

pub is_native : (h : Here) (m : ℕ) (code : Option Code) (values rest : List machine.Value) → body.Native ≡ body_by (method_at h.program m).native code → Native m h.state ≡ enter h m code values rest
is_native h m (Some code) values rest e = cc
is_native h m None values rest e = other ((method_at h.program m).native == 0) e
  where
    other : (b : Bool) → body.Native ≡ without b → Native m h.state ≡ when b (unsupported h native_word (method_text h.program (method_at h.program m))) (Native m h.state)
    other true k = cc
    other false k = refl

pub is_missing : (h : Here) (m : ℕ) (code : Option Code) (values rest : List machine.Value) → body.Missing ≡ body_by (method_at h.program m).native code → unsupported h native_word (method_text h.program (method_at h.program m)) ≡ enter h m code values rest
is_missing h m (Some code) values rest e = cc
is_missing h m None values rest e = other ((method_at h.program m).native == 0) e
  where
    other : (b : Bool) → body.Missing ≡ without b → unsupported h native_word (method_text h.program (method_at h.program m)) ≡ when b (unsupported h native_word (method_text h.program (method_at h.program m))) (Native m h.state)
    other true k = refl
    other false k = cc
