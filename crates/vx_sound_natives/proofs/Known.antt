-- A native method with what it is called on, what it is given and what it hands back, and that it keeps to types so.
use Rattle.std.proofs.Common.{Bool, List, None, Option, Some, false, true, ℕ, ◌∷◌}
use Prim.Native.String.{String}
use Rattle.vx_java.specs.Machine.{Here, Outcome, Ref, Value, when}
use Rattle.vx_java.specs.Texts.{NativeMethod}
use Rattle.vx_sound.proofs.Sites.{AtSite, Typed}
use Rattle.vx_sound.specs.Typed.{Typings}
use Rattle.vx_sound_natives.proofs.ValueKinds.{Each, IsAt, Kind, core_type}
use Rattle.vx_sound_natives.proofs.Results.{Leads}

-- what it comes to is typed: on an object of a core class, or on none
abbrev pub Keeps : (receiver : Option String) → List Kind → Option Kind → NativeMethod → Type 0
Keeps None arguments result f =
    (typings : Typings) (h : Here) (site : AtSite typings h) (rest : List Value) → Leads typings h rest result
    → Each h.program h.state.heap arguments (λ values. Typed typings h (f h values rest))
Keeps (Some class) arguments result f =
    (typings : Typings) (h : Here) (site : AtSite typings h) (rest : List Value) → Leads typings h rest result
    → (r : ℕ) → IsAt h.program h.state.heap (core_type h.program class) r → Each h.program h.state.heap arguments (λ values. Typed typings h (f h (Ref r ∷ values) rest))

pub record Known : Type 0 where
  pub method : NativeMethod
  pub receiver : Option String
  pub arguments : List Kind
  pub result : Option Kind
  pub keeps : Keeps receiver arguments result method

abbrev pub knows : (f : NativeMethod) (receiver : Option String) (arguments : List Kind) (result : Option Kind) → Keeps receiver arguments result f → Known
knows f receiver arguments result keeps = record { method = f; receiver = receiver; arguments = arguments; result = result; keeps = keeps }

-- one outcome or another
pub either_typed : (typings : Typings) (h : Here) (b : Bool) (x y : Outcome) → Typed typings h x → Typed typings h y → Typed typings h (when b x y)
either_typed typings h true x y first second = first
either_typed typings h false x y first second = second
