-- What native methods hand back: a number, a text, an object that is there, or nothing; and what they raise.
use Rattle.std.proofs.Common.{Bool, List, None, Option, Some, [], false, refl, subst, true, ℕ, ℤ, ◌++◌, ◌∷◌, ◌≡◌}
use Prim.Native.String.{String}
use Rattle.std.specs.Prelude.{length, nat_lt}
use Rattle.vx_java.specs.FirstObjects.{string_object}
use Rattle.vx_java.specs.Machine.{Here, Int, Long, Object, Outcome, Ref, Value, go, length_bound, push_new, raise, when}
use Rattle.vx_java.specs.Texts.{answer_bool, answer_text, if_short, if_spelled}
use Rattle.vx_link.specs.ClassNames.{core_class}
use Rattle.vx_sound.proofs.Assigned.{core_there, is_named}
use Rattle.vx_sound.proofs.Changes.{makes}
use Rattle.vx_sound.proofs.Names.{core_class_type, first_fits}
use Rattle.vx_sound.proofs.Sites.{AtSite, LeadsTo, Typed, behind, goes_under, goes_with, raises, types_in, types_with}
use Rattle.vx_sound.specs.Sound.{IsFirstOf, named_classes}
use Rattle.vx_sound.specs.Typed.{IsTypedObject, Typings}
use Rattle.vx_sound.specs.Values.{type_of_class, type_of_reference, type_of_value}
use Rattle.vx_sound_natives.proofs.ValueKinds.{IsAt, Kind, a_long, an_int, an_object, at_fits, core_type, result_type, type_of_kind}
use Rattle.vx_types.proofs.FitLaws.{fits_itself}
use Rattle.vx_types.specs.Fits.{fits}
use Rattle.vx_types.specs.Flow.{put}
use Rattle.vx_types.specs.Ranked.{IsRanked}
use Rattle.vx_types.specs.declared.types.VerType.{VerType}
use Rattle.vx_kept_facts.proofs.Claims.{is_raised}

-- the caller goes on behind the call with a value of a kind, or with none
abbrev pub Leads : Typings → Here → List Value → Option Kind → Type 0
Leads typings h rest kind = LeadsTo typings h (behind h ∷ []) (types_with h (put (result_type h.program kind) (types_in h rest)))

module _ (typings : Typings) (h : Here) (site : AtSite typings h) (rest : List Value) where
  pub ranked : IsRanked h.program
  ranked = site.sound.hierarchy.ranked

  -- ---- exceptions

  pub raised_back : (name : String) → is_raised name ≡ true → Typed typings h (raise h name)
  raised_back name among = raises typings h site name None among

  pub no_reference : Typed typings h (raise h "java/lang/NullPointerException")
  no_reference = raised_back "java/lang/NullPointerException" refl

  pub no_index : Typed typings h (raise h "java/lang/StringIndexOutOfBoundsException")
  no_index = raised_back "java/lang/StringIndexOutOfBoundsException" refl

  -- ---- nothing, and numbers

  pub nothing_back : Leads typings h rest None → Typed typings h (go h rest)
  nothing_back on = goes_under typings h site rest (types_in h rest) refl on

  pub value_back : (kind : Kind) → Leads typings h rest (Some kind) → (v : Value) → fits h.program (type_of_value h.program h.state.heap v) (type_of_kind h.program kind) ≡ true
      → Typed typings h (go h (v ∷ rest))
  value_back kind on v fit = goes_with typings h site v rest (type_of_kind h.program kind) (types_in h rest) fit refl on

  pub int_back : Leads typings h rest (Some an_int) → (n : ℤ) → Typed typings h (go h (Int n ∷ rest))
  int_back on n = value_back an_int on (Int n) refl

  pub long_back : Leads typings h rest (Some a_long) → (n : ℤ) → Typed typings h (go h (Long n ∷ rest))
  long_back on n = value_back a_long on (Long n) refl

  pub bool_back : Leads typings h rest (Some an_int) → (b : Bool) → Typed typings h (answer_bool h rest b)
  bool_back on true = int_back on _
  bool_back on false = int_back on _

  -- ---- objects

  -- a core class has its type
  pub class_is : (name : String) → is_named named_classes name ≡ true → type_of_class h.program (core_class h.program name) ≡ core_type h.program name
  class_is name named = core_class_type h.program name (core_there h.program site.sound.core name named)

  pub object_back : (name : String) → Leads typings h rest (Some (an_object name)) → (r : ℕ) → IsAt h.program h.state.heap (core_type h.program name) r → Typed typings h (go h (Ref r ∷ rest))
  object_back name on r at = value_back (an_object name) on (Ref r) (at_fits h.program h.state.heap (core_type h.program name) r at)

  -- one of those with which the heap begins
  pub first_back : (name : String) → is_named named_classes name ≡ true → Leads typings h rest (Some (an_object name)) → (r : ℕ) → IsFirstOf h.program r (core_class h.program name)
      → Typed typings h (go h (Ref r ∷ rest))
  first_back name named on r first =
      value_back (an_object name) on (Ref r)
      (subst (λ (t : VerType). fits h.program (type_of_reference h.program h.state.heap r) t ≡ true) (class_is name named)
      (first_fits h.program ranked h.state.heap site.state.heap r (core_class h.program name) first))

  -- a new one
  pub new_back : (kind : Kind) → Leads typings h rest (Some kind) → (o : Object) → type_of_class h.program o.class ≡ type_of_kind h.program kind → IsTypedObject h.program (h.state.heap ++ (o ∷ [])) o
      → Typed typings h (push_new h o rest)
  new_back kind on o class typed =
      makes typings h site o rest (type_of_kind h.program kind) (types_in h rest) typed
      (subst (λ (t : VerType). fits h.program (type_of_class h.program o.class) t ≡ true) class (fits_itself h.program ranked (type_of_class h.program o.class))) refl on

  -- ---- texts

  pub short_back : (units : List ℕ) (next : Outcome) → Typed typings h next → Typed typings h (if_short h units next)
  short_back units next typed = by (nat_lt length_bound (length units))
    where
      by : (b : Bool) → Typed typings h (when b (raise h "java/lang/OutOfMemoryError") next)
      by true = raised_back "java/lang/OutOfMemoryError" refl
      by false = typed

  pub text_back : Leads typings h rest (Some (an_object "java/lang/String")) → (units : List ℕ) → Typed typings h (answer_text h rest units)
  text_back on units =
      short_back units (push_new h (string_object h.program units) rest)
      (new_back (an_object "java/lang/String") on (string_object h.program units) (class_is "java/lang/String" refl) (site.sound.objects.strings (h.state.heap ++ (string_object h.program units ∷ [])) units))

  -- a value that has a text, or a null array of chars
  pub spelled_back : (spelled : Option (List ℕ)) (next : List ℕ → Outcome) → ((units : List ℕ) → Typed typings h (next units)) → Typed typings h (if_spelled h spelled next)
  spelled_back None next each = no_reference
  spelled_back (Some units) next each = each units
