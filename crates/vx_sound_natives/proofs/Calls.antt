-- A native method at its call: it is given what its form says, and the caller goes on with what it hands back.
use Rattle.std.proofs.Common.{Bool, List, None, Option, Some, [], ap, arith, bytes_eq, codes, false, inl, is_some, length, refl, subst, sym, true, ℕ, ◌&&◌, ◌++◌, ◌+◌, ◌∙◌, ◌∷◌, ◌≡◌, ◌≤◌}
use Prim.Native.String.{String}
use Rattle.std.proofs.lemmas.Bool.{ltb-true}
use Rattle.std.proofs.lemmas.Slice.Eq.{bytes_eq-Decides}
use Rattle.std.proofs.lemmas.List.Elements.{All-cons, All-nil}
use Rattle.std.specs.Prelude.{if◌then◌else◌, option_map, unwrap_or}
use Rattle.vx_class.specs.Members.{STATIC}
use Rattle.vx_class.specs.declared.class_file.Code.{Code}
use Rattle.vx_desc.specs.declared.java_type.JavaType.{JavaType}
use Rattle.vx_java.specs.Calls.{if_arguments}
use Rattle.vx_java.specs.Checks.{same_bool}
use Rattle.vx_java.specs.Ids.{as_class}
use Rattle.vx_java.specs.Machine.{Here, Ref, Value, illegal, no_object, when}
use Rattle.vx_java.specs.NativeForms.{Form, form_of, has_form, is_form}
use Rattle.vx_java.specs.Natives.{apply, apply_to, are_wanted, as_read, carried_out, native, native_of, room_for}
use Rattle.vx_java.specs.Returns.{bytes_of, instruction_size}
use Rattle.vx_java.specs.Texts.{NativeMethod}
use Rattle.vx_kept_facts.proofs.NativeRows.{seen}
use Rattle.vx_link.specs.ClassNames.{class_of_name, core_class, object_class}
use Rattle.vx_link.specs.Hierarchy.{is_among, superclasses}
use Rattle.vx_link.specs.Parts.{has, method_at}
use Rattle.vx_link.specs.Signature.{signature}
use Rattle.vx_link.specs.declared.program.LinkedMethod.{LinkedMethod}
use Rattle.vx_link.specs.declared.program.Program.{Program}
use Rattle.vx_list.specs.Places.{item_or}
use Rattle.vx_opcode.specs.Decode.{instruction_at}
use Rattle.vx_sound.proofs.Assigned.{is_named}
use Rattle.vx_sound.proofs.ArrayRows.{room_for as room_there}
use Rattle.vx_sound.proofs.Classes.{instance_there}
use Rattle.vx_sound.proofs.Fields.{width_typed}
use Rattle.vx_sound.proofs.Sites.{AtSite, LeadsTo, Typed, behind, types_in, types_with}
use Rattle.vx_sound.proofs.Values.{none_some, object_there, some_same}
use Rattle.vx_sound.specs.Law.{NativesKeepTypes}
use Rattle.vx_sound.specs.Sound.{IsBelowCore, class_of_number, named_classes}
use Rattle.vx_sound.specs.Typed.{AreOfTypes, IsOnReceiver, IsResumed, IsTypedNative, IsTypedOutcome, IsTypingOf, IsUnderArguments, Typings, position_behind, type_handed}
use Rattle.vx_sound.specs.Values.{type_of_class, type_of_reference}
use Rattle.vx_sound_natives.proofs.Given.{kind_type, values_read, values_wanted}
use Rattle.vx_sound_natives.proofs.Known.{Keeps, Known}
use Rattle.vx_sound_natives.proofs.Results.{Leads}
use Rattle.vx_sound_natives.proofs.Table.{IsKnown, has_name, kinds_agree, native_known, receiver_agrees, result_agrees}
use Rattle.vx_sound_natives.proofs.ValueKinds.{Each, IsAt, Kind, core_type, of_each, result_type, type_of_kind}
use Rattle.vx_types.proofs.FitLaws.{fits_through, ref_from}
use Rattle.vx_types.proofs.Lists.{size_below}
use Rattle.vx_types.proofs.Tests.{both, both_first, both_second, or_second}
use Rattle.vx_types.specs.Fits.{fits, is_object}
use Rattle.vx_types.specs.Flow as flow
use Rattle.vx_types.specs.Flow.{put}
use Rattle.vx_types.specs.Types.{VerState, class_type, type_of}
use Rattle.vx_types.specs.declared.types.ElementType.TheVariants as element
use Rattle.vx_types.specs.declared.types.VerType.{VerType}
use Rattle.vx_types.specs.declared.types.VerType.TheVariants as is
use Rattle.vx_verify.specs.Typing.{IsReached}

-- ---- the form of a method

-- the form of a native method's number, which it has
record HasNumber (m : LinkedMethod) : Type 0 where
  pub form : Form
  pub there : form_of m.native ≡ Some form
  pub descriptor : m.descriptor ≡ form.descriptor
  pub static : form.static ≡ has STATIC m.flags

same_tests : (a b : Bool) → same_bool a b ≡ true → a ≡ b
same_tests true true h = refl
same_tests true false h = absurd cc
same_tests false true h = absurd cc
same_tests false false h = refl

form_there : (m : LinkedMethod) → has_form m ≡ true → is_some (form_of m.native) ≡ true → HasNumber m
form_there m has_it some = by (form_of m.native) refl has_it some
  where
    by : (o : Option Form) → form_of m.native ≡ o → is_form o m ≡ true → is_some o ≡ true → HasNumber m
    by None e h s = absurd cc
    by (Some f) e h s = record {
      form = f;
      there = e;
      descriptor = (bytes_eq-Decides m.descriptor f.descriptor).0 (both_first (bytes_eq m.descriptor f.descriptor) (same_bool f.static (has STATIC m.flags)) h);
      static = same_tests f.static (has STATIC m.flags) (both_second (bytes_eq m.descriptor f.descriptor) (same_bool f.static (has STATIC m.flags)) h);
    }

-- what a native method's number says of it: what it is called on, what it is given and what it hands back
record IsNative (p : Program) (m : LinkedMethod) : Type 0 where
  pub entry : Known
  pub method : native_of m.native ≡ entry.method
  pub receiver : receiver_agrees m.native entry.receiver (has STATIC m.flags) ≡ true
  pub arguments : kinds_agree m.descriptor entry.arguments (signature m.descriptor).arguments ≡ true
  pub result : result_agrees m.descriptor entry.result (signature m.descriptor).result ≡ true

is_native : (p : Program) (m : LinkedMethod) → HasNumber m → IsNative p m
is_native p m q = record {
  entry = k.entry;
  method = k.method;
  receiver = subst (λ s. receiver_agrees m.native k.entry.receiver s ≡ true) q.static (both_first (receiver_agrees m.native k.entry.receiver f.static) _ k.agrees);
  arguments = subst (λ (d : List ℕ). kinds_agree d k.entry.arguments (signature d).arguments ≡ true) (sym q.descriptor)
      (both_first (kinds_agree f.descriptor k.entry.arguments (signature f.descriptor).arguments) (result_agrees f.descriptor k.entry.result (signature f.descriptor).result) rest);
  result = subst (λ (d : List ℕ). result_agrees d k.entry.result (signature d).result ≡ true) (sym q.descriptor)
      (both_second (kinds_agree f.descriptor k.entry.arguments (signature f.descriptor).arguments) (result_agrees f.descriptor k.entry.result (signature f.descriptor).result) rest);
}
  where
    f : Form
    f = q.form

    k : IsKnown m.native q.form
    k = native_known m.native q.form q.there

    rest : (kinds_agree f.descriptor k.entry.arguments (signature f.descriptor).arguments && result_agrees f.descriptor k.entry.result (signature f.descriptor).result) ≡ true
    rest = both_second (receiver_agrees m.native k.entry.receiver f.static) _ k.agrees

-- ---- at a call

module _ (typings : Typings) (h : Here) (site : AtSite typings h) (n : ℕ) where
  abbrev m : LinkedMethod
  m = method_at h.program n

  -- the caller goes on with what is handed back
  leads_back : (rest : List Value) (result : Option Kind) → result_agrees m.descriptor result (signature m.descriptor).result ≡ true
      → IsResumed h.program typings h.state.top.method (behind h) (types_with h (types_in h rest)) (type_handed h.program n) → Leads typings h rest result
  leads_back rest result agrees resumed = of_reached (reached result (signature m.descriptor).result agrees resumed)
    where
      made : VerState
      made = types_with h (put (result_type h.program result) (types_in h rest))

      reached : (k : Option Kind) (o : Option JavaType) → result_agrees m.descriptor k o ≡ true
          → IsResumed h.program typings h.state.top.method (behind h) (types_with h (types_in h rest)) (option_map (type_of h.program m.descriptor) o)
          → IsReached h.program (typings h.state.top.method) (behind h) (types_with h (put (result_type h.program k) (types_in h rest)))
      reached None None a r = r
      reached None (Some t) a r = absurd cc
      reached (Some k) None a r = absurd cc
      reached (Some k) (Some t) a r =
          subst (λ (o : Option VerType). IsResumed h.program typings h.state.top.method (behind h) (types_with h (types_in h rest)) (Some o)) (kind_type h.program site.sound m.descriptor t k a) r

      room_in : (code : Option Code) → code ≡ Some h.code → IsTypingOf h.program h.state.top.method code (typings h.state.top.method) → (s : VerState) → typings h.state.top.method (behind h) ≡ Some s
          → flow.stack_size s.operands ≤ h.code.max_stack
      room_in None e are s covered = none_some e
      room_in (Some code) e are s covered = subst (λ (c : Code). flow.stack_size s.operands ≤ c.max_stack) (some_same e) (are.operands (behind h) s covered).room

      of_reached : IsReached h.program (typings h.state.top.method) (behind h) made → LeadsTo typings h (behind h ∷ []) made
      of_reached r = record {
        room =
            let room = room_in (method_at h.program h.state.top.method).code site.code (site.are h.state.top.method) r.state r.covered in
            let below = size_below h.program made.operands r.state.operands r.fitting.operands in
            omega (arith, room, below);
        reached = All-cons (λ position. IsReached h.program (typings h.state.top.method) position made) (behind h) [] r (All-nil (λ position. IsReached h.program (typings h.state.top.method) position made));
      }

  -- there is room for it
  room_back : (rest : List Value) (k : Option Kind) (o : Option JavaType) → result_agrees m.descriptor k o ≡ true → Leads typings h rest k → room_for h o rest ≡ true
  room_back rest None None agrees on = refl
  room_back rest None (Some t) agrees on = absurd cc
  room_back rest (Some k) None agrees on = absurd cc
  room_back rest (Some k) (Some t) agrees on =
      room_there typings h site _ (type_of_kind h.program k) rest (types_in h rest)
      (width_typed h.program m.descriptor t (type_of_kind h.program k) (kind_type h.program site.sound m.descriptor t k agrees)) refl on

  module _ (known : IsNative h.program m) (values rest : List Value) (are : AreOfTypes h.program h.state.heap m.descriptor (signature m.descriptor).arguments values)
      (on : Leads typings h rest known.entry.result) where
    read : List Value
    read = as_read (signature m.descriptor).arguments values

    -- what it comes to behind its questions
    applied : (receiver : List Value) → Typed typings h (known.entry.method h (receiver ++ as_read (signature m.descriptor).arguments values) rest) → Typed typings h (apply h m receiver values rest)
    applied receiver typed =
        subst (λ b. Typed typings h (when b (native_of m.native h (receiver ++ as_read (signature m.descriptor).arguments values) rest) (illegal h)))
        (sym (both (are_wanted h m.descriptor (signature m.descriptor).arguments values) (room_for h (signature m.descriptor).result rest)
        (values_wanted h site.sound m.descriptor known.entry.arguments (signature m.descriptor).arguments known.arguments values are)
        (room_back rest known.entry.result (signature m.descriptor).result known.result on)))
        (subst (λ (f : NativeMethod). Typed typings h (f h (receiver ++ as_read (signature m.descriptor).arguments values) rest)) (sym known.method) typed)

    abbrev Read : (List Value → Type 0) → Type 0
    Read P = Each h.program h.state.heap known.entry.arguments P

    all_read : (P : List Value → Type 0) → Read P → P (as_read (signature m.descriptor).arguments values)
    all_read P each =
        of_each h.program h.state.heap known.entry.arguments (as_read (signature m.descriptor).arguments values) P
        (values_read h.program site.sound h.state.heap m.descriptor known.entry.arguments (signature m.descriptor).arguments known.arguments values are) each

    -- on no object
    static_applied : (receiver : Option String) → Keeps receiver known.entry.arguments known.entry.result known.entry.method → receiver_agrees m.native receiver true ≡ true → Typed typings h (apply h m [] values rest)
    static_applied None keeps agrees = applied [] (all_read (λ vs. Typed typings h (known.entry.method h vs rest)) (keeps typings h site rest on))
    static_applied (Some name) keeps agrees = absurd cc

    -- on an object of its class
    object_applied : (receiver : Option String) → Keeps receiver known.entry.arguments known.entry.result known.entry.method → receiver_agrees m.native receiver false ≡ true
        → ((name : String) → class_of_number m.native ≡ Some name → IsBelowCore h.program m.class.0 name) → (r : ℕ)
        → fits h.program (type_of_reference h.program h.state.heap r) (class_type h.program m.class.0) ≡ true → Typed typings h (apply_to h m values (Ref r ∷ rest))
    object_applied None keeps agrees classes r fit = absurd cc
    object_applied (Some name) keeps agrees classes r fit = by (class_of_number m.native) refl agrees
      where
        -- its objects are of the method's class, which is below that of the number
        of_class : IsBelowCore h.program m.class.0 name → Typed typings h (apply_to h m values (Ref r ∷ rest))
        of_class q =
            let own : VerType = is.Ref 0 (element.Class (as_class m.class.0)) in
            let owned : fits h.program (type_of_reference h.program h.state.heap r) own ≡ true =
            subst (λ (t : VerType). fits h.program (type_of_reference h.program h.state.heap r) t ≡ true)
            (ap (λ b. is.Ref 0 (element.Class (as_class (if b then object_class h.program else m.class.0)))) q.proper) fit in
            let above : fits h.program own (core_type h.program name) ≡ true =
            ref_from h.program 0 (element.Class (as_class m.class.0)) 0 (element.Class (as_class (core_class h.program name)))
            (inl (refl, or_second (is_object h.program (element.Class (as_class (core_class h.program name)))) (is_among (core_class h.program name) (superclasses h.program m.class.0)) q.below)) in
            let typed = fits_through h.program site.sound.hierarchy.ranked (type_of_reference h.program h.state.heap r) own (core_type h.program name) owned above in
            let there = object_there h.program h.state.heap r (core_type h.program name) typed refl in
            let at : IsAt h.program h.state.heap (core_type h.program name) r = record {
              there = ltb-true r (length h.state.heap) there;
              fit = subst (λ (t : VerType). fits h.program t (core_type h.program name) ≡ true)
                  (ap (λ b. if b then type_of_class h.program (item_or h.state.heap r no_object).class else is.Top) there) typed;
            } in
            subst (λ b. Typed typings h (when b (apply h m (Ref r ∷ []) values rest) (illegal h)))
            (sym (instance_there h site.sound.hierarchy m.class.0 (Ref r) owned))
            (applied (Ref r ∷ []) (all_read (λ vs. Typed typings h (known.entry.method h (Ref r ∷ vs) rest)) (keeps typings h site rest on r at)))

        by : (o : Option String) → class_of_number m.native ≡ o → has_name name o ≡ true → Typed typings h (apply_to h m values (Ref r ∷ rest))
        by None e a = absurd cc
        by (Some other) e a =
            let same = (bytes_eq-Decides (codes other) (codes name)).0 (both_first (bytes_eq (codes other) (codes name)) (is_named named_classes name) a) in
            let q = classes other e in
            of_class (record {
              proper = q.proper;
              below = subst (λ c. is_among c (superclasses h.program m.class.0) ≡ true) (ap (λ (text : List ℕ). unwrap_or (class_of_name h.program text) 0) same) q.below;
            })

  -- ---- carrying out

  carried_out_typed : HasNumber m → ((name : String) → class_of_number m.native ≡ Some name → IsBelowCore h.program m.class.0 name) → IsTypedNative h.program typings n h.state
      → behind h ≡ position_behind h.program h.state.top → Typed typings h (carried_out h m)
  carried_out_typed number classes typed same =
      subst (λ (o : Option (List Value × List Value)).
      Typed typings h (if_arguments h o (λ arguments below. when (has STATIC m.flags) (apply h m [] arguments below) (apply_to h m arguments below)))) (sym typed.taken)
      (by (has STATIC m.flags) refl typed.under)
    where
      known : IsNative h.program m
      known = is_native h.program m number

      on : Leads typings h typed.rest known.entry.result
      on =
          leads_back typed.rest known.entry.result known.result
          (subst (λ position. IsResumed h.program typings h.state.top.method position (types_with h (types_in h typed.rest)) (type_handed h.program n)) (sym same) typed.waits.resumed)

      static_typed : has STATIC m.flags ≡ true → typed.below ≡ typed.rest → Typed typings h (apply h m [] typed.values typed.below)
      static_typed static under =
          subst (λ (vs : List Value). Typed typings h (apply h m [] typed.values vs)) (sym under)
          (static_applied known typed.values typed.rest typed.arguments on known.entry.receiver known.entry.keeps (subst (λ s. receiver_agrees m.native known.entry.receiver s ≡ true) static known.receiver))

      object_typed : has STATIC m.flags ≡ false → IsOnReceiver h.program h.state.heap n typed.below typed.rest → Typed typings h (apply_to h m typed.values typed.below)
      object_typed instance under =
          subst (λ (vs : List Value). Typed typings h (apply_to h m typed.values vs)) (sym under.is)
          (object_applied known typed.values typed.rest typed.arguments on known.entry.receiver known.entry.keeps (subst (λ s. receiver_agrees m.native known.entry.receiver s ≡ true) instance known.receiver)
          classes under.object under.class)

      by : (b : Bool) → has STATIC m.flags ≡ b → IsUnderArguments h.program h.state.heap n b typed.below typed.rest
          → Typed typings h (when b (apply h m [] typed.values typed.below) (apply_to h m typed.values typed.below))
      by true static under = static_typed static under
      by false instance under = object_typed instance under

pub natives_keep_types : NativesKeepTypes
natives_keep_types p typings s m sound are typed native = by (method_at p s.top.method).code refl (are s.top.method)
  where
    number : HasNumber (method_at p m)
    number = form_there (method_at p m) (sound.natives.forms m) (sound.natives.numbers m native.numbered)

    of_code : (code : Code) → (method_at p s.top.method).code ≡ Some code → IsTypedOutcome p typings (carried_out (seen p s (Some code)) (method_at p m))
    of_code code coded =
        carried_out_typed typings (seen p s (Some code)) (record { sound = sound; are = are; code = coded; pool = refl; state = typed }) m number (sound.natives.classes m) native
        (ap (λ (o : Option Code). s.top.position + instruction_size (instruction_at (bytes_of o) s.top.position)) (sym coded))

    by : (o : Option Code) → (method_at p s.top.method).code ≡ o → IsTypingOf p s.top.method o (typings s.top.method) → IsTypedOutcome p typings (carried_out (seen p s o) (method_at p m))
    by None coded is = none_some (sym (is s.top.position) ∙ typed.top.covered)
    by (Some code) coded is = of_code code coded
