-- The rows of calls: the arguments and the receiver are such as the selected method is given.
use Rattle.std.proofs.Common.{Bool, List, None, Option, Some, [], ap, arith, false, inl, inr, length, not, refl, subst, suc, sym, true, unwrap_or, zero, ℕ, ◌++◌, ◌+◌, ◌-◌, ◌<◌, ◌∙◌, ◌∷◌, ◌≡◌, ◌⊎◌}
use Rattle.std.proofs.lemmas.Bool.{not-true}
use Rattle.std.proofs.lemmas.Bool.Decides.{Decides-eqb}
use Rattle.std.proofs.lemmas.List.Elements.{All-head}
use Rattle.std.specs.Prelude.{if◌then◌else◌, nat_eq, nat_lt, option_map, ◌&&◌, ◌==◌, ◌||◌}
use Rattle.vx_class.specs.Members.{STATIC}
use Rattle.vx_class.specs.declared.class_file.Code.{Code}
use Rattle.vx_desc.specs.Names.{is_init}
use Rattle.vx_desc.specs.declared.java_type.JavaType.{JavaType}
use Rattle.vx_desc.specs.declared.java_type.Base.TheVariants as base
use Rattle.vx_java.specs.Arrays.{element_bases}
use Rattle.vx_java.specs.Calls.{arguments_off, begins_above, call_instance, call_resolved, call_static, carry_out, clone_array, dispatch, if_arguments, if_method, invoke, is_receiver, on_class, on_receiver, selection, wrong_kind}
use Rattle.vx_java.specs.Checks.{if_there, is_instance_of, is_object, is_of, non_null, same_bool}
use Rattle.vx_java.specs.Ids.{as_class}
use Rattle.vx_java.specs.Initialisation.{when_initialised}
use Rattle.vx_java.specs.Machine.{Here, Null, current_class, Object, Outcome, Ref, Value, in_state, object_at, push_new, when, illegal}
use Rattle.vx_java.specs.Operation.{operation_of}
use Rattle.vx_java.specs.Returns.{bytes_of, instruction_size}
use Rattle.vx_java.specs.Row.{row_if, row_in}
use Rattle.vx_java.specs.Row as machine
use Rattle.vx_java.specs.Selection.{select_special, selected_if_concrete}
use Rattle.vx_java.specs.declared.operation.Mode.{Mode}
use Rattle.vx_java.specs.declared.operation.Mode.TheVariants.{Interface, Special, Static, Virtual}
use Rattle.vx_java.specs.declared.operation.Operation.{Operation}
use Rattle.vx_java.specs.declared.operation.Operation.TheVariants.{Invoke}
use Rattle.vx_java.specs.declared.operation.Sort.TheVariants as sort
use Rattle.vx_java.specs.declared.selected.Selected.{Selected}
use Rattle.vx_java.specs.declared.selected.Selected.TheVariants.{Abstract, Conflict, Method}
use Rattle.vx_link.specs.Assignability.{assignable}
use Rattle.vx_link.specs.ClassNames.{class_named, dimensions_of, element_of, is_array, object_class}
use Rattle.vx_link.specs.Hierarchy.{chain_within, is_among, is_proper_superclass, superclass_of, superclasses, superinterfaces}
use Rattle.vx_link.specs.Names.{Member, member}
use Rattle.vx_link.specs.Parts.{PRIVATE, class_at, class_count, has, is_abstract, is_interface, method_at}
use Rattle.vx_link.specs.Resolution.{any_method, is_array_clone, resolve_method}
use Rattle.vx_link.specs.Signature.{signature}
use Rattle.vx_link.specs.declared.program.Program.{Program}
use Rattle.vx_list.specs.Places.{item_or}
use Rattle.vx_opcode.specs.Decode.{instruction_at}
use Rattle.vx_opcode.specs.declared.instruction.Instruction.{Instruction}
use Rattle.vx_pool.specs.declared.pool.Pool.{Pool}
use Rattle.vx_sound.proofs.Assigned.{class_assigned, interface_plain, object_takes}
use Rattle.vx_sound.proofs.Calling.{HasArguments, IsCall, IsReceived, arguments_there, entered}
use Rattle.vx_sound.proofs.Changes.{makes, site_ready, when_ready}
use Rattle.vx_sound.proofs.ClassNumbers.{array_root, class_below, some_dimensions}
use Rattle.vx_sound.proofs.ClassTypes.{array_type_is, plain_type, primitives_type, references_type}
use Rattle.vx_sound.proofs.Classes.{class_there}
use Rattle.vx_sound.proofs.Elements.{IsObjectOf, of_reference}
use Rattle.vx_sound.proofs.Heaps.{appended_later, object_later}
use Rattle.vx_sound.proofs.Led.{IsLed, led}
use Rattle.vx_sound.proofs.Names.{named_here}
use Rattle.vx_sound.proofs.Returning.{wanted_there}
use Rattle.vx_sound.proofs.Selecting.{IsMethodFor, SelectsFor, concrete_for, resolved_for, resolved_instance, select_for, selects_below, special_for}
use Rattle.vx_sound.proofs.Sites.{AtSite, LeadsTo, Typed, behind, raises, types_here, types_in, types_with}
use Rattle.vx_sound.proofs.Taken.{on_top, taken_from}
use Rattle.vx_sound.proofs.Unwinding.{reference_there}
use Rattle.vx_sound.proofs.Values.{class_reference, none_some, some_same}
use Rattle.vx_sound.specs.Law.{OperationsKeepTypes, is_call}
use Rattle.vx_sound.specs.Typed.{AreOfTypes, IsResumed, IsTypedOutcome, IsUnderArguments, Typings, position_behind}
use Rattle.vx_sound.specs.Values.{type_of_class, type_of_reference, type_of_value}
use Rattle.vx_types.proofs.FitLaws.{RefFits, fits_through, ref_tells}
use Rattle.vx_types.proofs.Tests.{both_first, both_second, either, not_both, or_first, or_second}
use Rattle.vx_types.specs.Fits.{fits}
use Rattle.vx_types.specs.Flow.{after, meets, taken, targets_by}
use Rattle.vx_types.specs.Rows as rows
use Rattle.vx_types.specs.Types.{VerState, class_type, element_of_class, object_type, ref_of, type_of}
use Rattle.vx_types.specs.declared.types.Row.{Row}
use Rattle.vx_types.specs.declared.types.Row.TheVariants.{Ends, Takes}
use Rattle.vx_types.specs.declared.types.ElementType.TheVariants as element
use Rattle.vx_types.specs.declared.types.VerType.{VerType}
use Rattle.vx_types.specs.declared.types.VerType.TheVariants as is
use Rattle.vx_types.specs.declared.types.Want.{Want}
use Rattle.vx_types.specs.declared.types.Want.TheVariants.{FitsBoth}
use Rattle.vx_value.specs.declared.slot.InitState.{InitState}
use Rattle.vx_verify.specs.Typing.{IsReached}

-- what fits an array is one
array_below : (p : Program) (named c : ℕ) → is_array p named ≡ true → fits p (type_of_class p c) (type_of_class p named) ≡ true → is_array p c ≡ true
array_below p named c array fit = by (is_array p c) refl
  where
    d : ℕ
    d = dimensions_of p named

    e : ℕ
    e = element_of p named

    of_low : fits p (class_type p c) (is.Ref (d - 1) (element.Primitives (item_or element_bases e base.Int))) ≡ true → ⊥
    of_low k = by_fit (ref_tells p 0 (element_of_class p c) (d - 1) (element.Primitives (item_or element_bases e base.Int)) k)
      where
        by_fit : RefFits p 0 (element_of_class p c) (d - 1) (element.Primitives (item_or element_bases e base.Int)) → ⊥
        by_fit (inl same) = let none = same.1 in absurd cc
        by_fit (inr less) = let none = less.1 in absurd cc

    of_high : fits p (class_type p c) (is.Ref d (element_of_class p (e - 8))) ≡ true → ⊥
    of_high k = by_fit (ref_tells p 0 (element_of_class p c) d (element_of_class p (e - 8)) k)
      where
        by_fit : RefFits p 0 (element_of_class p c) d (element_of_class p (e - 8)) → ⊥
        by_fit (inl same) = let some = some_dimensions p named array in let none = same.0 in omega (arith, some, none)
        by_fit (inr less) = let few = less.0 in omega (arith, few)

    by_element : is_array p c ≡ false → (low : Bool) → nat_lt e 8 ≡ low → ⊥
    by_element plain true low =
        of_low (subst (λ (t : VerType). fits p t (is.Ref (d - 1) (element.Primitives (item_or element_bases e base.Int))) ≡ true) (plain_type p c plain)
        (subst (λ (u : VerType). fits p (type_of_class p c) u ≡ true) (array_type_is p named array ∙ primitives_type p d e low) fit))
    by_element plain false high =
        of_high (subst (λ (t : VerType). fits p t (is.Ref d (element_of_class p (e - 8))) ≡ true) (plain_type p c plain)
        (subst (λ (u : VerType). fits p (type_of_class p c) u ≡ true) (array_type_is p named array ∙ references_type p d e high) fit))

    by : (b : Bool) → is_array p c ≡ b → b ≡ true
    by true a = refl
    by false plain = absurd (by_element plain (nat_lt e 8) refl)

-- the superclass of a class that has another class above it
pub record HasSuperclass (p : Program) (n c : ℕ) : Type 0 where
  pub class : ℕ
  pub is : superclass_of p c ≡ Some class
  pub among : is_among class (chain_within p n (Some c)) ≡ true

superclass_there : (p : Program) (n c above : ℕ) → is_among above (chain_within p n (Some c)) ≡ true → not (above == c) ≡ true → HasSuperclass p n c
superclass_there p zero c above among other = absurd cc
superclass_there p (suc n) c above among other = by (either (nat_eq above c) (is_among above (chain_within p n (superclass_of p c))) among)
  where
    second : (k : ℕ) (o : Option ℕ) → superclass_of p c ≡ o → is_among above (chain_within p k o) ≡ true → (s : ℕ) × (superclass_of p c ≡ Some s) × (is_among s (chain_within p k o) ≡ true)
    second zero o e h = absurd cc
    second (suc k) None e h = absurd cc
    second (suc k) (Some s) e h = (s, e, or_first (nat_eq s s) (is_among s (chain_within p k (superclass_of p s))) ((Decides-eqb s s).1 refl))

    by : (nat_eq above c ≡ true) ⊎ (is_among above (chain_within p n (superclass_of p c)) ≡ true) → HasSuperclass p (suc n) c
    by (inl same) = not_both (above == c) same (not-true (above == c) other)
    by (inr later) =
        let q = second n (superclass_of p c) refl later in
        record { class = q.0; is = q.1; among = or_second (nat_eq q.0 c) (is_among q.0 (chain_within p n (superclass_of p c))) q.2 }

-- ---- what the row of a call tells

-- the wanted operands stand there, and the caller goes on with what it is handed
pub record IsCalled (typings : Typings) (h : Here) (m : Member) (under : List Want) : Type 0 where
  pub rest : List VerType
  pub takes : taken h.program (rows.arguments h.program m ++ under) (types_in h h.state.top.operands) ≡ Some rest
  pub resumes : IsResumed h.program typings h.state.top.method (behind h) (types_with h rest) (option_map (type_of h.program m.descriptor) (signature m.descriptor).result)

module _ (typings : Typings) (h : Here) (site : AtSite typings h) where
  abbrev next : List ℕ
  next = behind h ∷ []

  abbrev heap : List Object
  heap = h.state.heap

  reached : (made : VerState) → LeadsTo typings h next made → IsReached h.program (typings h.state.top.method) (behind h) made
  reached made leads = All-head (λ position. IsReached h.program (typings h.state.top.method) position made) (behind h) [] leads.reached

  called : (m : Member) (under : List Want) (made : VerState) → after h.program (rows.call_with h.program m under) (types_here h) ≡ Some made
      → LeadsTo typings h (targets_by (rows.call_with h.program m under) next) made → IsCalled typings h m under
  called m under made e leads = by (signature m.descriptor).result refl e leads
    where
      wanted : List Want
      wanted = rows.arguments h.program m ++ under

      Resumes : List VerType → Option (Option VerType) → Type 0
      Resumes rest handed = IsResumed h.program typings h.state.top.method (behind h) (types_with h rest) handed

      by_type : (t : JavaType) → (signature m.descriptor).result ≡ Some t → (o : Option VerType) → type_of h.program m.descriptor t ≡ o
          → after h.program (rows.given_as wanted o) (types_here h) ≡ Some made → LeadsTo typings h (targets_by (rows.given_as wanted o) next) made → IsCalled typings h m under
      by_type t has None typed k on =
          let took = wanted_there typings h site wanted made k in
          record {
            rest = took.0;
            takes = took.1;
            resumes = subst (λ (r : Option JavaType). Resumes took.0 (option_map (type_of h.program m.descriptor) r)) (sym has)
                (subst (λ (o : Option VerType). Resumes took.0 (Some o)) (sym typed) tt);
          }
      by_type t has (Some v) typed k on =
          let took = taken_from h.program wanted (Some v) (types_here h) made k in
          record {
            rest = took.rest;
            takes = took.takes;
            resumes = subst (λ (r : Option JavaType). Resumes took.rest (option_map (type_of h.program m.descriptor) r)) (sym has)
                (subst (λ (o : Option VerType). Resumes took.rest (Some o)) (sym typed)
                (subst (λ (u : VerState). IsReached h.program (typings h.state.top.method) (behind h) u) (sym took.is) (reached made on)));
          }

      by : (o : Option JavaType) → (signature m.descriptor).result ≡ o → after h.program (rows.with_result h.program m.descriptor wanted o) (types_here h) ≡ Some made
          → LeadsTo typings h (targets_by (rows.with_result h.program m.descriptor wanted o) next) made → IsCalled typings h m under
      by None has k on =
          let took = taken_from h.program wanted None (types_here h) made k in
          record {
            rest = took.rest;
            takes = took.takes;
            resumes = subst (λ (r : Option JavaType). Resumes took.rest (option_map (type_of h.program m.descriptor) r)) (sym has)
                (subst (λ (u : VerState). IsReached h.program (typings h.state.top.method) (behind h) u) (sym took.is) (reached made on));
          }
      by (Some t) has k on = by_type t has (type_of h.program m.descriptor t) refl k on

  -- ---- receivers

  -- the receiver is of the named class
  holds : (at : ℕ) (mode : Mode) (m : Member) (t : VerType) → meets h.program (rows.receiver h.program at mode m) t ≡ true → fits h.program t (ref_of h.program m.class) ≡ true
  holds at Special m t met = by (is_init m.name) met
    where
      by : (b : Bool) → meets h.program (if b then rows.holder h.program m else FitsBoth (ref_of h.program m.class) (class_type h.program (rows.current_class h.program at))) t ≡ true
          → fits h.program t (ref_of h.program m.class) ≡ true
      by true k = k
      by false k = both_first (fits h.program t (ref_of h.program m.class)) (fits h.program t (class_type h.program (rows.current_class h.program at))) k
  holds at Virtual m t met = met
  holds at Static m t met = met
  holds at Interface m t met = met

  -- a receiver is null, or an object that the call takes
  receiver_there : (m : Member) (named : ℕ) → class_named h.program m.class ≡ Some named → same_bool m.by_interface (is_interface h.program named) ≡ true → (o : Value)
      → fits h.program (type_of_value h.program heap o) (ref_of h.program m.class) ≡ true
      → (is_receiver h m named o ≡ true) × ((o ≡ Null) ⊎ IsObjectOf h.program heap (type_of_class h.program named) o)
  receiver_there m named found kind o fit = (takes (of_reference h.program heap (type_of_class h.program named) o (class_reference h.program named) held), of_reference h.program heap (type_of_class h.program named) o (class_reference h.program named) held)
    where
      held : fits h.program (type_of_value h.program heap o) (type_of_class h.program named) ≡ true
      held = subst (λ (t : VerType). fits h.program (type_of_value h.program heap o) t ≡ true) (named_here h.program m.class named found) fit

      of_object : (r : ℕ) → fits h.program (type_of_class h.program (object_at h.state r).class) (type_of_class h.program named) ≡ true → (i : Bool) → same_bool i (is_interface h.program named) ≡ true
          → (a : Bool) → is_array h.program named ≡ a
          → (if i then is_of sort.Reference (Ref r) else if a then is_object h (is_array h.program) (Ref r) else is_instance_of h named (Ref r)) ≡ true
      of_object r k true same a e = refl
      of_object r k false same true array = array_below h.program named (object_at h.state r).class array k
      of_object r k false same false plain =
          class_there h.program site.sound.hierarchy (object_at h.state r).class named
          (subst (λ (u : VerType). fits h.program (type_of_class h.program (object_at h.state r).class) u ≡ true)
          (plain_type h.program named plain ∙ ap (λ b. is.Ref 0 (element.Class (as_class (if b then object_class h.program else named)))) (no_interface (is_interface h.program named) same)) k)
        where
          no_interface : (b : Bool) → same_bool false b ≡ true → b ≡ false
          no_interface true n = absurd cc
          no_interface false n = refl

      null_taken : (i a : Bool) → (if i then is_of sort.Reference Null else if a then is_object h (is_array h.program) Null else is_instance_of h named Null) ≡ true
      null_taken true a = refl
      null_taken false true = refl
      null_taken false false = refl

      takes : (o ≡ Null) ⊎ IsObjectOf h.program heap (type_of_class h.program named) o → is_receiver h m named o ≡ true
      takes (inl null) = subst (λ (v : Value). is_receiver h m named v ≡ true) (sym null) (null_taken m.by_interface (is_array h.program named))
      takes (inr q) = subst (λ (v : Value). is_receiver h m named v ≡ true) (sym q.is) (of_object q.object q.fit m.by_interface kind (is_array h.program named) refl)

  -- what is done with the object that stands under the arguments
  on_object : (m : Member) (named : ℕ) → class_named h.program m.class ≡ Some named → same_bool m.by_interface (is_interface h.program named) ≡ true → (o : Value) (under : List Value)
      → fits h.program (type_of_value h.program heap o) (ref_of h.program m.class) ≡ true → (follow : ℕ → List Value → Outcome)
      → ((r : ℕ) → o ≡ Ref r → r < length heap → fits h.program (type_of_class h.program (object_at h.state r).class) (type_of_class h.program named) ≡ true → Typed typings h (follow r under))
      → Typed typings h (on_receiver h m named (o ∷ under) follow)
  on_object m named found kind o under fit follow each =
      let q = receiver_there m named found kind o fit in
      subst (λ b. Typed typings h (when b (non_null h o (λ r. follow r under)) (illegal h))) (sym q.0) (by q.1)
    where
      by : (o ≡ Null) ⊎ IsObjectOf h.program heap (type_of_class h.program named) o → Typed typings h (non_null h o (λ r. follow r under))
      by (inl null) =
          subst (λ (v : Value). Typed typings h (non_null h v (λ r. follow r under))) (sym null) (raises typings h site "java/lang/NullPointerException" None refl)
      by (inr x) = subst (λ (v : Value). Typed typings h (non_null h v (λ r. follow r under))) (sym x.is) (each x.object x.is x.there x.fit)

  -- ---- a selected method is carried out

  carried : (behind_is : position_behind h.program h.state.top ≡ behind h) (c r : ℕ) (d : List ℕ) (s : Selected) → type_of_reference h.program heap r ≡ type_of_class h.program c
      → SelectsFor h.program c d s → (values below rest : List Value) → arguments_off (signature d).arguments h.state.top.operands ≡ Some (values, below)
      → AreOfTypes h.program heap d (signature d).arguments values → below ≡ Ref r ∷ rest
      → IsResumed h.program typings h.state.top.method (behind h) (types_with h (types_in h rest)) (option_map (type_of h.program d) (signature d).result)
      → Typed typings h (carry_out h (Ref r ∷ values) rest s)
  carried behind_is c r d Abstract type selects values below rest off are under resumes = raises typings h site "java/lang/AbstractMethodError" None refl
  carried behind_is c r d Conflict type selects values below rest off are under resumes = raises typings h site "java/lang/IncompatibleClassChangeError" None refl
  carried behind_is c r d (Method m) type selects values below rest off are under resumes =
      entered typings h site m.0 behind_is call (Some r)
      (subst (λ b. IsReceived h.program heap m.0 b (Some r)) (sym instance) fit)
    where
      instance : has STATIC (method_at h.program m.0).flags ≡ false
      instance = not-true (has STATIC (method_at h.program m.0).flags) selects.passes

      fit : fits h.program (type_of_reference h.program heap r) (class_type h.program (rows.current_class h.program m.0)) ≡ true
      fit = subst (λ (t : VerType). fits h.program t (class_type h.program (rows.current_class h.program m.0)) ≡ true) (sym type) selects.takes

      call : IsCall typings h m.0 (method_at h.program m.0).descriptor
      call = record {
        values = values;
        below = below;
        rest = rest;
        off = subst (λ (x : List ℕ). arguments_off (signature x).arguments h.state.top.operands ≡ Some (values, below)) (sym selects.descriptor) off;
        arguments = subst (λ (x : List ℕ). AreOfTypes h.program heap x (signature x).arguments values) (sym selects.descriptor) are;
        under = subst (λ b. IsUnderArguments h.program heap m.0 b below rest) (sym instance) (record { object = r; is = under; class = fit });
        resumes = subst (λ (x : List ℕ). IsResumed h.program typings h.state.top.method (behind h) (types_with h (types_in h rest)) (option_map (type_of h.program x) (signature x).result)) (sym selects.descriptor) resumes;
      }

  -- ---- which method is selected

  within_current : (m : Member) (t : VerType) → meets h.program (rows.receiver h.program h.state.top.method Special m) t ≡ true → is_init m.name ≡ false
      → fits h.program t (class_type h.program (rows.current_class h.program h.state.top.method)) ≡ true
  within_current m t met other = by (is_init m.name) other met
    where
      by : (b : Bool) → b ≡ false
          → meets h.program (if b then rows.holder h.program m else FitsBoth (ref_of h.program m.class) (class_type h.program (rows.current_class h.program h.state.top.method))) t ≡ true
          → fits h.program t (class_type h.program (rows.current_class h.program h.state.top.method)) ≡ true
      by true o k = absurd cc
      by false o k = both_second (fits h.program t (ref_of h.program m.class)) (fits h.program t (class_type h.program (rows.current_class h.program h.state.top.method))) k

  -- a method that a name is resolved to, which is of objects
  pub record IsInstanceCall (m : Member) (named resolved : ℕ) : Type 0 where
    pub found : class_named h.program m.class ≡ Some named
    pub kind : same_bool m.by_interface (is_interface h.program named) ≡ true
    pub resolves : resolve_method h.program named m.name m.descriptor ≡ Some resolved
    pub instance : has STATIC (method_at h.program resolved).flags ≡ false

  abbrev Selects : Member → ℕ → Selected → Type 0
  Selects m c s = SelectsFor h.program c m.descriptor s

  method_for : (m : Member) (named resolved : ℕ) → IsInstanceCall m named resolved → IsMethodFor h.program named any_method m.descriptor resolved
  method_for m named resolved q = resolved_for h.program site.sound.hierarchy site.sound.members named m.name m.descriptor resolved q.resolves

  -- the search of invokespecial from the superclass of the current class
  above_current : (m : Member) (named resolved c : ℕ) → IsInstanceCall m named resolved → begins_above h m named ≡ true
      → (is_init m.name ≡ false → fits h.program (type_of_class h.program c) (class_type h.program (rows.current_class h.program h.state.top.method)) ≡ true)
      → Selects m c (select_special h.program (unwrap_or (superclass_of h.program (rows.current_class h.program h.state.top.method)) 0) resolved)
  above_current m named resolved c q above fits_current =
      selects_below h.program site.sound.hierarchy site.sound.members s.class c m.descriptor (select_special h.program (unwrap_or (superclass_of h.program x) 0) resolved) below
      (subst (λ k. SelectsFor h.program s.class m.descriptor (select_special h.program k resolved)) (sym (ap (λ (o : Option ℕ). unwrap_or o 0) s.is))
      (special_for h.program site.sound.hierarchy site.sound.members s.class resolved m.descriptor (site.sound.hierarchy.within x s.class (class_below h.program x plain) s.among) (method_for m named resolved q).descriptor))
    where
      x : ℕ
      x = rows.current_class h.program h.state.top.method

      other : is_init m.name ≡ false
      other = not-true (is_init m.name) (both_first (not (is_init m.name)) (is_proper_superclass h.program named x) above)

      proper : is_proper_superclass h.program named x ≡ true
      proper = both_second (not (is_init m.name)) (is_proper_superclass h.program named x) above

      s : HasSuperclass h.program (class_count h.program) x
      s = superclass_there h.program (class_count h.program) x named (both_first (is_among named (superclasses h.program x)) (not (named == x)) proper)
          (both_second (is_among named (superclasses h.program x)) (not (named == x)) proper)

      plain : is_array h.program x ≡ false
      plain = by (is_array h.program x) refl
        where
          by : (b : Bool) → is_array h.program x ≡ b → b ≡ false
          by true array = none_some (sym (array_root h.program x array) ∙ s.is)
          by false a = refl

      below : fits h.program (type_of_class h.program c) (type_of_class h.program s.class) ≡ true
      below =
          fits_through h.program site.sound.hierarchy.ranked (type_of_class h.program c) (type_of_class h.program x) (type_of_class h.program s.class)
          (subst (λ (t : VerType). fits h.program (type_of_class h.program c) t ≡ true) (sym (plain_type h.program x plain)) (fits_current other))
          (class_assigned h.program site.sound.hierarchy x s.class (or_first (is_among s.class (superclasses h.program x)) (is_among s.class (superinterfaces h.program x)) s.among))

  selected : (mode : Mode) (m : Member) (named resolved c : ℕ) → IsInstanceCall m named resolved → fits h.program (type_of_class h.program c) (type_of_class h.program named) ≡ true
      → (mode ≡ Special → is_init m.name ≡ false → fits h.program (type_of_class h.program c) (class_type h.program (rows.current_class h.program h.state.top.method)) ≡ true)
      → Selects m c (selection h mode m named resolved c)
  selected Special m named resolved c q fit current = by_interface m.by_interface q.kind
    where
      here : IsMethodFor h.program named any_method m.descriptor resolved
      here = method_for m named resolved q

      by_above : (b : Bool) → begins_above h m named ≡ b
          → Selects m c (if b then select_special h.program (unwrap_or (superclass_of h.program (rows.current_class h.program h.state.top.method)) 0) resolved else selected_if_concrete h.program resolved)
      by_above true above = above_current m named resolved c q above (current refl)
      by_above false not_above =
          concrete_for h.program site.sound.hierarchy site.sound.members c m.descriptor resolved
          (resolved_instance h.program site.sound.hierarchy site.sound.members named c resolved m.descriptor here q.instance fit)

      by_interface : (i : Bool) → same_bool i (is_interface h.program named) ≡ true
          → Selects m c (if i then select_special h.program named resolved else if begins_above h m named then select_special h.program (unwrap_or (superclass_of h.program (rows.current_class h.program h.state.top.method)) 0) resolved else selected_if_concrete h.program resolved)
      by_interface true interface =
          selects_below h.program site.sound.hierarchy site.sound.members named c m.descriptor (select_special h.program named resolved) fit
          (special_for h.program site.sound.hierarchy site.sound.members named resolved m.descriptor (class_below h.program named (interface_plain h.program named interface)) here.descriptor)
      by_interface false kind = by_above (begins_above h m named) refl
  selected Virtual m named resolved c q fit current =
      select_for h.program site.sound.hierarchy site.sound.members named c resolved m.descriptor (method_for m named resolved q) q.instance fit
  selected Static m named resolved c q fit current =
      select_for h.program site.sound.hierarchy site.sound.members named c resolved m.descriptor (method_for m named resolved q) q.instance fit
  selected Interface m named resolved c q fit current =
      select_for h.program site.sound.hierarchy site.sound.members named c resolved m.descriptor (method_for m named resolved q) q.instance fit

  -- ---- calls of methods of objects

  instance_typed : position_behind h.program h.state.top ≡ behind h → (mode : Mode) (m : Member) (named resolved : ℕ) → IsInstanceCall m named resolved → (made : VerState)
      → after h.program (rows.call_instance h.program h.state.top.method mode m) (types_here h) ≡ Some made
      → LeadsTo typings h (targets_by (rows.call_instance h.program h.state.top.method mode m) next) made → Typed typings h (call_instance h mode m named resolved)
  instance_typed behind_is mode m named resolved q made e leads =
      subst (λ (o : Option (List Value × List Value)). Typed typings h (if_arguments h o (λ values below. on_receiver h m named below (dispatch h mode m named resolved values)))) (sym a.off)
      (on_top h.program heap
      (λ below. arguments_off (signature m.descriptor).arguments h.state.top.operands ≡ Some (a.values, below) → Typed typings h (on_receiver h m named below (dispatch h mode m named resolved a.values)))
      (rows.receiver h.program h.state.top.method mode m) [] a.below t.rest a.takes
      (λ o under met same off. on_object m named q.found q.kind o under (holds h.state.top.method mode m (type_of_value h.program heap o) met) (dispatch h mode m named resolved a.values)
      (λ r is there fit. dispatched o under met same off r is there fit)) a.off)
    where
      t : IsCalled typings h m (rows.receiver h.program h.state.top.method mode m ∷ [])
      t = called m (rows.receiver h.program h.state.top.method mode m ∷ []) made e leads

      a : HasArguments h.program heap m.descriptor (signature m.descriptor).arguments h.state.top.operands (rows.receiver h.program h.state.top.method mode m ∷ []) t.rest
      a = arguments_there h.program heap m.descriptor (signature m.descriptor).arguments h.state.top.operands (rows.receiver h.program h.state.top.method mode m ∷ []) t.rest t.takes

      dispatched : (o : Value) (under : List Value) → meets h.program (rows.receiver h.program h.state.top.method mode m) (type_of_value h.program heap o) ≡ true → Some (types_in h under) ≡ Some t.rest
          → arguments_off (signature m.descriptor).arguments h.state.top.operands ≡ Some (a.values, o ∷ under) → (r : ℕ) → o ≡ Ref r → r < length heap
          → fits h.program (type_of_class h.program (object_at h.state r).class) (type_of_class h.program named) ≡ true → Typed typings h (dispatch h mode m named resolved a.values r under)
      dispatched o under met same off r is there fit = by (m.by_interface && not (assignable h.program (object_at h.state r).class named))
        where
          c : ℕ
          c = (object_at h.state r).class

          type : type_of_reference h.program heap r ≡ type_of_class h.program (object_at h.state r).class
          type = reference_there h.program typings site.sound site.are heap r there

          current : mode ≡ Special → is_init m.name ≡ false
              → fits h.program (type_of_class h.program (object_at h.state r).class) (class_type h.program (rows.current_class h.program h.state.top.method)) ≡ true
          current special other =
              subst (λ (u : VerType). fits h.program u (class_type h.program (rows.current_class h.program h.state.top.method)) ≡ true) (ap (type_of_value h.program heap) is ∙ type)
              (within_current m (type_of_value h.program heap o) (subst (λ (k : Mode). meets h.program (rows.receiver h.program h.state.top.method k m) (type_of_value h.program heap o) ≡ true) special met) other)

          by : (b : Bool) → Typed typings h (when b (wrong_kind h) (carry_out h (Ref r ∷ a.values) under (selection h mode m named resolved (object_at h.state r).class)))
          by true = raises typings h site "java/lang/IncompatibleClassChangeError" None refl
          by false =
              carried behind_is (object_at h.state r).class r m.descriptor (selection h mode m named resolved (object_at h.state r).class) type
              (selected mode m named resolved (object_at h.state r).class q fit current) a.values (o ∷ under) under off a.typed (ap (λ (v : Value). v ∷ under) is)
              (subst (λ (ts : List VerType). IsResumed h.program typings h.state.top.method (behind h) (types_with h ts) (option_map (type_of h.program m.descriptor) (signature m.descriptor).result)) (sym (some_same same)) t.resumes)

  -- ---- calls of static methods

  static_typed : position_behind h.program h.state.top ≡ behind h → (m : Member) (named resolved : ℕ) → resolve_method h.program named m.name m.descriptor ≡ Some resolved
      → has STATIC (method_at h.program resolved).flags ≡ true → (made : VerState) → after h.program (rows.call_with h.program m []) (types_here h) ≡ Some made
      → LeadsTo typings h (targets_by (rows.call_with h.program m []) next) made → Typed typings h (call_static h m resolved)
  static_typed behind_is m named resolved resolves static made e leads =
      subst (λ (o : Option (List Value × List Value)). Typed typings h (if_arguments h o (λ values rest.
      when_initialised h (method_at h.program resolved).class.0 (λ g. carry_out g values rest (selected_if_concrete g.program resolved))))) (sym a.off)
      (when_ready typings h site (method_at h.program resolved).class.0 (λ g. carry_out g a.values a.below (selected_if_concrete g.program resolved)) (λ inits count.
      by inits count (is_abstract (method_at h.program resolved))))
    where
      t : IsCalled typings h m []
      t = called m [] made e leads

      a : HasArguments h.program heap m.descriptor (signature m.descriptor).arguments h.state.top.operands [] t.rest
      a = arguments_there h.program heap m.descriptor (signature m.descriptor).arguments h.state.top.operands [] t.rest t.takes

      same_descriptor : (method_at h.program resolved).descriptor ≡ m.descriptor
      same_descriptor = (resolved_for h.program site.sound.hierarchy site.sound.members named m.name m.descriptor resolved resolves).descriptor

      call : (inits : List InitState) → IsCall typings (in_state h (record (h.state) { inits = inits })) resolved (method_at h.program resolved).descriptor
      call inits = record {
        values = a.values;
        below = a.below;
        rest = a.below;
        off = subst (λ (x : List ℕ). arguments_off (signature x).arguments h.state.top.operands ≡ Some (a.values, a.below)) (sym same_descriptor) a.off;
        arguments = subst (λ (x : List ℕ). AreOfTypes h.program heap x (signature x).arguments a.values) (sym same_descriptor) a.typed;
        under = subst (λ b. IsUnderArguments h.program heap resolved b a.below a.below) (sym static) refl;
        resumes = subst (λ (x : List ℕ). IsResumed h.program typings h.state.top.method (behind h) (types_with h (types_in h a.below)) (option_map (type_of h.program x) (signature x).result)) (sym same_descriptor)
            (subst (λ (ts : List VerType). IsResumed h.program typings h.state.top.method (behind h) (types_with h ts) (option_map (type_of h.program m.descriptor) (signature m.descriptor).result)) (sym (some_same a.takes)) t.resumes);
      }

      by : (inits : List InitState) → length inits ≡ class_count h.program → (b : Bool)
          → Typed typings h (carry_out (in_state h (record (h.state) { inits = inits })) a.values a.below (if b then Abstract else Method (record { 0 = resolved })))
      by inits count true = raises typings (in_state h (record (h.state) { inits = inits })) (site_ready typings h site inits count) "java/lang/AbstractMethodError" None refl
      by inits count false =
          entered typings (in_state h (record (h.state) { inits = inits })) (site_ready typings h site inits count) resolved behind_is
          (call inits) None
          (subst (λ b. IsReceived h.program heap resolved b None) (sym static) tt)

  -- ---- which call it is

  wrong : Typed typings h (wrong_kind h)
  wrong = raises typings h site "java/lang/IncompatibleClassChangeError" None refl

  abbrev Leads : VerState → Row → Type 0
  Leads made row = (after h.program row (types_here h) ≡ Some made) × LeadsTo typings h (targets_by row next) made

  -- a method that is found: static against instance
  resolved_typed : position_behind h.program h.state.top ≡ behind h → (mode : Mode) (m : Member) (named resolved : ℕ) → class_named h.program m.class ≡ Some named
      → same_bool m.by_interface (is_interface h.program named) ≡ true → resolve_method h.program named m.name m.descriptor ≡ Some resolved → (made : VerState)
      → Leads made (rows.call_resolved h.program h.state.top.method mode m resolved) → Typed typings h (call_resolved h mode m named resolved)
  resolved_typed behind_is mode m named resolved found kind resolves made leads = by mode leads
    where
      call_of : has STATIC (method_at h.program resolved).flags ≡ false → IsInstanceCall m named resolved
      call_of instance = record { found = found; kind = kind; resolves = resolves; instance = instance }

      of_static : (b : Bool) → has STATIC (method_at h.program resolved).flags ≡ b → Leads made (if b then rows.call_with h.program m [] else Ends) → Typed typings h (when b (call_static h m resolved) (wrong_kind h))
      of_static true static k = static_typed behind_is m named resolved resolves static made k.0 k.1
      of_static false instance k = wrong

      of_object : (x : Mode) (b : Bool) → has STATIC (method_at h.program resolved).flags ≡ b → Leads made (if b then Ends else rows.call_instance h.program h.state.top.method x m)
          → Typed typings h (when b (wrong_kind h) (call_instance h x m named resolved))
      of_object x true static k = wrong
      of_object x false instance k = instance_typed behind_is x m named resolved (call_of instance) made k.0 k.1

      of_interface : (b c : Bool) → has STATIC (method_at h.program resolved).flags ≡ b → Leads made (if b || c then Ends else rows.call_instance h.program h.state.top.method Interface m)
          → Typed typings h (when (b || c) (wrong_kind h) (call_instance h Interface m named resolved))
      of_interface true c static k = wrong
      of_interface false true instance k = wrong
      of_interface false false instance k = instance_typed behind_is Interface m named resolved (call_of instance) made k.0 k.1

      by : (x : Mode) → Leads made (rows.call_resolved h.program h.state.top.method x m resolved) → Typed typings h (call_resolved h x m named resolved)
      by Static k = of_static (has STATIC (method_at h.program resolved).flags) refl k
      by Interface k = of_interface (has STATIC (method_at h.program resolved).flags) (has PRIVATE (method_at h.program resolved).flags) refl k
      by Virtual k = of_object Virtual (has STATIC (method_at h.program resolved).flags) refl k
      by Special k = of_object Special (has STATIC (method_at h.program resolved).flags) refl k

  -- the clone of an array is one with the same cells
  cloned : (x : Mode) (m : Member) (named : ℕ) → class_named h.program m.class ≡ Some named → same_bool m.by_interface (is_interface h.program named) ≡ true → (made : VerState)
      → Leads made (Takes (rows.receiver h.program h.state.top.method x m ∷ []) (Some (object_type h.program)))
      → Typed typings h (on_receiver h m named h.state.top.operands (λ r rest. push_new h (object_at h.state r) rest))
  cloned x m named found kind made k =
      let t = taken_from h.program (rows.receiver h.program h.state.top.method x m ∷ []) (Some (object_type h.program)) (types_here h) made k.0 in
      on_top h.program heap (λ os. Typed typings h (on_receiver h m named os (λ r rest. push_new h (object_at h.state r) rest))) (rows.receiver h.program h.state.top.method x m) [] h.state.top.operands t.rest t.takes
      (λ o under met same. on_object m named found kind o under (holds h.state.top.method x m (type_of_value h.program heap o) met) (λ r rest. push_new h (object_at h.state r) rest)
      (λ r is there fit.
      makes typings h site (object_at h.state r) under (object_type h.program) t.rest
      (object_later h.program site.sound.hierarchy.ranked heap (heap ++ (object_at h.state r ∷ [])) (appended_later heap (object_at h.state r ∷ [])) (object_at h.state r) (site.state.heap.objects r there))
      (object_takes h.program (type_of_class h.program (object_at h.state r).class) (class_reference h.program (object_at h.state r).class)) same
      (subst (λ (u : VerState). LeadsTo typings h next u) (sym t.is) k.1)))

  clone_typed : (mode : Mode) (m : Member) (named : ℕ) → class_named h.program m.class ≡ Some named → same_bool m.by_interface (is_interface h.program named) ≡ true → (made : VerState)
      → Leads made (rows.clone_array h.program h.state.top.method mode m) → Typed typings h (clone_array h mode m named)
  clone_typed Static m named found kind made leads = wrong
  clone_typed Special m named found kind made leads = cloned Special m named found kind made leads
  clone_typed Virtual m named found kind made leads = cloned Virtual m named found kind made leads
  clone_typed Interface m named found kind made leads = cloned Interface m named found kind made leads

  pub invoke_typed : position_behind h.program h.state.top ≡ behind h → (mode : Mode) (m : Member) (made : VerState) → Leads made (rows.invoke h.program h.state.top.method mode m)
      → Typed typings h (if_there h m.class (class_named h.program m.class) (λ named. when (same_bool m.by_interface (is_interface h.program named)) (on_class h mode m named) (wrong_kind h)))
  invoke_typed behind_is mode m made leads = by (class_named h.program m.class) refl leads
    where
      of_method : (named : ℕ) → class_named h.program m.class ≡ Some named → same_bool m.by_interface (is_interface h.program named) ≡ true → (o : Option ℕ)
          → resolve_method h.program named m.name m.descriptor ≡ o → Leads made (rows.if_method h.program h.state.top.method mode m o) → Typed typings h (if_method h mode m named o)
      of_method named found kind None resolves k = refl
      of_method named found kind (Some resolved) resolves k = resolved_typed behind_is mode m named resolved found kind resolves made k

      of_clone : (named : ℕ) → class_named h.program m.class ≡ Some named → same_bool m.by_interface (is_interface h.program named) ≡ true → (b : Bool)
          → Leads made (elim b [ true ↦ rows.clone_array h.program h.state.top.method mode m | false ↦ rows.if_method h.program h.state.top.method mode m (resolve_method h.program named m.name m.descriptor) ])
          → Typed typings h (elim b [ true ↦ clone_array h mode m named | false ↦ if_method h mode m named (resolve_method h.program named m.name m.descriptor) ])
      of_clone named found kind true k = clone_typed mode m named found kind made k
      of_clone named found kind false k = of_method named found kind (resolve_method h.program named m.name m.descriptor) refl k

      of_kind : (named : ℕ) → class_named h.program m.class ≡ Some named → (b : Bool) → same_bool m.by_interface (is_interface h.program named) ≡ b
          → Leads made (if b then rows.on_class h.program h.state.top.method mode m named else Ends) → Typed typings h (when b (on_class h mode m named) (wrong_kind h))
      of_kind named found true kind k = of_clone named found kind (is_array_clone h.program named m.name m.descriptor) k
      of_kind named found false kind k = wrong

      by : (o : Option ℕ) → class_named h.program m.class ≡ o
          → Leads made (rows.if_there o (λ named. if same_bool m.by_interface (is_interface h.program named) then rows.on_class h.program h.state.top.method mode m named else Ends))
          → Typed typings h (if_there h m.class o (λ named. when (same_bool m.by_interface (is_interface h.program named)) (on_class h mode m named) (wrong_kind h)))
      by None found k = refl
      by (Some named) found k = of_kind named found (same_bool m.by_interface (is_interface h.program named)) refl k

-- ---- the rows

calls_typed : (typings : Typings) (h : Here) → AtSite typings h → position_behind h.program h.state.top ≡ behind h → (o : Operation) → is_call o ≡ true → IsLed typings h o
    → Typed typings h (machine.row_of h o h.state.top.operands)
calls_typed typings h site behind_is (Invoke mode i) k l =
    let moved = subst
    (λ (q : Pool). (after h.program (rows.invoke h.program h.state.top.method mode (member q i)) (types_here h) ≡ Some l.made)
    × LeadsTo typings h (targets_by (rows.invoke h.program h.state.top.method mode (member q i)) (behind h ∷ [])) l.made → Typed typings h (invoke h mode i))
    site.pool (λ leads. invoke_typed typings h site behind_is mode (member h.pool i) l.made leads) in
    moved (l.makes, l.leads)
calls_typed typings h site behind_is _ k l = absurd cc

pub calls_keep_types : OperationsKeepTypes is_call
calls_keep_types p typings s code i sound are typed coded there is =
    let h : Here = record { program = p; state = s; code = code; pool = (class_at p (current_class p s)).pool; size = i.length } in
    let site : AtSite typings h = record { sound = sound; are = are; code = coded; pool = refl; state = typed } in
    let behind_is : position_behind p s.top ≡ s.top.position + i.length =
    ap (λ (o : Option Code). s.top.position + instruction_size (instruction_at (bytes_of o) s.top.position)) coded
    ∙ ap (λ (o : Option Instruction). s.top.position + instruction_size o) there in
    subst (λ (o : Option Code). IsTypedOutcome p typings (row_in p s o)) (sym coded)
    (subst (λ (o : Option Instruction). IsTypedOutcome p typings (row_if p s code o)) (sym there)
    (calls_typed typings h site behind_is (operation_of i) is (led typings h site i there refl)))
