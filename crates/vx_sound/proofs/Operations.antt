-- The rows of arrays, of objects and of returns, operation by operation.
use Rattle.std.proofs.Common.{Bool, List, None, Option, Some, [], ap, false, refl, subst, sym, true, ℕ, ◌++◌, ◌∷◌, ◌≡◌}
use Rattle.std.specs.Prelude.{if◌then◌else◌, option_map, ◌||◌}
use Rattle.vx_class.specs.Members.{ABSTRACT}
use Rattle.vx_class.specs.declared.class_file.Code.{Code}
use Rattle.vx_java.specs.Arrays.{load_element}
use Rattle.vx_java.specs.Checks.{if_there, width_of_type}
use Rattle.vx_java.specs.Fields.{declaring, get_field, get_from, get_static, put_field, put_into, put_static, put_value}
use Rattle.vx_java.specs.FirstObjects.{new_object}
use Rattle.vx_java.specs.Initialisation.{when_initialised}
use Rattle.vx_java.specs.Machine.{Here, Top, Value, current_class, go, has_room, illegal, in_state, push_new, raise, when}
use Rattle.vx_java.specs.Objects.{check_cast, new_instance, new_of_class}
use Rattle.vx_java.specs.Operation.{operation_of}
use Rattle.vx_java.specs.Row.{row_if, row_in}
use Rattle.vx_java.specs.Row as machine
use Rattle.vx_java.specs.declared.operation.Element.TheVariants.{Bytes, Chars, Ints, Longs, References, Shorts}
use Rattle.vx_java.specs.declared.operation.Operation.{Operation}
use Rattle.vx_java.specs.declared.operation.Operation.TheVariants.{CheckCast, GetField, GetStatic, Length, LoadElement, New, NewPrimitives, NewReferences, PushEntry, PutField, PutStatic, Return, StoreElement}
use Rattle.vx_java.specs.declared.operation.Operation.TheVariants as operation
use Rattle.vx_link.specs.ClassNames.{class_named}
use Rattle.vx_link.specs.Names.{class_name, member}
use Rattle.vx_link.specs.Parts.{class_at, has, is_interface}
use Rattle.vx_list.specs.Places.{item_or}
use Rattle.vx_opcode.specs.declared.instruction.Instruction.{Instruction}
use Rattle.vx_pool.specs.declared.pool.Pool.{Pool}
use Rattle.vx_sound.proofs.ArrayRows.{length_typed, load_typed, room_for}
use Rattle.vx_sound.proofs.Changes.{leads_ready, makes, site_ready, when_ready}
use Rattle.vx_sound.proofs.FieldRows.{found_typed, get_field_typed, get_static_typed, put_field_typed, put_static_typed}
use Rattle.vx_sound.proofs.Led.{IsLed, led}
use Rattle.vx_sound.proofs.Names.{name_reference, named_here}
use Rattle.vx_sound.proofs.NewArrays.{primitives_typed, references_typed}
use Rattle.vx_sound.proofs.NewObjects.{object_made}
use Rattle.vx_sound.proofs.ObjectRows.{cast_typed, entry_typed, taking, throw_typed}
use Rattle.vx_sound.proofs.Returning.{return_typed, wanted_there}
use Rattle.vx_sound.proofs.Sites.{AtSite, LeadsTo, Typed, behind, raises, types_here, types_in, types_with}
use Rattle.vx_sound.proofs.StoreRows.{load_reference_typed, store_typed}
use Rattle.vx_sound.proofs.Values.{none_some, some_same}
use Rattle.vx_sound.specs.Law.{OperationsKeepTypes, is_of_arrays, is_of_objects, is_return}
use Rattle.vx_sound.specs.Typed.{IsTypedOutcome, Typings}
use Rattle.vx_sound.specs.Values.{type_of_class}
use Rattle.vx_types.proofs.FitLaws.{fits_itself}
use Rattle.vx_types.specs.Fits.{fits}
use Rattle.vx_types.specs.Flow as flow
use Rattle.vx_types.specs.Flow.{after, targets_by}
use Rattle.vx_types.specs.Plain.{computes, gives, int, reference, takes}
use Rattle.vx_types.specs.Rows as rows
use Rattle.vx_types.specs.Rows.{holder, pool_of}
use Rattle.vx_types.specs.Types.{VerState, core_type, ref_of}
use Rattle.vx_types.specs.declared.types.Row.TheVariants.{Ends, Takes}
use Rattle.vx_types.specs.declared.types.VerType.{VerType}
use Rattle.vx_types.specs.declared.types.VerType.TheVariants as is
use Rattle.vx_types.specs.declared.types.Want.TheVariants.{Fits}

-- what holds of the operations at each site holds of the rows of instructions with these operations
pub by_operation : (of : Operation → Bool)
    → ((typings : Typings) (h : Here) → AtSite typings h → (o : Operation) → of o ≡ true → IsLed typings h o → Typed typings h (machine.row_of h o h.state.top.operands)) → OperationsKeepTypes of
by_operation of each p typings s code i sound are typed coded there is =
    let h : Here = record { program = p; state = s; code = code; pool = (class_at p (current_class p s)).pool; size = i.length } in
    let site : AtSite typings h = record { sound = sound; are = are; code = coded; pool = refl; state = typed } in
    subst (λ (o : Option Code). IsTypedOutcome p typings (row_in p s o)) (sym coded)
    (subst (λ (o : Option Instruction). IsTypedOutcome p typings (row_if p s code o)) (sym there)
    (each typings h site (operation_of i) is (led typings h site i there refl)))

module _ (typings : Typings) (h : Here) (site : AtSite typings h) where
  abbrev next : List ℕ
  next = behind h ∷ []

  abbrev ops : List Value
  ops = h.state.top.operands

  -- ---- arrays

  references_moved : (o : Option (List VerType)) (made : VerState) → option_map (λ (these : List VerType). types_with h these) o ≡ Some made → LeadsTo typings h next made
      → ((these : List VerType) → o ≡ Some these → LeadsTo typings h next (types_with h these) → Typed typings h (load_element h References ops)) → Typed typings h (load_element h References ops)
  references_moved None made e leads each = none_some e
  references_moved (Some these) made e leads each = each these refl (subst (λ (u : VerState). LeadsTo typings h next u) (sym (some_same e)) leads)

  array_typed : (o : Operation) → is_of_arrays o ≡ true → IsLed typings h o → Typed typings h (machine.row_of h o ops)
  array_typed (LoadElement References) k l =
      references_moved (flow.load_reference (types_in h ops)) l.made l.makes l.leads (λ these e on. load_reference_typed typings h site ops these e on)
  array_typed (LoadElement Longs) k l =
      taking typings h site (int ∷ rows.arrays_of h.program Longs ∷ []) (Some is.Long) l.made l.makes l.leads (λ rest took on. load_typed typings h site Longs refl ops rest took on)
  array_typed (LoadElement Ints) k l =
      taking typings h site (int ∷ rows.arrays_of h.program Ints ∷ []) (Some is.Int) l.made l.makes l.leads (λ rest took on. load_typed typings h site Ints refl ops rest took on)
  array_typed (LoadElement Bytes) k l =
      taking typings h site (int ∷ rows.arrays_of h.program Bytes ∷ []) (Some is.Int) l.made l.makes l.leads (λ rest took on. load_typed typings h site Bytes refl ops rest took on)
  array_typed (LoadElement Chars) k l =
      taking typings h site (int ∷ rows.arrays_of h.program Chars ∷ []) (Some is.Int) l.made l.makes l.leads (λ rest took on. load_typed typings h site Chars refl ops rest took on)
  array_typed (LoadElement Shorts) k l =
      taking typings h site (int ∷ rows.arrays_of h.program Shorts ∷ []) (Some is.Int) l.made l.makes l.leads (λ rest took on. load_typed typings h site Shorts refl ops rest took on)
  array_typed (StoreElement e) k l =
      taking typings h site (rows.stored_in e ∷ int ∷ rows.arrays_of h.program e ∷ []) None l.made l.makes l.leads (λ rest took on. store_typed typings h site e ops rest took on)
  array_typed (NewPrimitives number) k l = primitives_typed typings h site number l.made l.makes l.leads
  array_typed (NewReferences i) k l =
      let moved = subst
      (λ (q : Pool). after h.program (rows.new_references h.program (class_name q i)) (types_here h) ≡ Some l.made → LeadsTo typings h (targets_by (rows.new_references h.program (class_name q i)) next) l.made
      → Typed typings h (machine.row_of h (NewReferences i) ops))
      site.pool (λ e on. references_typed typings h site (class_name h.pool i) l.made e on) in
      moved l.makes l.leads
  array_typed Length k l = taking typings h site (rows.any_array h.program ∷ []) (Some is.Int) l.made l.makes l.leads (λ rest took on. length_typed typings h site ops rest took on)
  array_typed _ k l = absurd cc

  -- ---- new objects

  new_typed : (name : List ℕ) (made : VerState) → after h.program (rows.new_instance h.program name) (types_here h) ≡ Some made → LeadsTo typings h (targets_by (rows.new_instance h.program name) next) made
      → Typed typings h (if_there h name (class_named h.program name) (new_of_class h))
  new_typed name made e leads = by (class_named h.program name) refl e leads
    where
      new_there : (c : ℕ) → class_named h.program name ≡ Some c → (b : Bool) → after h.program (if b then Ends else gives (ref_of h.program name)) (types_here h) ≡ Some made
          → LeadsTo typings h (targets_by (if b then Ends else gives (ref_of h.program name)) next) made
          → Typed typings h (when b (raise h "java/lang/InstantiationError")
          (when (has_room h 1 ops) (when_initialised h c (λ g. push_new g (new_object g.program c) g.state.top.operands)) (illegal h)))
      new_there c found true k on = raises typings h site "java/lang/InstantiationError" None refl
      new_there c found false k on =
          taking typings h site [] (Some (ref_of h.program name)) made k on (λ rest same to.
          let one : flow.width (ref_of h.program name) ≡ 1 = let q = name_reference h.program 0 name in ap (λ (t : VerType). flow.width t) q.is in
          subst (λ b. Typed typings h (when b (when_initialised h c (λ g. push_new g (new_object g.program c) g.state.top.operands)) (illegal h)))
          (sym (room_for typings h site 1 (ref_of h.program name) ops rest one same to))
          (when_ready typings h site c (λ g. push_new g (new_object g.program c) g.state.top.operands) (λ inits count.
          makes typings (in_state h (record (h.state) { inits = inits })) (site_ready typings h site inits count) (new_object h.program c) ops (ref_of h.program name) rest
          (object_made h.program site.sound (h.state.heap ++ (new_object h.program c ∷ [])) c)
          (subst (λ (t : VerType). fits h.program (type_of_class h.program c) t ≡ true) (sym (named_here h.program name c found)) (fits_itself h.program site.sound.hierarchy.ranked (type_of_class h.program c)))
          same (leads_ready typings h site inits next (types_with h (ref_of h.program name ∷ rest)) to))))

      by : (o : Option ℕ) → class_named h.program name ≡ o → after h.program (rows.if_there o (rows.new_of_class h.program name)) (types_here h) ≡ Some made
          → LeadsTo typings h (targets_by (rows.if_there o (rows.new_of_class h.program name)) next) made → Typed typings h (if_there h name o (new_of_class h))
      by None found k on = refl
      by (Some c) found k on = new_there c found (has ABSTRACT (class_at h.program c).flags || is_interface h.program c) k on

  -- ---- objects and fields

  object_typed : (o : Operation) → is_of_objects o ≡ true → IsLed typings h o → Typed typings h (machine.row_of h o ops)
  object_typed (PushEntry i) k l =
      entry_typed typings h site i (pool_of h.program h.state.top.method) site.pool (λ j e. site.sound.first.texts (current_class h.program h.state) i j e)
      (λ j e. site.sound.first.classes (current_class h.program h.state) i j e) l.made l.makes l.leads
  object_typed (GetStatic i) k l =
      let moved = subst
      (λ (q : Pool). after h.program (rows.with_field h.program (member q i) true (λ t. gives t)) (types_here h) ≡ Some l.made
      → LeadsTo typings h (targets_by (rows.with_field h.program (member q i) true (λ t. gives t)) next) l.made → Typed typings h (get_static h i))
      site.pool (λ e on. found_typed typings h site (member h.pool i) true (λ t. gives t) l.made e on
      (λ found. when (has_room h (width_of_type found.type) ops) (when_initialised h (declaring h found) (λ g. go g (item_or g.state.statics found.field Top ∷ g.state.top.operands))) (illegal h)) (λ found v q m to.
      taking typings h site [] (Some v) l.made m to (λ rest same up. get_static_typed typings h site (member h.pool i) found v q rest same up))) in
      moved l.makes l.leads
  object_typed (PutStatic i) k l =
      let moved = subst
      (λ (q : Pool). after h.program (rows.with_field h.program (member q i) true (λ t. takes (Fits t ∷ []))) (types_here h) ≡ Some l.made
      → LeadsTo typings h (targets_by (rows.with_field h.program (member q i) true (λ t. takes (Fits t ∷ []))) next) l.made → Typed typings h (put_static h i))
      site.pool (λ e on. found_typed typings h site (member h.pool i) true (λ t. takes (Fits t ∷ [])) l.made e on (λ found. put_value h found ops) (λ found v q m to.
      taking typings h site (Fits v ∷ []) None l.made m to (λ rest took up. put_static_typed typings h site (member h.pool i) found v q ops rest took up))) in
      moved l.makes l.leads
  object_typed (GetField i) k l =
      let moved = subst
      (λ (q : Pool). after h.program (rows.with_field h.program (member q i) false (λ t. computes (holder h.program (member q i) ∷ []) t)) (types_here h) ≡ Some l.made
      → LeadsTo typings h (targets_by (rows.with_field h.program (member q i) false (λ t. computes (holder h.program (member q i) ∷ []) t)) next) l.made → Typed typings h (get_field h i))
      site.pool (λ e on. found_typed typings h site (member h.pool i) false (λ t. computes (holder h.program (member h.pool i) ∷ []) t) l.made e on (λ found. get_from h found ops) (λ found v q m to.
      taking typings h site (holder h.program (member h.pool i) ∷ []) (Some v) l.made m to (λ rest took up. get_field_typed typings h site (member h.pool i) found v q ops rest took up))) in
      moved l.makes l.leads
  object_typed (PutField i) k l =
      let moved = subst
      (λ (q : Pool). after h.program (rows.with_field h.program (member q i) false (λ t. takes (Fits t ∷ holder h.program (member q i) ∷ []))) (types_here h) ≡ Some l.made
      → LeadsTo typings h (targets_by (rows.with_field h.program (member q i) false (λ t. takes (Fits t ∷ holder h.program (member q i) ∷ []))) next) l.made → Typed typings h (put_field h i))
      site.pool (λ e on. found_typed typings h site (member h.pool i) false (λ t. takes (Fits t ∷ holder h.program (member h.pool i) ∷ [])) l.made e on (λ found. put_into h found ops) (λ found v q m to.
      taking typings h site (Fits v ∷ holder h.program (member h.pool i) ∷ []) None l.made m to (λ rest took up. put_field_typed typings h site (member h.pool i) found v q ops rest took up))) in
      moved l.makes l.leads
  object_typed (New i) k l =
      let moved = subst
      (λ (q : Pool). after h.program (rows.new_instance h.program (class_name q i)) (types_here h) ≡ Some l.made
      → LeadsTo typings h (targets_by (rows.new_instance h.program (class_name q i)) next) l.made → Typed typings h (new_instance h i))
      site.pool (λ e on. new_typed (class_name h.pool i) l.made e on) in
      moved l.makes l.leads
  object_typed (CheckCast i) k l =
      let moved = subst
      (λ (q : Pool). after h.program (Takes (reference ∷ []) (Some (ref_of h.program (class_name q i)))) (types_here h) ≡ Some l.made → LeadsTo typings h next l.made
      → Typed typings h (check_cast h (class_name h.pool i) ops))
      site.pool (λ e on. taking typings h site (reference ∷ []) (Some (ref_of h.program (class_name h.pool i))) l.made e on (λ rest took up. cast_typed typings h site (class_name h.pool i) ops rest took up)) in
      moved l.makes l.leads
  object_typed operation.Throw k l =
      let took = wanted_there typings h site (Fits (core_type h.program "java/lang/Throwable") ∷ []) l.made l.makes in
      throw_typed typings h site ops took.0 took.1
  object_typed _ k l = absurd cc

pub arrays_keep_types : OperationsKeepTypes is_of_arrays
arrays_keep_types = by_operation is_of_arrays array_typed

pub objects_keep_types : OperationsKeepTypes is_of_objects
objects_keep_types = by_operation is_of_objects object_typed

returns_typed : (typings : Typings) (h : Here) → AtSite typings h → (o : Operation) → is_return o ≡ true → IsLed typings h o → Typed typings h (machine.row_of h o h.state.top.operands)
returns_typed typings h site (Return s) k l = return_typed typings h site s l.made l.makes
returns_typed typings h site _ k l = absurd cc

pub returns_keep_types : OperationsKeepTypes is_return
returns_keep_types = by_operation is_return returns_typed
