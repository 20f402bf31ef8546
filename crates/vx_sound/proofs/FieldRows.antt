-- The rows of fields, static and of objects.
use Rattle.std.proofs.Common.{Bool, List, None, Option, Some, [], ap, arith, false, inl, inr, length, refl, subst, sym, true, ℕ, ◌<◌, ◌∷◌, ◌≡◌, ◌⊎◌}
use Rattle.std.specs.Prelude.{is_some, option_map, slice_set, ◌&&◌}
use Rattle.vx_desc.specs.Descriptors.{field_type}
use Rattle.vx_desc.specs.declared.java_type.JavaType.{JavaType}
use Rattle.vx_java.specs.Checks.{fits_type, if_there, is_instance_of, non_null, same_bool, sort_of, width_of_type}
use Rattle.vx_java.specs.Fields.{Found, declaring, get_from, if_agreeing, if_field, if_sort, if_type, in_own_initialiser, put_into, put_value, with_written}
use Rattle.vx_java.specs.FirstObjects.{narrowed_value}
use Rattle.vx_java.specs.Initialisation.{when_initialised}
use Rattle.vx_java.specs.Machine.{Go, Here, Null, Object, Outcome, Ref, Top, Value, cell_at, go, has_room, illegal, in_state, object_at, past, raise, when, with_cell, with_static}
use Rattle.vx_java.specs.declared.operation.Sort.{Sort}
use Rattle.vx_link.specs.ClassNames.{class_named}
use Rattle.vx_link.specs.Names.{Member}
use Rattle.vx_link.specs.Parts.{class_count, field_at, is_static_field}
use Rattle.vx_link.specs.Resolution.{resolve_field}
use Rattle.vx_link.specs.declared.program.Program.{Program}
use Rattle.vx_list.specs.Places.{item_or}
use Rattle.vx_sound.proofs.ArrayRows.{room_for}
use Rattle.vx_sound.proofs.Changes.{changes, leads_ready, site_ready, when_ready, writes}
use Rattle.vx_sound.proofs.Elements.{IsObjectOf, of_reference}
use Rattle.vx_sound.proofs.Fields.{changed_field, narrowed_type, set_view, sort_fits, width_typed}
use Rattle.vx_sound.proofs.Heaps.{IsLaterHeap, changed_later}
use Rattle.vx_sound.proofs.Members.{HasIt, IsInstanceField, field_typed, has_it, instance_field, resolved}
use Rattle.vx_sound.proofs.Names.{named_here}
use Rattle.vx_sound.proofs.Sites.{AtSite, LeadsTo, Typed, behind, goes_fitting, goes_with, raises, types_here, types_in, types_with, under_fits}
use Rattle.vx_sound.proofs.Taken.{on_top}
use Rattle.vx_sound.proofs.Values.{class_reference, none_some}
use Rattle.vx_sound.specs.Typed.{Typings}
use Rattle.vx_sound.specs.Values.{type_of_class, type_of_field, type_of_value}
use Rattle.vx_types.proofs.Tests.{both}
use Rattle.vx_types.specs.Fits.{fits}
use Rattle.vx_types.specs.Flow.{after, taken, targets_by}
use Rattle.vx_types.specs.Ranked.{IsRanked}
use Rattle.vx_types.specs.Rows as rows
use Rattle.vx_types.specs.Rows.{holder}
use Rattle.vx_types.specs.Types.{VerState, ref_of, type_of, type_of_sort}
use Rattle.vx_types.specs.declared.types.Row.{Row}
use Rattle.vx_types.specs.declared.types.VerType.{VerType}
use Rattle.vx_types.specs.declared.types.Want.TheVariants.{Fits}
use Rattle.vx_value.specs.declared.slot.InitState.{InitState}

-- a field that a name is resolved to, and its type
pub record IsField (p : Program) (m : Member) (static : Bool) (found : Found) (v : VerType) : Type 0 where
  pub reads : field_type m.descriptor ≡ Some found.type
  pub types : type_of p m.descriptor found.type ≡ Some v
  pub named : class_named p m.class ≡ Some found.named
  pub resolves : resolve_field p found.named m.name m.descriptor ≡ Some found.field
  pub is_static : is_static_field p found.field ≡ static

same_as : (a b : Bool) → same_bool a b ≡ true → b ≡ a
same_as true true e = refl
same_as true false e = absurd cc
same_as false true e = absurd cc
same_as false false e = refl

module _ (typings : Typings) (h : Here) (site : AtSite typings h) where
  ranked : IsRanked h.program
  ranked = site.sound.hierarchy.ranked

  abbrev heap : List Object
  heap = h.state.heap

  abbrev next : List ℕ
  next = behind h ∷ []

  -- ---- which field it is

  -- what the program decides is the same for rows and types
  pub found_typed : (m : Member) (static : Bool) (row : VerType → Row) (made : VerState) → after h.program (rows.with_field h.program m static row) (types_here h) ≡ Some made
      → LeadsTo typings h (targets_by (rows.with_field h.program m static row) next) made → (rest : Found → Outcome)
      → ((found : Found) (v : VerType) → IsField h.program m static found v → after h.program (row v) (types_here h) ≡ Some made → LeadsTo typings h (targets_by (row v) next) made → Typed typings h (rest found))
      → Typed typings h (if_type h m static (field_type m.descriptor) rest)
  found_typed m static row made e leads rest each = of_type (field_type m.descriptor) refl e leads
    where
      agreeing : (t : JavaType) (v : VerType) (named f : ℕ) → field_type m.descriptor ≡ Some t → type_of h.program m.descriptor t ≡ Some v → class_named h.program m.class ≡ Some named
          → resolve_field h.program named m.name m.descriptor ≡ Some f → (b : Bool) → same_bool static (is_static_field h.program f) ≡ b
          → after h.program (rows.if_agreeing b (row v)) (types_here h) ≡ Some made → LeadsTo typings h (targets_by (rows.if_agreeing b (row v)) next) made
          → Typed typings h (if_agreeing h b (record { named = named; field = f; type = t }) rest)
      agreeing t v named f reads types is resolves true same k on =
          each (record { named = named; field = f; type = t }) v
          (record { reads = reads; types = types; named = is; resolves = resolves; is_static = same_as static (is_static_field h.program f) same }) k on
      agreeing t v named f reads types is resolves false other k on = raises typings h site "java/lang/IncompatibleClassChangeError" None refl

      of_field : (t : JavaType) (v : VerType) (named : ℕ) → field_type m.descriptor ≡ Some t → type_of h.program m.descriptor t ≡ Some v → class_named h.program m.class ≡ Some named
          → (o : Option ℕ) → resolve_field h.program named m.name m.descriptor ≡ o
          → after h.program (rows.if_field h.program static o (row v)) (types_here h) ≡ Some made → LeadsTo typings h (targets_by (rows.if_field h.program static o (row v)) next) made
          → Typed typings h (if_field h m static t named o rest)
      of_field t v named reads types is None resolves k on = refl
      of_field t v named reads types is (Some f) resolves k on =
          agreeing t v named f reads types is resolves (same_bool static (is_static_field h.program f)) refl k on

      of_class : (t : JavaType) (v : VerType) → field_type m.descriptor ≡ Some t → type_of h.program m.descriptor t ≡ Some v → (o : Option ℕ) → class_named h.program m.class ≡ o
          → after h.program (rows.if_there o (λ named. rows.if_field h.program static (resolve_field h.program named m.name m.descriptor) (row v))) (types_here h) ≡ Some made
          → LeadsTo typings h (targets_by (rows.if_there o (λ named. rows.if_field h.program static (resolve_field h.program named m.name m.descriptor) (row v))) next) made
          → Typed typings h (if_there h m.class o (λ named. if_field h m static t named (resolve_field h.program named m.name m.descriptor) rest))
      of_class t v reads types None is k on = refl
      of_class t v reads types (Some named) is k on = of_field t v named reads types is (resolve_field h.program named m.name m.descriptor) refl k on

      of_sort : (t : JavaType) → field_type m.descriptor ≡ Some t → (o : Option Sort) → sort_of t ≡ o
          → after h.program (rows.if_accepted h.program m static (option_map (type_of_sort h.program m.descriptor t) o) row) (types_here h) ≡ Some made
          → LeadsTo typings h (targets_by (rows.if_accepted h.program m static (option_map (type_of_sort h.program m.descriptor t) o) row) next) made
          → Typed typings h (if_sort h o (if_there h m.class (class_named h.program m.class) (λ named. if_field h m static t named (resolve_field h.program named m.name m.descriptor) rest)))
      of_sort t reads None is k on = refl
      of_sort t reads (Some s) is k on =
          of_class t (type_of_sort h.program m.descriptor t s) reads (ap (option_map (type_of_sort h.program m.descriptor t)) is) (class_named h.program m.class) refl k on

      of_type : (o : Option JavaType) → field_type m.descriptor ≡ o → after h.program (rows.if_type h.program m static o row) (types_here h) ≡ Some made
          → LeadsTo typings h (targets_by (rows.if_type h.program m static o row) next) made → Typed typings h (if_type h m static o rest)
      of_type None reads k on = none_some k
      of_type (Some t) reads k on = of_sort t reads (sort_of t) refl k on

  -- ---- static fields

  static_type : (m : Member) (found : Found) (v : VerType) → IsField h.program m true found v → type_of_field h.program found.field ≡ v
  static_type m found v q = field_typed h.program m.descriptor found.field found.type v (resolved h.program found.named m.name m.descriptor found.field q.resolves).own.descriptor q.reads q.types

  pub get_static_typed : (m : Member) (found : Found) (v : VerType) → IsField h.program m true found v → (rest : List VerType) → Some (types_in h h.state.top.operands) ≡ Some rest
      → LeadsTo typings h next (types_with h (v ∷ rest))
      → Typed typings h (when (has_room h (width_of_type found.type) h.state.top.operands)
      (when_initialised h (declaring h found) (λ g. go g (item_or g.state.statics found.field Top ∷ g.state.top.operands))) (illegal h))
  get_static_typed m found v q rest same leads =
      subst (λ b. Typed typings h (when b (when_initialised h (declaring h found) (λ g. go g (item_or g.state.statics found.field Top ∷ g.state.top.operands))) (illegal h)))
      (sym (room_for typings h site (width_of_type found.type) v h.state.top.operands rest (width_typed h.program m.descriptor found.type v q.types) same leads))
      (when_ready typings h site (declaring h found) (λ g. go g (item_or g.state.statics found.field Top ∷ g.state.top.operands)) (λ inits count.
      goes_with typings (in_state h (record (h.state) { inits = inits })) (site_ready typings h site inits count) (item_or h.state.statics found.field Top) h.state.top.operands v rest
      (subst (λ (t : VerType). fits h.program (type_of_value h.program heap (item_or h.state.statics found.field Top)) t ≡ true) (static_type m found v q) (site.state.statics found.field q.is_static))
      same (leads_ready typings h site inits next (types_with h (v ∷ rest)) leads)))

  heap_stays : IsLaterHeap heap heap
  heap_stays = record { more = omega arith; same = λ r less. refl }

  statics_with : (f : ℕ) (w : Value) → fits h.program (type_of_value h.program heap w) (type_of_field h.program f) ≡ true → (g : ℕ) → is_static_field h.program g ≡ true
      → fits h.program (type_of_value h.program heap (item_or (slice_set h.state.statics f w) g Top)) (type_of_field h.program g) ≡ true
  statics_with f w fit g static = by (set_view h.state.statics f g w Top)
    where
      by : ((g ≡ f) × (item_or (slice_set h.state.statics f w) g Top ≡ w)) ⊎ (item_or (slice_set h.state.statics f w) g Top ≡ item_or h.state.statics g Top)
          → fits h.program (type_of_value h.program heap (item_or (slice_set h.state.statics f w) g Top)) (type_of_field h.program g) ≡ true
      by (inl q) =
          subst (λ (x : Value). fits h.program (type_of_value h.program heap x) (type_of_field h.program g) ≡ true) (sym q.1)
          (subst (λ k. fits h.program (type_of_value h.program heap w) (type_of_field h.program k) ≡ true) (sym q.0) fit)
      by (inr q) = subst (λ (x : Value). fits h.program (type_of_value h.program heap x) (type_of_field h.program g) ≡ true) (sym q) (site.state.statics g static)

  pub put_static_typed : (m : Member) (found : Found) (v : VerType) → IsField h.program m true found v → (operands : List Value) (rest : List VerType)
      → taken h.program (Fits v ∷ []) (types_in h operands) ≡ Some rest → LeadsTo typings h next (types_with h rest) → Typed typings h (put_value h found operands)
  put_static_typed m found v q operands rest took leads =
      on_top h.program heap (λ os. Typed typings h (put_value h found os)) (Fits v) [] operands rest took (λ w under fit same.
      subst (λ b. Typed typings h (when b (when_initialised h (declaring h found) (λ g. Go (past g (with_written g found w) under))) (illegal h)))
      (sym (sort_fits h.program m.descriptor found.type v q.types heap w fit))
      (when_ready typings h site (declaring h found) (λ g. Go (past g (with_written g found w) under)) (λ inits count. written w under fit same inits count)))
    where
      written : (w : Value) (under : List Value) → fits h.program (type_of_value h.program heap w) v ≡ true → Some (types_in h under) ≡ Some rest → (inits : List InitState)
          → length inits ≡ class_count h.program
          → Typed typings h (Go (past (in_state h (record (h.state) { inits = inits })) (with_written (in_state h (record (h.state) { inits = inits })) found w) under))
      written w under fit same inits count = by (is_some (field_at h.program found.field).option && in_own_initialiser h (declaring h found))
        where
          g : Here
          g = in_state h (record (h.state) { inits = inits })

          ready : AtSite typings (in_state h (record (h.state) { inits = inits }))
          ready = site_ready typings h site inits count

          narrowed : fits h.program (type_of_value h.program heap (narrowed_value found.type w)) (type_of_field h.program found.field) ≡ true
          narrowed =
              subst (λ (t : VerType). fits h.program t (type_of_field h.program found.field) ≡ true) (sym (narrowed_type h.program heap found.type w))
              (subst (λ (t : VerType). fits h.program (type_of_value h.program heap w) t ≡ true) (sym (static_type m found v q)) fit)

          by : (b : Bool) → Typed typings h (Go (past (in_state h (record (h.state) { inits = inits })) (elim b [
            | true ↦ (in_state h (record (h.state) { inits = inits })).state
            | false ↦ with_static (in_state h (record (h.state) { inits = inits })).state found.field (narrowed_value found.type w)
          ]) under))
          by true = goes_fitting typings (in_state h (record (h.state) { inits = inits })) ready under rest (under_fits typings h site under rest same) (leads_ready typings h site inits next (types_with h rest) leads)
          by false =
              changes typings (in_state h (record (h.state) { inits = inits })) ready heap (slice_set h.state.statics found.field (narrowed_value found.type w)) under rest heap_stays site.state.heap
              (statics_with found.field (narrowed_value found.type w) narrowed) (under_fits typings h site under rest same) (leads_ready typings h site inits next (types_with h rest) leads)

  -- ---- fields of objects

  -- the object that has a field
  pub record IsOwner (found : Found) (object : ℕ) : Type 0 where
    pub there : object < length (h.state.heap)
    pub has : HasIt h.program found.named found.field (object_at h.state object).class

  owned : (m : Member) (found : Found) (v : VerType) → IsField h.program m false found v → (o : Value) → fits h.program (type_of_value h.program heap o) (ref_of h.program m.class) ≡ true
      → (o ≡ Null) ⊎ ((r : ℕ) × (o ≡ Ref r) × IsOwner found r)
  owned m found v q o fit = by (of_reference h.program heap (type_of_class h.program found.named) o (class_reference h.program found.named) held)
    where
      held : fits h.program (type_of_value h.program heap o) (type_of_class h.program found.named) ≡ true
      held = subst (λ (t : VerType). fits h.program (type_of_value h.program heap o) t ≡ true) (named_here h.program m.class found.named q.named) fit

      field : IsInstanceField h.program found.named found.field
      field =
          instance_field h.program site.sound.hierarchy site.sound.members found.named m.descriptor found.field
          (resolved h.program found.named m.name m.descriptor found.field q.resolves) q.is_static

      by : (o ≡ Null) ⊎ IsObjectOf h.program heap (type_of_class h.program found.named) o → (o ≡ Null) ⊎ ((r : ℕ) × (o ≡ Ref r) × IsOwner found r)
      by (inl null) = inl null
      by (inr x) = inr (x.object, x.is, record { there = x.there; has = has_it h.program site.sound.hierarchy site.sound.members found.named found.field (object_at h.state x.object).class field x.fit })

  field_within : (m : Member) (found : Found) (v : VerType) → IsField h.program m false found v → found.field < length h.program.fields
  field_within m found v q = site.sound.members.within _ found.field (resolved h.program found.named m.name m.descriptor found.field q.resolves).own.declared

  object_type : (m : Member) (found : Found) (v : VerType) → IsField h.program m false found v → type_of_field h.program found.field ≡ v
  object_type m found v q = field_typed h.program m.descriptor found.field found.type v (resolved h.program found.named m.name m.descriptor found.field q.resolves).own.descriptor q.reads q.types

  pub get_field_typed : (m : Member) (found : Found) (v : VerType) → IsField h.program m false found v → (operands : List Value) (rest : List VerType)
      → taken h.program (holder h.program m ∷ []) (types_in h operands) ≡ Some rest → LeadsTo typings h next (types_with h (v ∷ rest)) → Typed typings h (get_from h found operands)
  get_field_typed m found v q operands rest took leads =
      on_top h.program heap (λ os. Typed typings h (get_from h found os)) (holder h.program m) [] operands rest took (λ o under fit same. by o under same (owned m found v q o fit))
    where
      getting : Value → List Value → Outcome
      getting o under =
          when (is_instance_of h found.named o && has_room h (width_of_type found.type) under)
          (non_null h o (λ r. go h (cell_at h.state r (field_at h.program found.field).cell ∷ under))) (illegal h)

      by : (o : Value) (under : List Value) → Some (types_in h under) ≡ Some rest → (o ≡ Null) ⊎ ((r : ℕ) × (o ≡ Ref r) × IsOwner found r) → Typed typings h (getting o under)
      by o under same (inl null) =
          subst (λ (x : Value). Typed typings h (getting x under)) (sym null)
          (subst (λ b. Typed typings h (when (true && b) (raise h "java/lang/NullPointerException") (illegal h)))
          (sym (room_for typings h site (width_of_type found.type) v under rest (width_typed h.program m.descriptor found.type v q.types) same leads))
          (raises typings h site "java/lang/NullPointerException" None refl))
      by o under same (inr (r, is, owner)) =
          subst (λ (x : Value). Typed typings h (getting x under)) (sym is)
          (subst (λ b. Typed typings h (when b (go h (cell_at h.state r (field_at h.program found.field).cell ∷ under)) (illegal h)))
          (sym (both (is_instance_of h found.named (Ref r)) (has_room h (width_of_type found.type) under) owner.has.instance
          (room_for typings h site (width_of_type found.type) v under rest (width_typed h.program m.descriptor found.type v q.types) same leads)))
          (goes_with typings h site (cell_at h.state r (field_at h.program found.field).cell) under v rest
          (subst (λ (t : VerType). fits h.program (type_of_value h.program heap (cell_at h.state r (field_at h.program found.field).cell)) t ≡ true) (object_type m found v q)
          ((site.state.heap.objects r owner.there).fields owner.has.plain found.field (field_within m found v q) owner.has.there)) same leads))

  pub put_field_typed : (m : Member) (found : Found) (v : VerType) → IsField h.program m false found v → (operands : List Value) (rest : List VerType)
      → taken h.program (Fits v ∷ holder h.program m ∷ []) (types_in h operands) ≡ Some rest → LeadsTo typings h next (types_with h rest) → Typed typings h (put_into h found operands)
  put_field_typed m found v q operands rest took leads =
      on_top h.program heap (λ os. Typed typings h (put_into h found os)) (Fits v) (holder h.program m ∷ []) operands rest took (λ w above fit below.
      on_top h.program heap (λ os. Typed typings h (put_into h found (w ∷ os))) (holder h.program m) [] above rest below (λ o under held same. by w fit o under same (owned m found v q o held)))
    where
      putting : Value → Value → List Value → Outcome
      putting w o under =
          when (fits_type found.type w && is_instance_of h found.named o)
          (non_null h o (λ r. Go (past h (with_cell h.state r (field_at h.program found.field).cell (narrowed_value found.type w)) under))) (illegal h)

      by : (w : Value) → fits h.program (type_of_value h.program heap w) v ≡ true → (o : Value) (under : List Value) → Some (types_in h under) ≡ Some rest
          → (o ≡ Null) ⊎ ((r : ℕ) × (o ≡ Ref r) × IsOwner found r) → Typed typings h (putting w o under)
      by w fit o under same (inl null) =
          subst (λ (x : Value). Typed typings h (putting w x under)) (sym null)
          (subst (λ b. Typed typings h (when b (raise h "java/lang/NullPointerException") (illegal h)))
          (sym (both (fits_type found.type w) true (sort_fits h.program m.descriptor found.type v q.types heap w fit) refl))
          (raises typings h site "java/lang/NullPointerException" None refl))
      by w fit o under same (inr (r, is, owner)) =
          let x : Object = object_at h.state r in
          let changed : Object = record x { cells = slice_set (x.cells) ((field_at h.program found.field).cell) (narrowed_value found.type w) } in
          subst (λ (y : Value). Typed typings h (putting w y under)) (sym is)
          (subst (λ b. Typed typings h (when b (Go (past h (with_cell h.state r (field_at h.program found.field).cell (narrowed_value found.type w)) under)) (illegal h)))
          (sym (both (fits_type found.type w) (is_instance_of h found.named (Ref r)) (sort_fits h.program m.descriptor found.type v q.types heap w fit) owner.has.instance))
          (writes typings h site r changed under rest refl
          (changed_field h.program ranked site.sound.cells heap (slice_set heap r changed) (changed_later heap r changed refl) x found.field (narrowed_value found.type w) owner.has.plain
          (field_within m found v q) owner.has.there (site.state.heap.objects r owner.there) narrowed) same leads))
        where
          narrowed : fits h.program (type_of_value h.program heap (narrowed_value found.type w)) (type_of_field h.program found.field) ≡ true
          narrowed =
              subst (λ (t : VerType). fits h.program t (type_of_field h.program found.field) ≡ true) (sym (narrowed_type h.program heap found.type w))
              (subst (λ (t : VerType). fits h.program (type_of_value h.program heap w) t ≡ true) (sym (object_type m found v q)) fit)
