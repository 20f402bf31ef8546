-- The row of each operation comes to what the operation lacks, and to no other end as unsupported.
use Rattle.std.proofs.Common.{Bool, List, None, Option, Some, [], codes, false, if◌then◌else◌, refl, true, ℕ, ◌&&◌, ◌++◌, ◌-◌, ◌∷◌, ◌≡◌}
use Rattle.std.specs.Prelude.{nat_lt, not, ◌==◌, ◌||◌}
use Rattle.vx_class.specs.Members.{ABSTRACT, STATIC}
use Rattle.vx_class.specs.declared.class_file.Code.{Code}
use Rattle.vx_pool.specs.Lookups.{entry_of}
use Rattle.vx_desc.specs.Descriptors.{field_type}
use Rattle.vx_desc.specs.declared.java_type.JavaType.{JavaType}
use Rattle.vx_java.specs.Arrays.{elements_of_numbers, lengths_off, new_array, new_grid_of, new_primitives}
use Rattle.vx_java.specs.Calls.{arguments_off, call_instance, call_resolved, call_static, carry_out, clone_array, dispatch, enter, if_method, invoke, is_receiver, member_text, on_class, on_receiver, state_in_callee, wrong_kind}
use Rattle.vx_java.specs.Checks.{fits_type, non_null, same_bool, sort_of, width_of_type, with_class}
use Rattle.vx_java.specs.Constants.{push_entry}
use Rattle.vx_java.specs.Fields.{Found, declaring, field_text, get_from, if_agreeing, if_field, if_sort, if_type, put_into, put_value, static_value, with_written}
use Rattle.vx_java.specs.FirstObjects.{literal_object, new_object}
use Rattle.vx_java.specs.Initialisation.{when_initialised}
use Rattle.vx_java.specs.Machine.{Go, Here, Int, Long, Native, Null, Outcome, Ref, Text, Value, current_class, depth, frame_bound, go, has_room, illegal, method_text, object_at, past, push, push_new, raise, unsupported, when}
use Rattle.vx_java.specs.Objects.{against, check_cast, instance_of, int_of_bool, new_of_class}
use Rattle.vx_java.specs.Operation.{constant_word, field_word, float_word, method_word, native_word}
use Rattle.vx_java.specs.Row.{row_of}
use Rattle.vx_java.specs.Selection.{selected_if_concrete, select}
use Rattle.vx_java.specs.declared.operation.Mode.{Mode}
use Rattle.vx_java.specs.declared.operation.Mode.TheVariants as mode
use Rattle.vx_java.specs.declared.operation.Operation.{Operation}
use Rattle.vx_java.specs.declared.operation.Operation.TheVariants as operation
use Rattle.vx_java.specs.declared.operation.Sort.{Sort}
use Rattle.vx_java.specs.declared.selected.Selected.{Selected}
use Rattle.vx_java.specs.declared.selected.Selected.TheVariants.{Abstract, Conflict, Method}
use Rattle.vx_kept_facts.proofs.Claims.{chosen}
use Rattle.vx_kept_facts.proofs.ObjectRows.{against_comes, cast_comes, get_from_comes, new_array_comes, new_grid_of_comes, put_into_comes}
use Rattle.vx_kept_facts.proofs.RowClaims.{settles}
use Rattle.vx_link.specs.Assignability.{assignable}
use Rattle.vx_link.specs.ClassNames.{array_class, array_over, double_element, float_element, int_element}
use Rattle.vx_link.specs.Names.{Member, class_name, member, utf8}
use Rattle.vx_link.specs.Parts.{PRIVATE, class_at, has, is_interface, is_static_field, method_at}
use Rattle.vx_link.specs.Resolution.{is_array_clone, resolve_field, resolve_method}
use Rattle.vx_link.specs.Signature.{signature}
use Rattle.vx_list.specs.Places.{item_or}
use Rattle.vx_pool.specs.declared.pool.Entry.{Entry}
use Rattle.vx_pool.specs.declared.pool.Entry.TheVariants as entry
use Rattle.vx_may_end.specs.Lacks.{lack, lacks_of, of_call, of_class, of_class_there, of_code, of_entry, of_field_there, of_initialisation, of_method_there, of_named, of_new, of_primitives, of_receivers, of_resolved, of_selected, of_sort, of_type, special_selection}
use Rattle.vx_may_end.specs.Listed.{is_lack, is_one}
use Rattle.vx_may_end.specs.declared.lack.Lack.{Lack}
use Rattle.vx_may_end.specs.declared.lack.When.{When}
use Rattle.vx_may_end.specs.declared.lack.When.TheVariants.{Always, On, Perhaps}
use Rattle.vx_may_end.proofs.Quiet.{IsQuiet, goes, illegal_ends, native_comes, quiet, quiet_rows, raises, row_quiet}
use Rattle.vx_may_end.proofs.Receivers.{listed_class, of_receiver_listed, receiver_fits}
use Rattle.vx_may_end.proofs.Told.{TellsHere, Within, arguments_told, behind, by_when, class_told, here, initialised, initialised_told, left_out, quietly, where_false, where_true, wider}

-- ---- a method that is carried out

entered : (h : Here) (when_so : When) (m : ℕ) (code : Option Code) (values rest : List Value) → TellsHere h (of_code h.program when_so m code) (enter h m code values rest)
entered h when_so m None values rest =
    where_true h (lack when_so native_word (method_text h.program (method_at h.program m))) ((method_at h.program m).native == 0) (unsupported h native_word (method_text h.program (method_at h.program m))) (Native m h.state)
    (left_out h when_so native_word (method_text h.program (method_at h.program m)))
    native_comes
entered h when_so m (Some code) values rest =
    quietly h.program [] (here h) (enter h m (Some code) values rest) (chosen quiet h.program (nat_lt (depth h.state) frame_bound) (Go (state_in_callee h m values rest)) (raise h "java/lang/StackOverflowError") goes raises)

carried : (h : Here) (when_so : When) (values rest : List Value) (o : Selected) → TellsHere h (of_selected h.program when_so o) (carry_out h values rest o)
carried h when_so values rest (Method m) = entered h when_so m.0 (method_at h.program m.0).code values rest
carried h when_so values rest Abstract = quietly h.program [] (here h) (raise h "java/lang/AbstractMethodError") raises
carried h when_so values rest Conflict = quietly h.program [] (here h) (raise h "java/lang/IncompatibleClassChangeError") raises

module _ (h : Here) where
  abbrev Lacks : List Lack → Outcome → Type 0
  Lacks ls o = TellsHere h ls o

  calm : (o : Outcome) → IsQuiet o → Lacks [] o
  calm o q = quietly h.program [] (here h) o q

  -- ---- constants

  constant : (e : Option Entry) → Lacks (of_entry h.program h.pool e) (push_entry h e)
  constant (Some (entry.Class i)) =
      let object = Ref (literal_object h.program h.pool (entry.Class i)) in
      class_told h Always (utf8 h.pool i) (λ c. []) (λ c. push h object h.state.top.operands) (λ c. calm (push h object h.state.top.operands) (settles quiet_rows h tt (object ∷ h.state.top.operands)))
  constant (Some (entry.Float n)) = left_out h Always float_word (codes "-")
  constant (Some (entry.Double n)) = left_out h Always float_word (codes "-")
  constant (Some (entry.MethodHandle kind i)) = left_out h Always constant_word (codes "-")
  constant (Some (entry.MethodType i)) = left_out h Always constant_word (codes "-")
  constant (Some (entry.Integer n)) = calm (push h (Int n) h.state.top.operands) (settles quiet_rows h tt (Int n ∷ h.state.top.operands))
  constant (Some (entry.Long n)) = calm (push h (Long n) h.state.top.operands) (settles quiet_rows h tt (Long n ∷ h.state.top.operands))
  constant (Some (entry.Text i)) =
      let object = Ref (literal_object h.program h.pool (entry.Text i)) in calm (push h object h.state.top.operands) (settles quiet_rows h tt (object ∷ h.state.top.operands))
  constant _ = calm (illegal h) illegal_ends

  -- ---- initialisation

  -- what follows lacks nothing
  begun : (c : ℕ) (rest : Here → Outcome) → ((g : Here) → IsQuiet (rest g)) → Lacks (of_initialisation h.program c ++ []) (when_initialised h c rest)
  begun c rest each =
      let ls = of_initialisation h.program c ++ [] in
      initialised_told h c [] rest (quietly h.program ls (here h) (rest h) (each h)) (λ inits. quietly h.program ls (here h) (rest (initialised h inits)) (each (initialised h inits)))

  alone : (ls : List Lack) → Within (ls ++ []) ls
  alone [] word what e = e
  alone (l ∷ ls) word what e = by (is_one word what l) e (alone ls word what)
    where
      by : (b : Bool) → (b || is_lack (ls ++ []) word what) ≡ true → (is_lack (ls ++ []) word what ≡ true → is_lack ls word what ≡ true) → (b || is_lack ls word what) ≡ true
      by true f later = refl
      by false f later = later f

  begun_alone : (c : ℕ) (rest : Here → Outcome) → ((g : Here) → IsQuiet (rest g)) → Lacks (of_initialisation h.program c) (when_initialised h c rest)
  begun_alone c rest each =
      wider h.program (of_initialisation h.program c ++ []) (of_initialisation h.program c) (here h) (when_initialised h c rest) (alone (of_initialisation h.program c)) (begun c rest each)

  -- ---- fields

  static_found : (found : Found) (static : Bool) (rest : Found → Outcome) → ((f : Found) → Lacks (of_initialisation h.program (declaring h f)) (rest f))
      → Lacks (if static then of_initialisation h.program (declaring h found) else []) (if_agreeing h static found rest)
  static_found found true rest each = each found
  static_found found false rest each = calm (raise h "java/lang/IncompatibleClassChangeError") raises

  static_field : (m : Member) (t : JavaType) (named : ℕ) (o : Option ℕ) (rest : Found → Outcome) → ((f : Found) → Lacks (of_initialisation h.program (declaring h f)) (rest f))
      → Lacks (of_field_there h.program true m o) (if_field h m true t named o rest)
  static_field m t named None rest each = left_out h Always field_word (field_text m)
  static_field m t named (Some f) rest each = static_found (record { named = named; field = f; type = t }) (is_static_field h.program f) rest each

  instance_found : (found : Found) (same : Bool) (rest : Found → Outcome) → ((f : Found) → IsQuiet (rest f)) → IsQuiet (if_agreeing h same found rest)
  instance_found found true rest each = each found
  instance_found found false rest each = raises

  instance_field : (m : Member) (t : JavaType) (named : ℕ) (o : Option ℕ) (rest : Found → Outcome) → ((f : Found) → IsQuiet (rest f))
      → Lacks (of_field_there h.program false m o) (if_field h m false t named o rest)
  instance_field m t named None rest each = left_out h Always field_word (field_text m)
  instance_field m t named (Some f) rest each =
      let found : Found = record { named = named; field = f; type = t } in
      let same = same_bool false (is_static_field h.program f) in
      calm (if_agreeing h same found rest) (instance_found found same rest each)

  of_sorts : (o : Option Sort) (ls : List Lack) (rest : Outcome) → Lacks ls rest → Lacks (of_sort o ls) (if_sort h o rest)
  of_sorts None ls rest t = left_out h Always float_word (codes "-")
  of_sorts (Some sort) ls rest t = t

  static_type : (m : Member) (o : Option JavaType) (rest : Found → Outcome) → ((f : Found) → Lacks (of_initialisation h.program (declaring h f)) (rest f))
      → Lacks (of_type h.program true m o) (if_type h m true o rest)
  static_type m None rest each = calm (illegal h) illegal_ends
  static_type m (Some t) rest each =
      let found : ℕ → Option ℕ = λ named. resolve_field h.program named m.name m.descriptor in
      let more : ℕ → List Lack = λ named. of_field_there h.program true m (found named) in
      let later : ℕ → Outcome = λ named. if_field h m true t named (found named) rest in
      of_sorts (sort_of t) (of_class h.program Always m.class more) (with_class h m.class later)
      (class_told h Always m.class more later (λ named. static_field m t named (found named) rest each))

  instance_type : (m : Member) (o : Option JavaType) (rest : Found → Outcome) → ((f : Found) → IsQuiet (rest f))
      → Lacks (of_type h.program false m o) (if_type h m false o rest)
  instance_type m None rest each = calm (illegal h) illegal_ends
  instance_type m (Some t) rest each =
      let found : ℕ → Option ℕ = λ named. resolve_field h.program named m.name m.descriptor in
      let more : ℕ → List Lack = λ named. of_field_there h.program false m (found named) in
      let later : ℕ → Outcome = λ named. if_field h m false t named (found named) rest in
      of_sorts (sort_of t) (of_class h.program Always m.class more) (with_class h m.class later)
      (class_told h Always m.class more later (λ named. instance_field m t named (found named) rest each))

  got_static : (found : Found) → Lacks (of_initialisation h.program (declaring h found))
      (when (has_room h (width_of_type found.type) h.state.top.operands) (when_initialised h (declaring h found) (λ g. go g (static_value g.state found ∷ g.state.top.operands))) (illegal h))
  got_static found =
      let value : Here → Outcome = λ g. go g (static_value g.state found ∷ g.state.top.operands) in
      let c = declaring h found in
      by_when h (of_initialisation h.program c) (has_room h (width_of_type found.type) h.state.top.operands) (when_initialised h c value) (illegal h) (begun_alone c value (λ g. goes)) (record { told = tt })

  put_static_value : (found : Found) (operands : List Value) → Lacks (of_initialisation h.program (declaring h found)) (put_value h found operands)
  put_static_value found [] = record { told = tt }
  put_static_value found (v ∷ rest) =
      let later : Here → Outcome = λ g. Go (past g (with_written g found v) rest) in
      let c = declaring h found in
      by_when h (of_initialisation h.program c) (fits_type found.type v) (when_initialised h c later) (illegal h) (begun_alone c later (λ g. goes)) (record { told = tt })

  -- ---- objects and arrays

  new_told : (c : ℕ) → Lacks (of_new h.program c) (new_of_class h c)
  new_told c =
      let later : Here → Outcome = λ g. push_new g (new_object g.program c) g.state.top.operands in
      let room = has_room h 1 h.state.top.operands in
      where_false h (of_initialisation h.program c) (has ABSTRACT (class_at h.program c).flags || is_interface h.program c) (raise h "java/lang/InstantiationError") (when room (when_initialised h c later) (illegal h))
      raises
      (by_when h (of_initialisation h.program c) room (when_initialised h c later) (illegal h) (begun_alone c later (λ g. goes)) (record { told = tt }))

  primitives_told : (number : ℕ) → Lacks (of_primitives number) (new_primitives h number)
  primitives_told number =
      let element = item_or elements_of_numbers (number - 4) int_element in
      where_true h (lack Always float_word (codes "-")) ((element == float_element) || (element == double_element)) (unsupported h float_word (codes "-")) (new_array h (array_class h.program 1 element) h.state.top.operands)
      (left_out h Always float_word (codes "-"))
      (new_array_comes quiet_rows h tt (array_class h.program 1 element) h.state.top.operands)

  cast_against : (name : List ℕ) (v : Value) (rest : List Value)
      → Lacks (of_class h.program Perhaps name (λ c. [])) (with_class h name (λ c. against h v c (λ fits. when fits (go h (v ∷ rest)) (raise h "java/lang/ClassCastException"))))
  cast_against name v rest =
      let later : Bool → Outcome = λ fits. when fits (go h (v ∷ rest)) (raise h "java/lang/ClassCastException") in
      class_told h Perhaps name (λ c. []) (λ c. against h v c later) (λ c. calm (against h v c later) (against_comes quiet_rows h v c later (cast_comes quiet_rows h tt (v ∷ rest))))

  no_lack : (ls : List Lack) (o : Outcome) → IsQuiet o → Lacks ls o
  no_lack ls o q = quietly h.program ls (here h) o q

  cast_told : (name : List ℕ) (operands : List Value) → Lacks (of_class h.program Perhaps name (λ c. [])) (check_cast h name operands)
  cast_told name (Null ∷ rest) = no_lack _ (go h (Null ∷ rest)) goes
  cast_told name (v ∷ rest) = cast_against name v rest
  cast_told name [] = class_told h Perhaps name (λ c. []) (λ c. illegal h) (λ c. calm (illegal h) illegal_ends)

  instance_against : (name : List ℕ) (v : Value) (rest : List Value)
      → Lacks (of_class h.program Perhaps name (λ c. [])) (with_class h name (λ c. against h v c (λ fits. push h (int_of_bool fits) rest)))
  instance_against name v rest =
      let later : Bool → Outcome = λ fits. push h (int_of_bool fits) rest in
      class_told h Perhaps name (λ c. []) (λ c. against h v c later) (λ c. calm (against h v c later) (against_comes quiet_rows h v c later (λ fits. settles quiet_rows h tt (int_of_bool fits ∷ rest))))

  instance_told : (name : List ℕ) (operands : List Value) → Lacks (of_class h.program Perhaps name (λ c. [])) (instance_of h name operands)
  instance_told name (Null ∷ rest) = no_lack _ (push h (int_of_bool false) rest) (settles quiet_rows h tt (int_of_bool false ∷ rest))
  instance_told name (v ∷ rest) = instance_against name v rest
  instance_told name [] = class_told h Perhaps name (λ c. []) (λ c. illegal h) (λ c. calm (illegal h) illegal_ends)

  -- ---- calls

  -- a receiver that is let through
  received : (ls : List Lack) (m : Member) (named : ℕ) (operands : List Value) (next : ℕ → List Value → Outcome)
      → ((r : ℕ) (rest : List Value) → is_receiver h m named (Ref r) ≡ true → Lacks ls (next r rest)) → Lacks ls (on_receiver h m named operands next)
  received ls m named [] next each = record { told = tt }
  received ls m named (o ∷ rest) next each = by (is_receiver h m named o) refl
    where
      by_value : (v : Value) → is_receiver h m named v ≡ true → Lacks ls (non_null h v (λ r. next r rest))
      by_value (Ref r) is = each r rest is
      by_value _ is = record { told = tt }

      by : (b : Bool) → is_receiver h m named o ≡ b → Lacks ls (when b (non_null h o (λ r. next r rest)) (illegal h))
      by true is = by_value o is
      by false is = record { told = tt }

  -- where the receiver selects
  selecting_dispatched : (m : Member) (named resolved : ℕ) (values : List Value) (r : ℕ) (rest : List Value) → is_receiver h m named (Ref r) ≡ true
      → Lacks (of_receivers h.program named resolved)
      (when (m.by_interface && not (assignable h.program (object_at h.state r).class named)) (wrong_kind h) (carry_out h (Ref r ∷ values) rest (select h.program (object_at h.state r).class resolved)))
  selecting_dispatched m named resolved values r rest is = by (m.by_interface && not (assignable h.program (object_at h.state r).class named)) refl
    where
      c : ℕ
      c = (object_at h.state r).class

      when_so : When
      when_so = On (record { 0 = listed_class h.program (object_at h.state r).class })

      by : (b : Bool) → (m.by_interface && not (assignable h.program (object_at h.state r).class named)) ≡ b
          → Lacks (of_receivers h.program named resolved) (when b (wrong_kind h) (carry_out h (Ref r ∷ values) rest (select h.program (object_at h.state r).class resolved)))
      by true wrong = record { told = tt }
      by false right =
          let which = select h.program (object_at h.state r).class resolved in
          wider h.program (of_selected h.program when_so which) (of_receivers h.program named resolved) (here h) (carry_out h (Ref r ∷ values) rest which)
          (of_receiver_listed h.program named resolved (object_at h.state r).class (receiver_fits h m named r is right))
          (carried h when_so (Ref r ∷ values) rest which)

  virtual_called : (m : Member) (named resolved : ℕ) → Lacks (of_receivers h.program named resolved) (call_instance h mode.Virtual m named resolved)
  virtual_called m named resolved =
      let ls = of_receivers h.program named resolved in
      arguments_told h ls (arguments_off (signature m.descriptor).arguments h.state.top.operands) (λ values below. on_receiver h m named below (dispatch h mode.Virtual m named resolved values))
      (λ values below. received ls m named below (dispatch h mode.Virtual m named resolved values) (selecting_dispatched m named resolved values))

  interface_called : (m : Member) (named resolved : ℕ) → Lacks (of_receivers h.program named resolved) (call_instance h mode.Interface m named resolved)
  interface_called m named resolved =
      let ls = of_receivers h.program named resolved in
      arguments_told h ls (arguments_off (signature m.descriptor).arguments h.state.top.operands) (λ values below. on_receiver h m named below (dispatch h mode.Interface m named resolved values))
      (λ values below. received ls m named below (dispatch h mode.Interface m named resolved values) (selecting_dispatched m named resolved values))

  special_called : (m : Member) (named resolved : ℕ)
      → Lacks (of_selected h.program Always (special_selection h.program (current_class h.program h.state) m named resolved)) (call_instance h mode.Special m named resolved)
  special_called m named resolved =
      let which = special_selection h.program (current_class h.program h.state) m named resolved in
      let ls = of_selected h.program Always which in
      arguments_told h ls (arguments_off (signature m.descriptor).arguments h.state.top.operands) (λ values below. on_receiver h m named below (dispatch h mode.Special m named resolved values))
      (λ values below. received ls m named below (dispatch h mode.Special m named resolved values) (λ r rest is.
      by_when h ls (m.by_interface && not (assignable h.program (object_at h.state r).class named)) (wrong_kind h) (carry_out h (Ref r ∷ values) rest which)
      (record { told = tt })
      (carried h Always (Ref r ∷ values) rest which)))

  static_called : (m : Member) (resolved : ℕ)
      → Lacks (of_initialisation h.program (method_at h.program resolved).class.0 ++ of_selected h.program Always (selected_if_concrete h.program resolved)) (call_static h m resolved)
  static_called m resolved =
      let c = (method_at h.program resolved).class.0 in
      let which = selected_if_concrete h.program resolved in
      let first = of_initialisation h.program c in
      let second = of_selected h.program Always which in
      let later : List Value → List Value → Here → Outcome = λ values rest g. carry_out g values rest (selected_if_concrete g.program resolved) in
      arguments_told h (first ++ second) (arguments_off (signature m.descriptor).arguments h.state.top.operands) (λ values rest. when_initialised h c (later values rest))
      (λ values rest. initialised_told h c second (later values rest)
      (wider h.program second (first ++ second) (here h) (carry_out h values rest which) (behind first second) (carried h Always values rest which))
      (λ inits. let g = initialised h inits in
      wider h.program second (first ++ second) (here h) (carry_out g values rest which) (behind first second) (carried g Always values rest which)))

  resolved_called : (mode : Mode) (m : Member) (named resolved : ℕ) → Lacks (of_resolved h.program (current_class h.program h.state) mode m named resolved) (call_resolved h mode m named resolved)
  resolved_called mode.Static m named resolved =
      let c = (method_at h.program resolved).class.0 in
      where_true h (of_initialisation h.program c ++ of_selected h.program Always (selected_if_concrete h.program resolved)) (has STATIC (method_at h.program resolved).flags) (call_static h m resolved) (wrong_kind h)
      (static_called m resolved) raises
  resolved_called mode.Interface m named resolved =
      where_false h (of_receivers h.program named resolved) (has STATIC (method_at h.program resolved).flags || has PRIVATE (method_at h.program resolved).flags) (wrong_kind h) (call_instance h mode.Interface m named resolved)
      raises (interface_called m named resolved)
  resolved_called mode.Virtual m named resolved =
      where_false h (of_receivers h.program named resolved) (has STATIC (method_at h.program resolved).flags) (wrong_kind h) (call_instance h mode.Virtual m named resolved)
      raises (virtual_called m named resolved)
  resolved_called mode.Special m named resolved =
      let which = special_selection h.program (current_class h.program h.state) m named resolved in
      where_false h (of_selected h.program Always which) (has STATIC (method_at h.program resolved).flags) (wrong_kind h) (call_instance h mode.Special m named resolved)
      raises (special_called m named resolved)

  method_called : (mode : Mode) (m : Member) (named : ℕ) (o : Option ℕ) → Lacks (of_method_there h.program (current_class h.program h.state) mode m named o) (if_method h mode m named o)
  method_called mode m named None = left_out h Always method_word (member_text m)
  method_called mode m named (Some resolved) = resolved_called mode m named resolved

  cloned : (mode : Mode) (m : Member) (named : ℕ) → Lacks [] (clone_array h mode m named)
  cloned mode.Static m named = record { told = tt }
  cloned _ m named = received [] m named h.state.top.operands (λ r rest. push_new h (object_at h.state r) rest) (λ r rest is. record { told = tt })

  class_called : (mode : Mode) (m : Member) (named : ℕ) → Lacks (of_named h.program (current_class h.program h.state) mode m named) (on_class h mode m named)
  class_called mode m named = by (is_array_clone h.program named m.name m.descriptor)
    where
      by : (b : Bool) → Lacks (if b then [] else of_method_there h.program (current_class h.program h.state) mode m named (resolve_method h.program named m.name m.descriptor))
          (elim b [ true ↦ clone_array h mode m named | false ↦ if_method h mode m named (resolve_method h.program named m.name m.descriptor) ])
      by true = cloned mode m named
      by false = method_called mode m named (resolve_method h.program named m.name m.descriptor)

  invoked : (mode : Mode) (i : ℕ) → Lacks (of_call h.program (current_class h.program h.state) mode (member h.pool i)) (invoke h mode i)
  invoked mode i =
      let m = member h.pool i in
      let later : ℕ → Outcome = λ named. when (same_bool m.by_interface (is_interface h.program named)) (on_class h mode m named) (wrong_kind h) in
      class_told h Always m.class (of_class_there h.program (current_class h.program h.state) mode m) later
      (λ named. where_true h (of_named h.program (current_class h.program h.state) mode m named) (same_bool m.by_interface (is_interface h.program named)) (on_class h mode m named) (wrong_kind h) (class_called mode m named) raises)

  -- ---- each operation

  abbrev lacked : Operation → List Lack
  lacked o = lacks_of h.program h.pool (current_class h.program h.state) o

  pub row_told : (o : Operation) → Lacks (lacked o) (row_of h o h.state.top.operands)
  row_told (operation.PushEntry i) = constant (entry_of h.pool i)
  row_told (operation.GetStatic i) =
      let m = member h.pool i in
      static_type m (field_type m.descriptor) (λ found. when (has_room h (width_of_type found.type) h.state.top.operands) (when_initialised h (declaring h found) (λ g. go g (static_value g.state found ∷ g.state.top.operands))) (illegal h)) got_static
  row_told (operation.PutStatic i) =
      let m = member h.pool i in static_type m (field_type m.descriptor) (λ found. put_value h found h.state.top.operands) (λ found. put_static_value found h.state.top.operands)
  row_told (operation.GetField i) =
      let m = member h.pool i in instance_type m (field_type m.descriptor) (λ found. get_from h found h.state.top.operands) (λ found. get_from_comes quiet_rows h tt found h.state.top.operands)
  row_told (operation.PutField i) =
      let m = member h.pool i in instance_type m (field_type m.descriptor) (λ found. put_into h found h.state.top.operands) (λ found. put_into_comes quiet_rows h tt found h.state.top.operands)
  row_told (operation.Invoke mode i) = invoked mode i
  row_told (operation.New i) = class_told h Always (class_name h.pool i) (of_new h.program) (new_of_class h) new_told
  row_told (operation.NewPrimitives number) = primitives_told number
  row_told (operation.NewReferences i) =
      let later : ℕ → Outcome = λ c. new_array h (array_over h.program c) h.state.top.operands in
      class_told h Always (class_name h.pool i) (λ c. []) later (λ c. calm (later c) (new_array_comes quiet_rows h tt (array_over h.program c) h.state.top.operands))
  row_told (operation.NewGrid i d) =
      let later : ℕ → Outcome = λ c. new_grid_of h c (lengths_off d [] h.state.top.operands) in
      class_told h Always (class_name h.pool i) (λ c. []) later (λ c. calm (later c) (new_grid_of_comes quiet_rows h tt c (lengths_off d [] h.state.top.operands)))
  row_told (operation.CheckCast i) = cast_told (class_name h.pool i) h.state.top.operands
  row_told (operation.InstanceOf i) = instance_told (class_name h.pool i) h.state.top.operands
  row_told (operation.Refuse word) = left_out h Always word (codes "-")
  row_told o = calm _ (row_quiet h o tt)
