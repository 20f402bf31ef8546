-- Loads of elements, and lengths: from what each configuration is answered to the attempt.
use Rattle.std.proofs.Common.{◌≡◌, ℕ, ◌+◌, ◌<◌, ◌≤◌, zero, suc, Bool, true, false, List, [], ◌∷◌, refl, sym, ◌∙◌, ap, subst, arith, drop, length, map, nat_le, if◌then◌else◌}
use Rattle.std.specs.Prelude.{Some}
use Rattle.vx_families.proofs.Tops.{made_of_two, value_there}
use Rattle.vx_cells.proofs.PlaceRows.{answered_given, answered_place}
use Rattle.vx_cells.specs.Classes.{has_class}
use Rattle.vx_cells.specs.Places.{place_cmp, place_if}
use Rattle.vx_cells.specs.Through.{AreAnswers, IsAnswered, IsGivenFrom, is_place_held, place_at}
use Rattle.vx_cells.specs.declared.place.Place.{Place}
use Rattle.vx_cells.specs.declared.place.Place.TheVariants as place
use Rattle.vx_cond.specs.Cond.{Conditional, IsCond, IsCondLifting2, cond_at}
use Rattle.vx_cond.proofs.CondLaws.{cond_at-extends}
use Rattle.vx_families.specs.Attempts.{IsAttemptBy, IsGiven, row_by}
use Rattle.vx_families.specs.Texts.{HasMoreTexts}
use Rattle.vx_families.proofs.Answered.{AttemptsBy-answered}
use Rattle.vx_families.proofs.Given.{given_operands_held, IsGiven-texts}
use Rattle.vx_families.proofs.MoreTexts.{HasMoreTexts-refl, IsHeap-texts, state_at-texts}
use Rattle.vx_frame.specs.declared.frame.Frame.{Frame}
use Rattle.vx_group.specs.Group.{GroupView, IsGroup, path_of}
use Rattle.vx_group.proofs.GroupLaws.{IsGroup-path_known}
use Rattle.vx_group_states.specs.Answering.{AreHeld, answer_at, answered, answered_by, is_answer_held, operands_at}
use Rattle.vx_group_states.specs.Answers.{answer_cmp}
use Rattle.vx_group_states.specs.Sites.{GivesAt, here}
use Rattle.vx_group_states.specs.Stands.{state_at}
use Rattle.vx_group_states.specs.Widths.{slots_size}
use Rattle.vx_group_states.specs.declared.answer.Answer.{Answer}
use Rattle.vx_group_states.specs.declared.answer.Answer.TheVariants as answer
use Rattle.vx_group_states.specs.declared.site.Site.{Site}
use Rattle.vx_families.proofs.Sizes.{plain_size}
use Rattle.vx_group_states.proofs.Operands.{item_held, length-operands}
use Rattle.vx_group_states.proofs.SettleLaws.{stack_scope}
use Rattle.vx_heap.specs.declared.object.HeapObject.{HeapObject}
use Rattle.vx_heap.specs.Heap.{AreObjects, HeapView, IsHeap, are_held, class_at_slot, name_at, no_heap_object, object_in, objects_at, value_of}
use Rattle.vx_heap.proofs.HeapLaws.{globals_at-extends, is_held-extends, name_at-extends, value_of-extends}
use Rattle.vx_java.specs.Arrays.{array_length, element_sort, load_element}
use Rattle.vx_java.specs.Checks.{width_of_sort}
use Rattle.vx_java.specs.Ids.{as_class}
use Rattle.vx_java.specs.Machine.{Here, Outcome, State, Value, cell_at, go, has_room, illegal, length_bound, no_object}
use Rattle.vx_java.specs.Machine.{Int as IntValue, Long as LongValue, Null as NullValue, Ref as RefValue, Text as TextValue, Top as TopValue}
use Rattle.vx_java.specs.declared.operation.Element.{Element}
use Rattle.vx_java.specs.declared.operation.Operation.TheVariants.{Length, LoadElement}
use Rattle.vx_link.specs.ClassNames.{core_class, is_array}
use Rattle.vx_link.specs.declared.program.Program.{Program}
use Rattle.vx_list.specs.Places.{item_or}
use Rattle.vx_outcome.specs.declared.outcome.Outcome.{Outcome as SharedOutcome}
use Rattle.vx_ready.proofs.Going.{operands_later}
use Rattle.vx_ready.specs.Running.{IsRunning}
use Rattle.vx_space.specs.Sets.{Extends, Sets}
use Rattle.vx_space.proofs.Spaces.{Extends-refl}
use Rattle.vx_value.specs.Slot.{slot_cmp}
use Rattle.vx_value.specs.declared.ids.ClassId.{ClassId}
use Rattle.vx_value.specs.declared.slot.Slot.{Slot}
use Rattle.vx_value.specs.declared.slot.Slot.TheVariants.{Top, Int, Long, Null, Ref, Text}
use Rattle.vx_arrays.specs.Elements.{element_place, length_value, loaded_place, measured, measured_top}
use Rattle.vx_arrays.specs.Moving.{AreLoaded}
use Rattle.vx_arrays.proofs.ElementRows.{length_row, load_row}
use Rattle.vx_arrays.proofs.Operands.{operand_held}
use Rattle.vx_arrays.proofs.Placed.{element_held, give_held, placed_held, room_held}

-- ---- one configuration

module _ {S I : Type 0} (site : Site) (sets : Sets I) (heap : HeapView S I) (c : List Bool) (state : State) (over : state.heap ≡ objects_at sets heap c) where
  room_row : (w : ℕ) (slots : List Slot) → nat_le (w + slots_size slots) site.code.now.max_stack ≡ has_room (here site state) w (map (value_of sets heap c) slots)
  room_row w slots = ap (λ n. nat_le (w + n) site.code.now.max_stack) (sym (plain_size sets heap c slots))

  loaded_row : (e : Element) (slots : List Slot) (a : Answer) → 1 < length slots → are_held sets heap c slots ≡ true → IsAnswered site.program.now heap (IsGivenFrom sets heap c) (loaded_place site heap e slots) a → answered sets heap c (here site state) (drop 2 (map (value_of sets heap c) slots)) a ≡ load_element (here site state) e (map (value_of sets heap c) slots)
  loaded_row e [] a two held is = absurd (omega arith)
  loaded_row e (index ∷ []) a two held is = absurd (omega arith)
  loaded_row e (index ∷ array ∷ more) a two held is =
      let h = here site state in
      let rest = map (value_of sets heap c) more in
      let room = nat_le (width_of_sort (element_sort e) + slots_size more) site.code.now.max_stack in
      let next : ℕ → ℕ → Outcome = λ r k. go h (cell_at state r k ∷ rest) in
      answered_place sets heap c h rest (IsGivenFrom sets heap c) next (place_if (element_place h.program heap e index array) room) a (λ r i given. answered_given sets heap c h rest r i a given ∙ ap (λ objects. go h (item_or (item_or objects (name_at sets heap.objects c r) no_object).cells i TopValue ∷ rest)) (sym over)) is
      ∙ load_row sets heap c h over e rest room index array (item_held sets heap c (index ∷ array ∷ more) 1 held) (room_row (width_of_sort (element_sort e)) more)

  measured_row : (slots : List Slot) → ((r : ℕ) → (object_in heap r).length ≤ length_bound) → 0 < length slots → are_held sets heap c slots ≡ true → answered sets heap c (here site state) (drop 1 (map (value_of sets heap c) slots)) (measured_top site heap slots) ≡ array_length (here site state) (map (value_of sets heap c) slots)
  measured_row [] short one held = absurd (omega arith)
  measured_row (slot ∷ more) short one held =
      length_row sets heap c (here site state) over (as_class (core_class site.program.now "java/lang/NullPointerException")) (map (value_of sets heap c) more) (nat_le (1 + slots_size more) site.code.now.max_stack) slot short refl (item_held sets heap c (slot ∷ more) 0 held) (room_row 1 more)

-- no array is longer than the bound
short_object : {S I : Type 0} (sets : Sets I) (xs : List (HeapObject S I)) (none : HeapObject S I) (r : ℕ) → none.length ≡ 0 → AreObjects sets xs → (item_or xs r none).length ≤ length_bound
short_object sets [] none r e v = rw e (omega arith)
short_object sets (x ∷ xs) none zero e v = v.0.short
short_object sets (x ∷ xs) none (suc r) e v = short_object sets xs none r e v.1

short_objects : {S I : Type 0} (sets : Sets I) (heap : HeapView S I) → IsHeap sets heap → (r : ℕ) → (object_in heap r).length ≤ length_bound
unfolding IsHeap
short_objects sets heap v r = short_object sets heap.objects (no_heap_object heap.allowed) r refl v.objects

-- a length names nothing
length_held : {S I : Type 0} (sets : Sets I) (heap : HeapView S I) (c : List Bool) (p : Program) (null : ClassId) (slot : Slot) (fits : Bool) → is_answer_held sets heap c (measured p heap null slot fits) ≡ true
length_held sets heap c p null Top fits = refl
length_held sets heap c p null (Int n) fits = refl
length_held sets heap c p null (Long n) fits = refl
length_held sets heap c p null (Text n) fits = refl
length_held sets heap c p null Null true = refl
length_held sets heap c p null Null false = refl
length_held {S = S} {I = I} sets heap c p null (Ref r) true = either (has_class (is_array p) (class_at_slot heap (Ref r)))
  where
    either : (b : Bool) → is_answer_held sets heap c (if b then answer.Give (length_value heap r) else answer.Illegal) ≡ true
    either true = refl
    either false = refl
length_held sets heap c p null (Ref r) false = refl

-- ---- the places that are read

module _ {S I : Type 0} (site : Site) {s0 s1 : Sets I} (s2 : Sets I) (group : GroupView S I) (top : Frame S I) (alone : IsGroup s0 group) (same : top ≡ group.top) (e : Extends s0 s1) (rooms : Conditional Bool S I) (width taken : ℕ) (at : (c : List Bool) → s1.test top.stack.scope c ≡ true → cond_at s2 rooms c ≡ Some (nat_le (width + slots_size (drop taken (operands_at s1 top.stack c))) site.code.now.max_stack)) where
  -- the room on the operands, told over an earlier space
  pub room_value : (c : List Bool) → s0.test (path_of group) c ≡ true → cond_at s2 rooms c ≡ Some (nat_le (width + slots_size (drop taken (operands_at s0 group.top.stack c))) site.code.now.max_stack)
  room_value c t =
      let F : Frame S I → Type 0 = λ f. s1.test f.stack.scope c ≡ true → cond_at s2 rooms c ≡ Some (nat_le (width + slots_size (drop taken (operands_at s1 f.stack c))) site.code.now.max_stack) in
      subst F same (at c) (ap (λ i. s1.test i c) (stack_scope s0 group alone) ∙ e.test (path_of group) c (IsGroup-path_known s0 group alone) ∙ t)
      ∙ ap (λ slots. Some (nat_le (width + slots_size (drop taken slots)) site.code.now.max_stack)) (operands_later e group alone c)

-- the place at a configuration, over a later space
place_value : {S I : Type 0} {s1 s2 : Sets I} → Extends s1 s2 → (places : Conditional Place S I) (c : List Bool) (x : Place) → IsCond place_cmp s1 places → s1.test places.scope c ≡ true → place_at s1 places c ≡ x → cond_at s2 places c ≡ Some x
place_value {s1 = s1} e places c x v t is = cond_at-extends place_cmp e places v c ∙ value_there place.Illegal place_cmp s1 places c v t ∙ ap Some is

pub read_place : {S I : Type 0} (site : Site) (e : Element) {s0 s1 s2 : Sets I} (s3 : Sets I) (heap : HeapView S I) (group : GroupView S I) (top : Frame S I) (width : ℕ) (places within : Conditional Place S I) (rooms : Conditional Bool S I) (R : Place → Bool → Place → Type 0) → IsGroup s0 group → top ≡ group.top → Extends s0 s1 → Extends s1 s2 → IsCond place_cmp s1 places → places.scope ≡ path_of group → ((c : List Bool) → s0.test (path_of group) c ≡ true → place_at s1 places c ≡ element_place site.program.now heap e (item_or (operands_at s0 group.top.stack c) 0 Top) (item_or (operands_at s0 group.top.stack c) 1 Top)) → width ≡ width_of_sort (element_sort e) → ((c : List Bool) → s1.test top.stack.scope c ≡ true → cond_at s2 rooms c ≡ Some (nat_le (width + slots_size (drop 2 (operands_at s1 top.stack c))) site.code.now.max_stack)) → ((x : Place) (b : Bool) (y : Place) → R x b y → y ≡ place_if x b) → IsCondLifting2 place_cmp s3 R (cond_at s2 places) (cond_at s2 rooms) within → (c : List Bool) → s0.test (path_of group) c ≡ true → place_at s3 within c ≡ loaded_place site heap e (operands_at s0 group.top.stack c)
read_place site e {s0 = s0} {s1 = s1} {s2 = s2} s3 heap group top width places within rooms R alone same e01 e12 w scope at wide rooms_at law lifting c t =
    let slots = operands_at s0 group.top.stack c in
    let inside : s1.test places.scope c ≡ true = ap (λ i. s1.test i c) scope ∙ e01.test (path_of group) c (IsGroup-path_known s0 group alone) ∙ t in
    made_of_two place.Illegal place_cmp s2 s3 R place_if places rooms within c _ _ law (place_value e12 places c _ w inside (at c t)) (room_value site s2 group top alone same e01 rooms width 2 rooms_at c t) lifting
    ∙ ap (λ n. place_if (element_place site.program.now heap e (item_or slots 0 Top) (item_or slots 1 Top)) (nat_le (n + slots_size (drop 2 slots)) site.code.now.max_stack)) wide

-- they name what is there
pub read_held : {S I : Type 0} (site : Site) (e : Element) (sets : Sets I) (heap : HeapView S I) (group : GroupView S I) → IsRunning site sets heap group → (c : List Bool) → sets.test (path_of group) c ≡ true → is_place_held sets heap c (loaded_place site heap e (operands_at sets group.top.stack c)) ≡ true
read_held site e sets heap group r c t =
    let slots = operands_at sets group.top.stack c in
    room_held sets heap c (element_place site.program.now heap e (item_or slots 0 Top) (item_or slots 1 Top)) _ (element_held sets heap c site.program.now e (item_or slots 0 Top) (item_or slots 1 Top) (operand_held site sets heap group 1 r c t))

-- ---- what is answered

given-before : {S I : Type 0} {s0 s1 : Sets I} → Extends s0 s1 → (heap : HeapView S I) → IsHeap s0 heap → (c : List Bool) (r i : ℕ) (a : Answer) → IsGivenFrom s1 heap c r i a → IsGivenFrom s0 heap c r i a
given-before e heap v c r i a is = record {
  slot = is.slot;
  is = is.is;
  value =
      sym (value_of-extends e heap v c is.slot)
      ∙ is.value
      ∙ (λ j. item_or (item_or (globals_at-extends e heap v c j).objects (name_at-extends e heap v c r j) no_object).cells i TopValue);
  held = sym (is_held-extends e heap v c is.slot) ∙ is.held;
}

answered-cell : {S I : Type 0} (p : Program) (heap : HeapView S I) (cell other : ℕ → ℕ → Answer → Type 0) (x : Place) (a : Answer) → ((r i : ℕ) → cell r i a → other r i a) → IsAnswered p heap cell x a → IsAnswered p heap other x a
answered-cell p heap cell other place.Illegal a law is = is
answered-cell p heap cell other place.Null a law is = is
answered-cell p heap cell other (place.Outside i) a law is = is
answered-cell p heap cell other place.Refused a law is = is
answered-cell p heap cell other (place.At r i) a law is = law r i is

pub loaded-made : {S I : Type 0} (site : Site) (e : Element) {s0 s1 s2 : Sets I} (before after : HeapView S I) (group : GroupView S I) (places : Conditional Place S I) (answers : Conditional Answer S I) → IsRunning site s0 before group → Extends s0 s1 → HasMoreTexts before after → places.scope ≡ path_of group → ((c : List Bool) → s0.test (path_of group) c ≡ true → place_at s1 places c ≡ loaded_place site before e (operands_at s0 group.top.stack c)) → AreAnswers site.program.now s1 s2 after (IsGivenFrom s1 after) places answers → AreLoaded site e s0 s2 after group answers
loaded-made site e {s0 = s0} {s1 = s1} {s2 = s2} before after group places answers r e01 m scope at is = record {
  is_cond = is.is_cond;
  scope = is.scope ∙ scope;
  at = λ c t.
      let p = site.program.now in
      let a = answer_at s2 answers c in
      let slots = operands_at s0 group.top.stack c in
      let inside : s1.test places.scope c ≡ true = ap (λ i. s1.test i c) scope ∙ e01.test (path_of group) c (IsGroup-path_known s0 group r.is_group) ∙ t in
      let later : loaded_place site before e slots ≡ loaded_place site after e slots = sym (ap (λ h. loaded_place site h e slots) m.same) in
      let P : Place → Type 0 = λ x. IsAnswered p after (IsGivenFrom s1 after c) x a in
      answered-cell p after (IsGivenFrom s1 after c) (IsGivenFrom s0 after c) (loaded_place site after e slots) a (λ k i. given-before e01 after (IsHeap-texts s0 before after m r.is_heap) c k i a) (subst P (at c t ∙ later) (is.at c inside));
}

-- ---- lengths

pub length_answer : {S I : Type 0} (site : Site) {s0 s1 : Sets I} (s2 : Sets I) (heap : HeapView S I) (group : GroupView S I) (top : Frame S I) (array : Conditional Slot S I) (rooms : Conditional Bool S I) (answers : Conditional Answer S I) (null : ClassId) (R : Slot → Bool → Answer → Type 0) → IsGroup s0 group → top ≡ group.top → Extends s0 s1 → IsCond slot_cmp s0 array → ((c : List Bool) → s0.test (path_of group) c ≡ true → cond_at s0 array c ≡ Some (item_or (operands_at s0 group.top.stack c) 0 Top)) → ((c : List Bool) → s0.test top.stack.scope c ≡ true → cond_at s1 rooms c ≡ Some (nat_le (1 + slots_size (drop 1 (operands_at s0 top.stack c))) site.code.now.max_stack)) → null.0 ≡ core_class site.program.now "java/lang/NullPointerException" → ((x : Slot) (b : Bool) (y : Answer) → R x b y → y ≡ measured site.program.now heap null x b) → IsCondLifting2 answer_cmp s2 R (cond_at s1 array) (cond_at s1 rooms) answers → (c : List Bool) → s0.test (path_of group) c ≡ true → answer_at s2 answers c ≡ measured_top site heap (operands_at s0 group.top.stack c)
length_answer site {s0 = s0} {s1 = s1} s2 heap group top array rooms answers null R alone same e v at rooms_at class law lifting c t =
    let slots = operands_at s0 group.top.stack c in
    made_of_two answer.Illegal answer_cmp s1 s2 R (measured site.program.now heap null) array rooms answers c _ _ law (cond_at-extends slot_cmp e array v c ∙ at c t) (room_value site s1 group top alone same (Extends-refl s0) rooms 1 1 rooms_at c t) lifting
    ∙ ap (λ n. measured site.program.now heap (as_class n) (item_or slots 0 Top) (nat_le (1 + slots_size (drop 1 slots)) site.code.now.max_stack)) class

-- ---- the attempts

pub load-attempts : {S I : Type 0} (site : Site) (e : Element) {s0 s1 s2 : Sets I} (before after : HeapView S I) (group : GroupView S I) (answers : Conditional Answer S I) (outcomes : List (SharedOutcome S I)) → HasMoreTexts before after → Extends s0 s1 → Extends s1 s2 → IsGiven site (LoadElement e) s0 before group → 1 < length group.top.stack.conds → AreLoaded site e s0 s1 after group answers → ((heap : HeapView S I) → AreHeld s1 heap (path_of group) answers → GivesAt site.program.now (answered_by site 2 s1 answers) s1 s2 group outcomes heap) → IsAttemptBy site (LoadElement e) s0 s2 before after group outcomes
load-attempts {S = S} {I = I} site e {s0 = s0} {s1 = s1} before after group answers outcomes m e01 e12 given two loaded gives =
    let v = IsHeap-texts s0 before after m given.is_heap in
    let later = IsGiven-texts site (LoadElement e) s0 before after group m given in
    let slots : List Bool → List Slot = operands_at s0 group.top.stack in
    AttemptsBy-answered site (LoadElement e) (row_by site (LoadElement e)) before after group 2 answers (answer_at s1 answers) outcomes m e01 e12 given (λ c t. refl)
    (λ c t. placed_held s1 after c site.program.now (IsGivenFrom s0 after c) (loaded_place site after e (slots c)) (answer_at s1 answers c) (λ r i. give_held e01 after v c r i (answer_at s1 answers c)) (loaded.at c t))
    (λ tree s c t.
    let P : State → Type 0 = λ state. answered s0 after c (here site state) (drop 2 state.top.operands) (answer_at s1 answers c) ≡ row_by site (LoadElement e) state in
    let enough : 1 < length (slots c) = omega (arith, length-operands s0 group.top.stack c, two) in
    subst P (state_at-texts site.program.now s0 before after tree group m given.is_heap s c t) (loaded_row site s0 after c (state_at s0 after tree group c) refl e (slots c) (answer_at s1 answers c) enough (given_operands_held site (LoadElement e) s0 after group later c t) (loaded.at c t)))
    gives

pub length-attempts : {S I : Type 0} (site : Site) {s0 s1 s2 : Sets I} (heap : HeapView S I) (group : GroupView S I) (answers : Conditional Answer S I) (outcomes : List (SharedOutcome S I)) → Extends s0 s1 → Extends s1 s2 → IsGiven site Length s0 heap group → 0 < length group.top.stack.conds → ((c : List Bool) → s0.test (path_of group) c ≡ true → answer_at s1 answers c ≡ measured_top site heap (operands_at s0 group.top.stack c)) → ((heap : HeapView S I) → AreHeld s1 heap (path_of group) answers → GivesAt site.program.now (answered_by site 1 s1 answers) s1 s2 group outcomes heap) → IsAttemptBy site Length s0 s2 heap heap group outcomes
length-attempts site {s0 = s0} {s1 = s1} heap group answers outcomes e01 e12 given one at gives =
    let slots : List Bool → List Slot = operands_at s0 group.top.stack in
    AttemptsBy-answered site Length (row_by site Length) heap heap group 1 answers (λ c. measured_top site heap (slots c)) outcomes (HasMoreTexts-refl heap) e01 e12 given at
    (λ c t. length_held s1 heap c site.program.now _ (item_or (slots c) 0 Top) _)
    (λ tree s c t.
    let enough : 0 < length (slots c) = omega (arith, length-operands s0 group.top.stack c, one) in
    measured_row site s0 heap c (state_at s0 heap tree group c) refl (slots c) (short_objects s0 heap given.is_heap) enough (given_operands_held site Length s0 heap group given c t))
    gives

-- ---- fewer operands

pub few_to_load : (e : Element) (h : Here) (operands : List Value) → length operands < 2 → illegal h ≡ load_element h e operands
few_to_load e h [] few = refl
few_to_load e h (TopValue ∷ []) few = refl
few_to_load e h (IntValue n ∷ []) few = refl
few_to_load e h (LongValue n ∷ []) few = refl
few_to_load e h (NullValue ∷ []) few = refl
few_to_load e h (RefValue n ∷ []) few = refl
few_to_load e h (TextValue n ∷ []) few = refl
few_to_load e h (a ∷ b ∷ more) few = absurd (omega arith)

pub none_to_measure : (h : Here) (operands : List Value) → length operands < 1 → illegal h ≡ array_length h operands
none_to_measure h [] few = refl
none_to_measure h (a ∷ more) few = absurd (omega arith)
