-- From conditional places of cells, and what was read or written there, to the attempt.
use Rattle.std.proofs.Common.{◌≡◌, ℕ, ◌+◌, ◌≤◌, Bool, true, List, ◌∷◌, refl, sym, ◌∙◌, ap, subst, drop, length, map, if◌then◌else◌}
use Rattle.std.proofs.lemmas.Bool.{lt-ltb}
use Rattle.std.specs.Prelude.{Option, Some, None, is_some, nat_le, unwrap_or}
use Rattle.vx_cells.specs.Places.{place_cmp, place_if}
use Rattle.vx_cells.specs.Through.{AreAnswers, IsAnswered, IsGivenFrom, IsPass, by_place, is_cell, place_at, written_at, written_through}
use Rattle.vx_cells.specs.declared.place.Place.{Place}
use Rattle.vx_cells.specs.declared.place.Place.TheVariants.{At, Illegal, Null, Outside, Refused}
use Rattle.vx_cells.proofs.PlaceRows.{answered_given, answered_place}
use Rattle.vx_cond.specs.Cond.{Conditional, IsCond, cond_at}
use Rattle.vx_cond.specs.Slots.{slot_at}
use Rattle.vx_cond.proofs.CondLaws.{IsCond-extends, cond_at-extends}
use Rattle.vx_cond.proofs.SideLaws.{cond_at-covers}
use Rattle.vx_families.specs.Attempts.{AttemptsBy, IsGiven}
use Rattle.vx_families.specs.Texts.{HasMoreTexts}
use Rattle.vx_families.proofs.Answered.{AttemptsBy-answered, answered-extends}
use Rattle.vx_families.proofs.Given.{given_operands_held}
use Rattle.vx_families.proofs.MoreTexts.{Grows-texts, IsHeap-texts, IsHeapFor-texts, globals_at-texts}
use Rattle.vx_families.specs.Sorts.{narrowed_slot}
use Rattle.vx_families.proofs.SlotSorts.{narrowed_plain}
use Rattle.vx_group.specs.declared.callers.Caller.{Caller}
use Rattle.vx_group.specs.Group.{GroupView, path_of}
use Rattle.vx_group.proofs.CallerLaws.{Keeps-refl}
use Rattle.vx_group.proofs.GroupLaws.{IsGroup-path_known}
use Rattle.vx_group_states.specs.Answering.{AreHeld, answer_at, answered, answered_by, is_answer_held, operands_at}
use Rattle.vx_group_states.specs.Sites.{GivesAt, here}
use Rattle.vx_group_states.specs.Stands.{state_at}
use Rattle.vx_group_states.specs.Widths.{slots_size}
use Rattle.vx_group_states.specs.declared.answer.Answer.{Answer}
use Rattle.vx_group_states.specs.declared.site.Site.{Site}
use Rattle.vx_group_states.proofs.GrownStates.{StandsIn-grown}
use Rattle.vx_group_states.proofs.Operands.{length-operands}
use Rattle.vx_families.specs.Changing.{IsChangedIn, changed_in, with_globals}
use Rattle.vx_families.proofs.ChangeLaws.{attempts_follow}
use Rattle.vx_heap.specs.Heap.{Globals, HeapView, IsHeap, globals_at, name_at, objects_at, value_of}
use Rattle.vx_heap.proofs.Growing.{Grows-trans}
use Rattle.vx_heap.proofs.HeapLaws.{IsHeap-extends, globals_at-extends, is_held-extends, name_at-extends, value_of-extends}
use Rattle.vx_java.specs.Checks.{sort_of, width_of_type}
use Rattle.vx_java.specs.Fields.{Found, get_from, put_into}
use Rattle.vx_java.specs.FirstObjects.{narrow_of_type, narrowed_value}
use Rattle.vx_java.specs.Machine.{Go, Here, Outcome, State, Value, Raise, cell_at, go, no_object, past, with_cell}
use Rattle.vx_java.specs.Machine.{Top as TopValue}
use Rattle.vx_java.specs.declared.operation.Operation.{Operation}
use Rattle.vx_link.specs.ClassNames.{core_class}
use Rattle.vx_link.specs.Parts.{field_at}
use Rattle.vx_link.specs.declared.program.Program.{Program}
use Rattle.vx_list.specs.Places.{item_or}
use Rattle.vx_outcome.specs.declared.outcome.Outcome.{Outcome as SharedOutcome}
use Rattle.vx_ready.proofs.Going.{operands_later}
use Rattle.vx_space.specs.Sets.{Extends, Sets}
use Rattle.vx_space.proofs.Spaces.{Extends-trans}
use Rattle.vx_value.specs.declared.slot.Slot.{Slot}
use Rattle.vx_value.specs.declared.slot.Slot.TheVariants.{Top}
use Rattle.vx_objects.specs.Answers.{field_place, stored_place}
use Rattle.vx_objects.proofs.FieldRows.{read_row, write_row}

-- ---- one configuration

-- what an answer that goes by a place names is there
place_held : {S I : Type 0} (p : Program) (sets : Sets I) (heap : HeapView S I) (c : List Bool) (cell : ℕ → ℕ → Answer → Type 0) (place : Place) (a : Answer) → ((r i : ℕ) → cell r i a → is_answer_held sets heap c a ≡ true) → IsAnswered p heap cell place a → is_answer_held sets heap c a ≡ true
place_held p sets heap c cell Illegal a law is = ap (is_answer_held sets heap c) is
place_held p sets heap c cell Null a law is = ap (is_answer_held sets heap c) is
place_held p sets heap c cell (Outside i) a law is = ap (is_answer_held sets heap c) is.is ∙ lt-ltb is.text (length heap.texts) is.number.known
place_held p sets heap c cell Refused a law is = ap (is_answer_held sets heap c) is
place_held p sets heap c cell (At r i) a law is = law r i is

-- what comes of a place is the same where references have the same names
by_place-named : {S I : Type 0} (s0 s1 : Sets I) (before after : HeapView S I) (c : List Bool) (h : Here) (next : ℕ → ℕ → Outcome) (place : Place) → ((r : ℕ) → name_at s1 after.objects c r ≡ name_at s0 before.objects c r) → by_place s1 after c h next place ≡ by_place s0 before c h next place
by_place-named s0 s1 before after c h next Illegal same = refl
by_place-named s0 s1 before after c h next Null same = refl
by_place-named s0 s1 before after c h next (Outside i) same = refl
by_place-named s0 s1 before after c h next Refused same = refl
by_place-named s0 s1 before after c h next (At r i) same = ap (λ n. next n i) (same r)

-- a run passes its cell over the heap in which the value was written, where its state was this one before
abbrev written_state : {S I : Type 0} → Sets I → HeapView S I → List Bool → Value → Place → State → State
written_state sets heap c v place s =
    let g : Globals = record { objects = s.heap; statics = s.statics; inits = s.inits } in
    with_globals s (if is_cell place then written_at sets heap c v place g else g)

passed_row : {S I : Type 0} (sets later : Sets I) (heap after : HeapView S I) (c : List Bool) (site : Site) (state : State) (rest : List Value) (v : Value) (place : Place) (a : Answer) → IsAnswered site.program.now after IsPass place a → answered later after c (here site (written_state sets heap c v place state)) rest a ≡ by_place sets heap c (here site state) (λ r i. Go (past (here site state) (with_cell state r i v) rest)) place
passed_row sets later heap after c site state rest v Illegal a is = ap (answered later after c (here site state) rest) is
passed_row sets later heap after c site state rest v Null a is = ap (answered later after c (here site state) rest) is
passed_row sets later heap after c site state rest v (Outside i) a is =
    ap (answered later after c (here site state) rest) is.is
    ∙ ap (λ units. Raise (core_class site.program.now "java/lang/ArrayIndexOutOfBoundsException") (Some units) state) is.number.text
passed_row sets later heap after c site state rest v Refused a is = ap (answered later after c (here site state) rest) is
passed_row sets later heap after c site state rest v (At r i) a is = ap (answered later after c (here site (written_state sets heap c v (At r i) state)) rest) is

-- ---- a change, over an earlier space and over a later one with more texts

IsChangedIn-around : {S I : Type 0} {s0 s1 s2 s3 : Sets I} (before middle after : HeapView S I) (set : List Bool → Bool) (change : List Bool → Globals → Globals) → IsHeap s0 before → Extends s0 s1 → IsChangedIn s1 s2 before middle set change → HasMoreTexts middle after → Extends s2 s3 → IsChangedIn s0 s3 before after set change
IsChangedIn-around {s0 = s0} {s1 = s1} {s2 = s2} {s3 = s3} before middle after set change v e changed m f =
    let put = IsHeap-texts s2 middle after m changed.is_heap in
    let later : (c : List Bool) → globals_at s3 after c ≡ globals_at s2 middle c = λ c. globals_at-extends f after put c ∙ globals_at-texts s2 middle after m changed.is_heap c in
    record {
      is_heap = IsHeap-extends f after put;
      grows = Grows-trans before middle after changed.grows (Grows-texts middle after m);
      keeps = λ p h. IsHeapFor-texts p middle after m (changed.keeps p h);
      inside = λ c t. later c ∙ changed.inside c t ∙ ap (change c) (globals_at-extends e before v c);
      outside = λ c t. later c ∙ changed.outside c t ∙ globals_at-extends e before v c;
    }

-- ---- getfield

module _ {S I : Type 0} (site : Site) (operation : Operation) (found : Found) (s0 s1 s2 s3 : Sets I) (before after : HeapView S I) (group : GroupView S I) (places : Conditional Place S I) (answers : Conditional Answer S I) (outcomes : List (SharedOutcome S I)) (given : IsGiven site operation s0 before group) (enough : 1 ≤ length group.top.stack.conds) (e01 : Extends s0 s1) (scope : places.scope ≡ path_of group) (at : (c : List Bool) → s0.test (path_of group) c ≡ true → place_at s1 places c ≡ place_if (field_place site.program.now before found.named (field_at site.program.now found.field).cell (item_or (operands_at s0 group.top.stack c) 0 Top)) (nat_le (width_of_type found.type + slots_size (drop 1 (operands_at s0 group.top.stack c))) site.code.now.max_stack)) (e12 : Extends s1 s2) (m : HasMoreTexts before after) (are : AreAnswers site.program.now s1 s2 after (IsGivenFrom s1 after) places answers) (e23 : Extends s2 s3) where
  read_inside : (c : List Bool) → s0.test (path_of group) c ≡ true → s1.test places.scope c ≡ true
  read_inside c t = ap (λ i. s1.test i c) scope ∙ e01.test (path_of group) c (IsGroup-path_known s0 group given.is_group) ∙ t

  given_held : (c : List Bool) → s0.test (path_of group) c ≡ true → is_answer_held s2 after c (answer_at s2 answers c) ≡ true
  given_held c t =
      place_held site.program.now s2 after c (IsGivenFrom s1 after c) (place_at s1 places c) (answer_at s2 answers c)
      (λ r i g. ap (is_answer_held s2 after c) g.is ∙ is_held-extends e12 after (IsHeap-extends e01 after (IsHeap-texts s0 before after m given.is_heap)) c g.slot ∙ g.held)
      (are.at c (read_inside c t))

  read_at : (tree : List (Option (Caller S I))) (c : List Bool) → s0.test (path_of group) c ≡ true → answered s0 after c (here site (state_at s0 before tree group c)) (drop 1 (state_at s0 before tree group c).top.operands) (answer_at s2 answers c) ≡ get_from (here site (state_at s0 before tree group c)) found (state_at s0 before tree group c).top.operands
  read_at tree c t =
      let h = here site (state_at s0 before tree group c) in
      let slots = operands_at s0 group.top.stack c in
      let rest = drop 1 (map (value_of s0 before c) slots) in
      let a = answer_at s2 answers c in
      let next : ℕ → ℕ → Outcome = λ r i. go h (cell_at h.state r i ∷ rest) in
      let put = IsHeap-texts s0 before after m given.is_heap in
      let objects : objects_at s1 after c ≡ objects_at s0 before c = ap (λ (g : Globals). g.objects) (globals_at-extends e01 after put c ∙ globals_at-texts s0 before after m given.is_heap c) in
      let names : (r : ℕ) → name_at s1 after.objects c r ≡ name_at s0 before.objects c r = λ r. name_at-extends e01 after put c r ∙ ap (λ (heap : HeapView S I). name_at s0 heap.objects c r) m.same in
      let N : ℕ → Type 0 = λ n. 1 ≤ n in
      sym (answered-extends e01 after put c h rest a)
      ∙ answered_place s1 after c h rest (IsGivenFrom s1 after c) next (place_at s1 places c) a
      (λ r i g. answered_given s1 after c h rest r i a g ∙ ap (λ os. go h (item_or (item_or os (name_at s1 after.objects c r) no_object).cells i TopValue ∷ rest)) objects)
      (are.at c (read_inside c t))
      ∙ ap (by_place s1 after c h next) (at c t)
      ∙ by_place-named s0 s1 before after c h next _ names
      ∙ read_row s0 before c h refl found slots (subst N (sym (length-operands s0 group.top.stack c)) enough) (given_operands_held site operation s0 before group given c t)

  pub get-attempts : ((heap : HeapView S I) → AreHeld s2 heap (path_of group) answers → GivesAt site.program.now (answered_by site 1 s2 answers) s2 s3 group outcomes heap) → AttemptsBy site (λ s. get_from (here site s) found s.top.operands) s0 s3 before after group outcomes
  get-attempts gives = AttemptsBy-answered site operation (λ s. get_from (here site s) found s.top.operands) before after group 1 answers (λ c. answer_at s2 answers c) outcomes m (Extends-trans e01 e12) e23 given (λ c t. refl) given_held (λ tree s c t. read_at tree c t) gives

-- ---- putfield

-- a cell stands in the scope alone
cell_there : (o : Option Place) → is_cell (unwrap_or o Illegal) ≡ true → is_some o ≡ true
cell_there None t = cc t
cell_there (Some place) t = refl

module _ {S I : Type 0} (site : Site) (operation : Operation) (found : Found) (s0 s1 s2 s3 s4 s5 : Sets I) (before middle after : HeapView S I) (group : GroupView S I) (places : Conditional Place S I) (values : Conditional Slot S I) (answers : Conditional Answer S I) (outcomes : List (SharedOutcome S I)) (given : IsGiven site operation s0 before group) (enough : 2 ≤ length group.top.stack.conds) (e01 : Extends s0 s1) (valid : IsCond place_cmp s1 places) (scope : places.scope ≡ path_of group) (at : (c : List Bool) → s0.test (path_of group) c ≡ true → place_at s1 places c ≡ stored_place site.program.now before found.named (field_at site.program.now found.field).cell (sort_of found.type) (item_or (operands_at s0 group.top.stack c) 0 Top) (item_or (operands_at s0 group.top.stack c) 1 Top)) (e12 : Extends s1 s2) (value : (c : List Bool) → s1.test (path_of group) c ≡ true → slot_at s2 values c ≡ narrowed_slot (narrow_of_type found.type) (item_or (operands_at s1 group.top.stack c) 0 Top)) (e23 : Extends s2 s3) (changed : IsChangedIn s2 s3 before middle (λ c. is_cell (place_at s2 places c)) (written_through s2 before places values)) (e34 : Extends s3 s4) (m : HasMoreTexts middle after) (are : AreAnswers site.program.now s3 s4 after (λ _. IsPass) places answers) (e45 : Extends s4 s5) where
  path_known : s0.is_known (path_of group) ≡ true
  path_known = IsGroup-path_known s0 group given.is_group

  e02 : Extends s0 s2
  e02 = Extends-trans e01 e12

  e03 : Extends s0 s3
  e03 = Extends-trans e02 e23

  e04 : Extends s0 s4
  e04 = Extends-trans e03 e34

  put_places : (c : List Bool) → place_at s2 places c ≡ place_at s1 places c
  put_places c = ap (λ o. unwrap_or o Illegal) (cond_at-extends place_cmp e12 places valid c)

  passed_places : (c : List Bool) → place_at s3 places c ≡ place_at s2 places c
  passed_places c = ap (λ o. unwrap_or o Illegal) (cond_at-extends place_cmp e23 places (IsCond-extends place_cmp e12 places valid) c)

  put_inside : (c : List Bool) → is_cell (place_at s2 places c) ≡ true → s0.test (path_of group) c ≡ true
  put_inside c t =
      sym (e02.test (path_of group) c path_known)
      ∙ ap (λ i. s2.test i c) (sym scope)
      ∙ sym (cond_at-covers place_cmp s2 places (IsCond-extends place_cmp e12 places valid) c)
      ∙ cell_there (cond_at s2 places c) t

  passed_inside : (c : List Bool) → s0.test (path_of group) c ≡ true → s3.test places.scope c ≡ true
  passed_inside c t = ap (λ i. s3.test i c) scope ∙ e03.test (path_of group) c path_known ∙ t

  all_changed : IsChangedIn s0 s4 before after (λ c. is_cell (place_at s2 places c)) (written_through s2 before places values)
  all_changed = IsChangedIn-around before middle after (λ c. is_cell (place_at s2 places c)) (written_through s2 before places values) given.is_heap e02 changed m e34

  passed_held : (c : List Bool) → s0.test (path_of group) c ≡ true → is_answer_held s4 after c (answer_at s4 answers c) ≡ true
  passed_held c t = place_held site.program.now s4 after c IsPass (place_at s3 places c) (answer_at s4 answers c) (λ r i q. ap (is_answer_held s4 after c) q) (are.at c (passed_inside c t))

  -- the value that was written
  put_value : (c : List Bool) → s0.test (path_of group) c ≡ true → value_of s2 before c (slot_at s2 values c) ≡ narrowed_value found.type (value_of s0 before c (item_or (operands_at s0 group.top.stack c) 0 Top))
  put_value c t =
      value_of-extends e02 before given.is_heap c (slot_at s2 values c)
      ∙ ap (value_of s0 before c) (value c (e01.test (path_of group) c path_known ∙ t))
      ∙ ap (λ slots. value_of s0 before c (narrowed_slot (narrow_of_type found.type) (item_or slots 0 Top))) (operands_later e01 group given.is_group c)
      ∙ narrowed_plain s0 before c (narrow_of_type found.type) (item_or (operands_at s0 group.top.stack c) 0 Top)

  written : (tree : List (Option (Caller S I))) (c : List Bool) → s0.test (path_of group) c ≡ true → answered s4 after c (here site (with_globals (state_at s0 before tree group c) (changed_in (λ d. is_cell (place_at s2 places d)) (written_through s2 before places values) c (globals_at s0 before c)))) (drop 2 (state_at s0 before tree group c).top.operands) (answer_at s4 answers c) ≡ put_into (here site (state_at s0 before tree group c)) found (state_at s0 before tree group c).top.operands
  written tree c t =
      let state = state_at s0 before tree group c in
      let h = here site state in
      let slots = operands_at s0 group.top.stack c in
      let rest = drop 2 (map (value_of s0 before c) slots) in
      let place = place_at s2 places c in
      let next : Value → ℕ → ℕ → Outcome = λ v r i. Go (past h (with_cell state r i v) rest) in
      let P : Place → Type 0 = λ x. IsAnswered site.program.now after IsPass x (answer_at s4 answers c) in
      let N : ℕ → Type 0 = λ n. 2 ≤ n in
      passed_row s2 s4 before after c site state rest (value_of s2 before c (slot_at s2 values c)) place (answer_at s4 answers c) (subst P (passed_places c) (are.at c (passed_inside c t)))
      ∙ ap (λ v. by_place s2 before c h (next v) place) (put_value c t)
      ∙ ap (by_place s2 before c h (next (narrowed_value found.type (value_of s0 before c (item_or slots 0 Top))))) (put_places c ∙ at c t)
      ∙ by_place-named s0 s2 before before c h (next (narrowed_value found.type (value_of s0 before c (item_or slots 0 Top)))) _ (name_at-extends e02 before given.is_heap c)
      ∙ write_row s0 before c h refl found slots (subst N (sym (length-operands s0 group.top.stack c)) enough) (given_operands_held site operation s0 before group given c t)

  pub put-attempts : ((heap : HeapView S I) → AreHeld s4 heap (path_of group) answers → GivesAt site.program.now (answered_by site 2 s4 answers) s4 s5 group outcomes heap) → AttemptsBy site (λ s. put_into (here site s) found s.top.operands) s0 s5 before after group outcomes
  put-attempts gives =
      let p = site.program.now in
      let held : AreHeld s4 after (path_of group) answers = record { held = λ c t. passed_held c (sym (e04.test (path_of group) c path_known) ∙ t) } in
      record {
        is_for = all_changed.keeps p given.is_for;
        attempts = λ tree s.
            let stands = StandsIn-grown p e04 (Keeps-refl tree) before after given.is_heap all_changed.grows group s in
            attempts_follow p (λ s. put_into (here site s) found s.top.operands) (λ c s. answered_by site 2 s4 answers after c s) s0 s4 s5 before after (λ c. is_cell (place_at s2 places c)) (written_through s2 before places values) tree tree group outcomes given.is_heap s e04 all_changed put_inside e45 (Keeps-refl tree) (λ c t. written tree c t) (gives after held tree all_changed.is_heap stands);
      }
