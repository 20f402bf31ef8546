-- new of a class of which there are objects: from the sets of its configurations to the attempt.
use Rattle.std.proofs.Common.{◌≡◌, ℕ, ◌+◌, ◌<◌, ◌≤◌, Bool, true, false, List, [], ◌∷◌, ◌++◌, ◌&&◌, ◌||◌, refl, sym, ◌∙◌, ap, arith, length, subst}
use Rattle.std.proofs.lemmas.Bool.{lt-leb}
use Rattle.std.specs.Ordering.{bool_cmp}
use Rattle.std.specs.Prelude.{Option, Some, None, if◌then◌else◌, nat_le, not, option_map}
use Rattle.vx_class.specs.Members.{ABSTRACT}
use Rattle.vx_cond.proofs.CondLaws.{IsCond-of, cond_at-of}
use Rattle.vx_cond.specs.Cond.{Conditional, IsCond, IsCondOf, cond_at}
use Rattle.vx_cond.specs.Leaves.{value_within}
use Rattle.vx_cond.specs.Slots.{or_top, slot_at}
use Rattle.vx_families.proofs.AttemptLaws.{AttemptsBy-ended, AttemptsBy-same}
use Rattle.vx_families.proofs.Pushes.{operand_count, words_at_least}
use Rattle.vx_families.specs.Pools.{pool_class}
use Rattle.vx_ready.proofs.Given.{AttemptsBy-stays, and_none, unready}
use Rattle.vx_fields.proofs.Moving.{pushed-gives}
use Rattle.vx_ready.proofs.Tops.{value_inside}
use Rattle.vx_families.specs.Attempts.{AttemptsBy, IsAttemptBy, IsGiven, row_by}
use Rattle.vx_frame.specs.declared.frame.Frame.{Frame}
use Rattle.vx_group.proofs.CallerLaws.{Keeps-refl}
use Rattle.vx_group.proofs.GroupLaws.{IsGroup-path_known}
use Rattle.vx_group.specs.Group.{GroupView, IsGroup, IsPartOf, path_of}
use Rattle.vx_group.specs.declared.callers.Caller.{Caller}
use Rattle.vx_families.proofs.Sizes.{plain_size}
use Rattle.vx_group_states.proofs.Gathering.{part_path}
use Rattle.vx_group_states.proofs.GrownStates.{StandsIn-grown}
use Rattle.vx_group_states.proofs.OutcomeStates.{CameTo-none}
use Rattle.vx_group_states.proofs.SettleLaws.{stack_scope}
use Rattle.vx_group_states.proofs.StateLaws.{both_second}
use Rattle.vx_group_states.specs.Answering.{operands_at}
use Rattle.vx_group_states.specs.Sites.{Gives, GivesAt, here}
use Rattle.vx_group_states.specs.Stands.{CameTo, state_at}
use Rattle.vx_group_states.specs.Widths.{slots_size}
use Rattle.vx_group_states.specs.declared.site.Site.{Site}
use Rattle.vx_families.proofs.ChangeLaws.{attempts_follow, changes_follow, statics_change_in}
use Rattle.vx_families.proofs.NameLaws.{new_name_is_next}
use Rattle.vx_heap.proofs.Growing.{Grows-refl}
use Rattle.vx_heap.proofs.HeapLaws.{is_held-extends}
use Rattle.vx_heap.specs.Changing.{IsChangedIn, changed_in, with_object}
use Rattle.vx_heap.specs.Heap.{Globals, HeapView, IsHeap, globals_at, is_held, name_at, value_of}
use Rattle.vx_java.specs.Checks.{if_there}
use Rattle.vx_java.specs.FirstObjects.{new_object}
use Rattle.vx_java.specs.Ids.{as_class}
use Rattle.vx_java.specs.Initialisation.{when_initialised}
use Rattle.vx_java.specs.Machine.{Here, State, go, has_room, illegal, illegal_in, push_new, raise, stack_size, unsupported, when}
use Rattle.vx_java.specs.Machine.{Outcome as PlainOutcome, Ref as RefValue}
use Rattle.vx_java.specs.Objects.{new_of_class}
use Rattle.vx_java.specs.Operation.{class_word}
use Rattle.vx_java.specs.declared.operation.Operation.TheVariants.{New}
use Rattle.vx_link.specs.ClassNames.{class_named}
use Rattle.vx_link.specs.Names.{class_name}
use Rattle.vx_link.specs.Parts.{class_at, has, is_interface, method_at}
use Rattle.vx_outcome.specs.declared.outcome.Outcome.{Outcome}
use Rattle.vx_outcome.specs.declared.outcome.Outcome.TheVariants as shared
use Rattle.vx_objects.specs.Made.{given_where_ready}
use Rattle.vx_ready.proofs.Changes.{IsChanged-before}
use Rattle.vx_ready.proofs.Climbing.{inits_later}
use Rattle.vx_ready.proofs.Going.{going-gives}
use Rattle.vx_ready.proofs.Rows.{globals_of, ready_row}
use Rattle.vx_ready.proofs.Running.{proceeds_there}
use Rattle.vx_ready.specs.Changing.{IsChanged, with_globals}
use Rattle.vx_ready.specs.Initialising.{GivesWithin, IsReadied, goes_on, has_failed, is_yes, readied, stopped, stopped_by}
use Rattle.vx_ready.specs.Running.{IsRunning}
use Rattle.vx_ready.specs.declared.initialising.Readiness.{Readiness}
use Rattle.vx_references.proofs.Numbers.{class_some}
use Rattle.vx_space.proofs.Spaces.{Extends-refl, Extends-trans}
use Rattle.vx_space.specs.Sets.{Extends, IsLawful, IsSet, Sets}
use Rattle.vx_value.specs.Slot.{slot_cmp}
use Rattle.vx_value.specs.declared.ids.ClassId.{ClassId}
use Rattle.vx_value.specs.declared.slot.Slot.{Slot}
use Rattle.vx_value.specs.declared.slot.Slot.TheVariants.{Ref}

-- ---- the configurations in which there is room

-- the set of a question that is told inside the path of a group
pub IsSet-told : {S I : Type 0} {s0 s1 : Sets I} (q : List Bool → Bool) (group : GroupView S I) (answers : Conditional Bool S I) (set : I) → IsGroup s0 group → Extends s0 s1 → IsCond bool_cmp s1 answers → answers.scope ≡ group.top.stack.scope → ((c : List Bool) → s0.test group.top.stack.scope c ≡ true → cond_at s1 answers c ≡ Some (q c)) → IsSet s1 set (λ c. is_yes (cond_at s1 answers c)) → IsSet s1 set (λ c. s0.test (path_of group) c && q c)
IsSet-told {s0 = s0} q group answers set v e w scope at s =
    let path = stack_scope s0 group v in
    record {
      known = s.known;
      test = λ c. s.test c ∙ ap is_yes (value_inside bool_cmp e (path_of group) answers q (IsGroup-path_known s0 group v) w (scope ∙ path) (λ c t. at c (ap (λ i. s0.test i c) path ∙ t)) c) ∙ cases (s0.test (path_of group) c) (q c);
    }
  where
    cases : (b q : Bool) → is_yes (if b then Some q else None) ≡ (b && q)
    cases true q = refl
    cases false q = refl

-- ---- one configuration

-- the row behind the initialisation
abbrev making : ℕ → Here → PlainOutcome
making class h = push_new h (new_object h.program class) h.state.top.operands

-- what comes of a state, by the tests of the sets and the name of the object
abbrev made_after : Site → (class : ℕ) → (g n f : Bool) → (name : ℕ) → State → PlainOutcome
made_after site class g n f name s = if g then go (here site s) (RefValue name ∷ s.top.operands) else stopped (here site s) class n f

made_row : (site : Site) (class : ℕ) (s : State) (g n f : Bool) (name : ℕ) (x : Globals) → (g ≡ true → name ≡ length x.objects) → made_after site class g n f name (with_globals s (if g then with_object (new_object site.program.now class) x else x)) ≡ (if g then making class (here site (with_globals s x)) else stopped (here site (with_globals s x)) class n f)
made_row site class s true n f name x e = ap (λ r. go (here site (with_globals s (with_object (new_object site.program.now class) x))) (RefValue r ∷ s.top.operands)) (e refl)
made_row site class s false n f name x e = refl

new_row : (site : Site) (class : ℕ) (s : State) (g n f : Bool) (name : ℕ) → (has ABSTRACT (class_at site.program.now class).flags || is_interface site.program.now class) ≡ false → n ≡ has_room (here site s) 1 s.top.operands → f ≡ (n && has_failed s.inits class) → g ≡ (n && goes_on site.program.now s.inits class) → (g ≡ true → name ≡ length (readied site.program.now class n (globals_of s)).objects) → made_after site class g n f name (with_globals s (if g then with_object (new_object site.program.now class) (readied site.program.now class n (globals_of s)) else readied site.program.now class n (globals_of s))) ≡ new_of_class (here site s) class
new_row site class s g n f name objects room fails goes e =
    let h = here site s in
    made_row site class s g n f name (readied site.program.now class n (globals_of s)) e
    ∙ ready_row site class (making class) s (has_room h 1 s.top.operands) n f g room fails goes
    ∙ sym (ap (λ b. when b (raise h "java/lang/InstantiationError") (when (has_room h 1 s.top.operands) (when_initialised h class (making class)) (illegal h))) objects)

-- ---- the attempt

either_true : (a b : Bool) → (a || b) ≡ true → (b ≡ true → a ≡ true) → a ≡ true
either_true true b h k = refl
either_true false b h k = k h

module _ {S I : Type 0} (site : Site) (s0 s1 s2 s3 : Sets I) (before middle after : HeapView S I) (group : GroupView S I) (class : ClassId) (needs : I) (readiness : Readiness S I) (reference : ℕ) (outcomes : List (Outcome S I)) (r : IsRunning site s0 before group) (makes : (has ABSTRACT (class_at site.program.now class.0).flags || is_interface site.program.now class.0) ≡ false) (e01 : Extends s0 s1) (n : IsSet s1 needs (λ c. s0.test (path_of group) c && nat_le (1 + slots_size (operands_at s0 group.top.stack c)) site.code.now.max_stack)) (e12 : Extends s1 s2) (ready : IsReadied site.program.now s1 s2 before middle class.0 needs readiness) (new : IsChangedIn s2 s2 middle after (s2.test readiness.proceeds) (λ _. with_object (new_object site.program.now class.0))) (number : (c : List Bool) → s2.test readiness.proceeds c ≡ true → reference ≡ length middle.objects) (e23 : Extends s2 s3) (gives : GivesAt site.program.now (given_where_ready site class.0 s2 s3 needs readiness reference) s2 s3 group outcomes after) where
  abbrev marks : List Bool → Globals → Globals
  marks c = readied site.program.now class.0 (s1.test needs c)

  abbrev makes_one : List Bool → Globals → Globals
  makes_one c = with_object (new_object site.program.now class.0)

  -- what comes of a state over the later heap
  abbrev there : List Bool → State → PlainOutcome
  there c s = given_where_ready site class.0 s2 s3 needs readiness reference after c s

  marked : IsChanged s0 s2 before middle marks
  marked = IsChanged-before e01 before middle marks marks r.is_heap (λ c. refl) ready.changed

  changed : IsChangedIn s0 s2 before after (λ c. s0.test (path_of group) c || s2.test readiness.proceeds c) (λ c x. changed_in (s2.test readiness.proceeds) makes_one c (changed_in (s0.test (path_of group)) marks c x))
  changed =
      let first = statics_change_in s0 s2 before middle (s0.test (path_of group)) marks marked.is_heap marked.same marked.statics marked.inits marked.at (λ c t x. unready site.program.now class.0 (s1.test needs c) x (n.test c ∙ and_none (s0.test (path_of group) c) _ t)) in
      changes_follow s0 s2 s2 before middle after (s0.test (path_of group)) (s2.test readiness.proceeds) marks makes_one first new

  inside : (c : List Bool) → (s0.test (path_of group) c || s2.test readiness.proceeds c) ≡ true → s0.test (path_of group) c ≡ true
  inside c t =
      let within = proceeds_there site before middle group class.0 needs readiness (λ d. nat_le (1 + slots_size (operands_at s0 group.top.stack d)) site.code.now.max_stack) r e01 e12 n ready in
      either_true (s0.test (path_of group) c) (s2.test readiness.proceeds c) t (λ k. sym ((Extends-trans e01 e12).test (path_of group) c (IsGroup-path_known s0 group r.is_group)) ∙ within.inside c k)

  law : (tree : List (Option (Caller S I))) (c : List Bool) → s0.test (path_of group) c ≡ true → there c (with_globals (state_at s0 before tree group c) (changed_in (λ c. s0.test (path_of group) c || s2.test readiness.proceeds c) (λ c x. changed_in (s2.test readiness.proceeds) makes_one c (changed_in (s0.test (path_of group)) marks c x)) c (globals_at s0 before c))) ≡ new_of_class (here site (state_at s0 before tree group c)) class.0
  law tree c t =
      let p = site.program.now in
      let state = state_at s0 before tree group c in
      let g = s2.test readiness.proceeds c in
      let x = globals_at s0 before c in
      let name = name_at s3 after.objects c reference in
      let inits = inits_later e01 before r.is_heap c in
      let room : s1.test needs c ≡ has_room (here site state) 1 state.top.operands = n.test c ∙ ap (λ b. b && nat_le (1 + slots_size (operands_at s0 group.top.stack c)) site.code.now.max_stack) t ∙ ap (λ size. nat_le (1 + size) site.code.now.max_stack) (sym (plain_size s0 before c (operands_at s0 group.top.stack c))) in
      let fails : s2.test readiness.fails c ≡ (s1.test needs c && has_failed state.inits class.0) = ready.fails.test c ∙ ap (λ is. s1.test needs c && has_failed is class.0) inits in
      let proceeds : s2.test readiness.proceeds c ≡ (s1.test needs c && goes_on p state.inits class.0) = ready.proceeds.test c ∙ ap (λ is. s1.test needs c && goes_on p is class.0) inits in
      let named : g ≡ true → name ≡ length (marks c x).objects = λ k. ap (name_at s3 after.objects c) (number c k) ∙ new_name_is_next s2 s3 middle after e23 ready.changed.is_heap new.grows c ∙ ap (λ (y : Globals). length y.objects) (marked.at c) in
      ap (λ b. made_after site class.0 g (s2.test needs c) (s2.test readiness.fails c) name (with_globals state (if (b || g) then (if g then makes_one c (if b then marks c x else x) else (if b then marks c x else x)) else x))) t
      ∙ ap (λ w. made_after site class.0 g w (s2.test readiness.fails c) name (with_globals state (if g then makes_one c (marks c x) else marks c x))) (e12.test needs c n.known)
      ∙ new_row site class.0 state g (s1.test needs c) (s2.test readiness.fails c) name makes room fails proceeds named

  pub new-attempts : AttemptsBy site (λ s. new_of_class (here site s) class.0) s0 s3 before after group outcomes
  new-attempts =
      let p = site.program.now in
      let e02 = Extends-trans e01 e12 in
      record {
        is_for = changed.keeps p r.is_for;
        attempts = λ tree s. attempts_follow p (λ state. new_of_class (here site state) class.0) there s0 s2 s3 before after (λ c. s0.test (path_of group) c || s2.test readiness.proceeds c) (λ c x. changed_in (s2.test readiness.proceeds) makes_one c (changed_in (s0.test (path_of group)) marks c x)) tree tree group outcomes r.is_heap s e02 changed inside e23 (Keeps-refl tree) (law tree) (gives tree changed.is_heap (StandsIn-grown p e02 (Keeps-refl tree) before after r.is_heap changed.grows group s));
      }

-- the object is there in the part that goes on
made_held : {S I : Type 0} (s2 s3 : Sets I) (after : HeapView S I) (group going : GroupView S I) (proceeds : List Bool → Bool) (reference : ℕ) → IsHeap s2 after → Extends s2 s3 → IsPartOf s2 s3 (λ c. s2.test (path_of group) c && proceeds c) group going → ((c : List Bool) → proceeds c ≡ true → is_held s2 after c (Ref reference) ≡ true) → (c : List Bool) → s3.test (path_of going) c ≡ true → is_held s3 after c (Ref reference) ≡ true
made_held s2 s3 after group going proceeds reference v e q held c t = is_held-extends e after v c (Ref reference) ∙ held c (both_second (s2.test (path_of group) c) (proceeds c) (sym (part_path s2 s3 _ group going q c) ∙ t))

-- what comes of the part that goes on and of those that stop
pub given-gives : {S I : Type 0} (site : Site) (s2 s3 : Sets I) (group going : GroupView S I) (class : ℕ) (needs : I) (readiness : Readiness S I) (reference : ℕ) (others made : List (Outcome S I)) (heap : HeapView S I) → Extends s2 s3 → IsPartOf s2 s3 (λ c. s2.test (path_of group) c && s2.test readiness.proceeds c) group going → GivesWithin site.program.now (stopped_by site class s2 needs readiness.fails) (λ c. s2.test (path_of group) c && not (s2.test readiness.proceeds c)) s2 s3 group others heap → IsHeap s2 heap → ((c : List Bool) → s2.test readiness.proceeds c ≡ true → is_held s2 heap c (Ref reference) ≡ true) → (((c : List Bool) → s3.test (path_of going) c ≡ true → is_held s3 heap c (Ref reference) ≡ true) → GivesAt site.program.now (λ heap c s. go (here site s) (value_of s3 heap c (Ref reference) ∷ s.top.operands)) s3 s3 going made heap) → GivesAt site.program.now (given_where_ready site class s2 s3 needs readiness reference) s2 s3 group (others ++ made) heap
given-gives site s2 s3 group going class needs readiness reference others made heap e q stopped_there v held gone =
    going-gives site.program.now (s2.test readiness.proceeds) group going (stopped_by site class s2 needs readiness.fails) (λ heap c s. go (here site s) (value_of s3 heap c (Ref reference) ∷ s.top.operands)) others made heap e q stopped_there (Extends-refl s3) (gone (made_held s2 s3 heap group going (s2.test readiness.proceeds) reference v e q held))

-- ---- the parts

pub clash : (b : Bool) → b ≡ true → b ≡ false → ⊥
clash true h k = cc
clash false h k = cc

never_holds : {I : Type 0} {sets : Sets I} → IsLawful sets → (path : I) → path ≡ sets.never → (c : List Bool) → sets.test path c ≡ true → ⊥
never_holds {sets = sets} lawful path e c t = clash (sets.test path c) t (ap (λ i. sets.test i c) e ∙ lawful.never_test c)

-- in no configuration nothing is made
pub IsChangedIn-never : {S I : Type 0} {sets : Sets I} → IsLawful sets → (heap : HeapView S I) (path : I) (change : List Bool → Globals → Globals) → IsHeap sets heap → path ≡ sets.never → IsChangedIn sets sets heap heap (sets.test path) change
IsChangedIn-never lawful heap path change v e = record {
  is_heap = v;
  grows = Grows-refl heap;
  keeps = λ p h. h;
  inside = λ c t. absurd (never_holds lawful path e c t);
  outside = λ c t. refl;
}

pub never_there : {I : Type 0} {sets : Sets I} (P : List Bool → Type 0) → IsLawful sets → (path : I) → path ≡ sets.never → (c : List Bool) → sets.test path c ≡ true → P c
never_there P lawful path e c t = absurd (never_holds lawful path e c t)

-- no runs come to no outcome
pub no-part-gives : {S I : Type 0} (site : Site) {sets : Sets I} → IsLawful sets → (group : GroupView S I) (reference : ℕ) (path : I) (outcomes : List (Outcome S I)) → path ≡ path_of group → path ≡ sets.never → outcomes ≡ [] → (heap : HeapView S I) → GivesAt site.program.now (λ heap c s. go (here site s) (value_of sets heap c (Ref reference) ∷ s.top.operands)) sets sets group outcomes heap
no-part-gives {S = S} {I = I} site {sets = sets} lawful group reference path outcomes e n made heap tree h s =
    let P : List (Outcome S I) → Type 0 = λ xs. CameTo site.program.now sets sets heap tree group (λ c. go (here site (state_at sets heap tree group c)) (value_of sets heap c (Ref reference) ∷ (state_at sets heap tree group c).top.operands)) (sets.test (path_of group)) xs in
    subst P (sym made) (CameTo-none site.program.now sets sets heap tree group _ (sets.test (path_of group)) (λ c. ap (λ i. sets.test i c) (sym e ∙ n) ∙ lawful.never_test c))

-- a reference in a path, put on the operands
pub reference-gives : {S I : Type 0} (site : Site) (sets : Sets I) (group after : GroupView S I) (value : Conditional Slot S I) (reference : ℕ) (path : I) (outcomes : List (Outcome S I)) (heap : HeapView S I) → IsGroup sets group → path ≡ path_of group → value.scope ≡ path → IsCondOf slot_cmp sets (value_within sets path (λ _. Some (Ref reference))) value → ((c : List Bool) → sets.test (path_of group) c ≡ true → is_held sets heap c (Ref reference) ≡ true) → after ≡ record group { top = record (group.top) { position = group.top.position + site.size; stack = record (group.top.stack) { conds = group.top.stack.conds ++ value ∷ [] } } } → outcomes ≡ shared.Go after ∷ [] → GivesAt site.program.now (λ heap c s. go (here site s) (value_of sets heap c (Ref reference) ∷ s.top.operands)) sets sets group outcomes heap
reference-gives site sets group after value reference path outcomes heap v e scope of held same made =
    pushed-gives site group after value (λ c s. value_of sets heap c (Ref reference)) outcomes heap v (Extends-refl sets) (IsCond-of slot_cmp sets _ value of) (scope ∙ e) (λ tree c t. ap (value_of sets heap c) (at c t)) (λ c t. ap (is_held sets heap c) (at c t) ∙ held c t) same made
  where
    inside : (b : Bool) (slot : Slot) → b ≡ true → or_top (if b then Some slot else None) ≡ slot
    inside true slot h = refl
    inside false slot h = cc

    at : (c : List Bool) → sets.test (path_of group) c ≡ true → slot_at sets value c ≡ Ref reference
    at c t = ap or_top (cond_at-of slot_cmp sets _ value c of) ∙ inside (sets.test path c) (Ref reference) (ap (λ i. sets.test i c) e ∙ t)

-- ---- classes without objects, and full operands

module _ {S I : Type 0} (site : Site) {sets : Sets I} (heap : HeapView S I) (group : GroupView S I) (class : ClassId) (outcomes : List (Outcome S I)) (r : IsRunning site sets heap group) where
  pub refused-attempts : (has ABSTRACT (class_at site.program.now class.0).flags || is_interface site.program.now class.0) ≡ true → Gives site.program.now (λ s. raise (here site s) "java/lang/InstantiationError") sets sets group outcomes → AttemptsBy site (λ s. new_of_class (here site s) class.0) sets sets heap heap group outcomes
  refused-attempts none gives =
      AttemptsBy-stays site (λ s. new_of_class (here site s) class.0) heap group (λ s. raise (here site s) "java/lang/InstantiationError") outcomes r.is_heap r.is_for r.is_group (Extends-refl sets) (λ tree s c t.
      let h = here site (state_at sets heap tree group c) in
      sym (ap (λ b. when b (raise h "java/lang/InstantiationError") (when (has_room h 1 h.state.top.operands) (when_initialised h class.0 (making class.0)) (illegal h))) none)) gives

  pub full-attempts : (has ABSTRACT (class_at site.program.now class.0).flags || is_interface site.program.now class.0) ≡ false → site.code.now.max_stack ≤ length group.top.stack.conds → Gives site.program.now (illegal_in site.program.now) sets sets group outcomes → AttemptsBy site (λ s. new_of_class (here site s) class.0) sets sets heap heap group outcomes
  full-attempts makes full gives =
      AttemptsBy-stays site (λ s. new_of_class (here site s) class.0) heap group (illegal_in site.program.now) outcomes r.is_heap r.is_for r.is_group (Extends-refl sets) (λ tree s c t.
      let h = here site (state_at sets heap tree group c) in
      let operands = h.state.top.operands in
      let most : site.code.now.max_stack < 1 + stack_size operands = omega (arith, full, words_at_least operands, operand_count sets heap group c) in
      sym (ap (λ b. when b (raise h "java/lang/InstantiationError") (when (has_room h 1 operands) (when_initialised h class.0 (making class.0)) (illegal h))) makes ∙ ap (λ b. when b (when_initialised h class.0 (making class.0)) (illegal h)) (lt-leb (1 + stack_size operands) site.code.now.max_stack most))) gives

-- ---- the instruction

-- the class that the entry names
module _ {S I : Type 0} (site : Site) (group : GroupView S I) (top : Frame S I) (class : ClassId) (index : ℕ) (found : Option ClassId) (is_top : top ≡ group.top) (of_top : class ≡ (method_at site.program.now top.method.0).class) (resolved : found ≡ option_map as_class (class_named site.program.now (class_name (class_at site.program.now class.0).pool index))) where
  named : found ≡ option_map as_class (class_named site.program.now (class_name (class_at site.program.now (pool_class site group)).pool index))
  named = resolved ∙ ap (λ (k : ClassId). option_map as_class (class_named site.program.now (class_name (class_at site.program.now k.0).pool index))) (of_top ∙ ap (λ (t : Frame S I). (method_at site.program.now t.method.0).class) is_top)

  no_class : (o : Option ℕ) → None ≡ option_map as_class o → o ≡ None
  no_class None e = refl
  no_class (Some n) e = cc

  pub made-by : (k : ClassId) (s0 s1 : Sets I) (before after : HeapView S I) (outcomes : List (Outcome S I)) → found ≡ Some k → AttemptsBy site (λ s. new_of_class (here site s) k.0) s0 s1 before after group outcomes → IsAttemptBy site (New index) s0 s1 before after group outcomes
  made-by k s0 s1 before after outcomes is made =
      let there = class_some (class_named site.program.now (class_name (class_at site.program.now (pool_class site group)).pool index)) k (sym is ∙ named) in
      AttemptsBy-same site (λ s. new_of_class (here site s) k.0) (row_by site (New index)) s0 s1 before after group outcomes (λ tree c.
      let h = here site (state_at s0 before tree group c) in
      sym (ap (λ o. if_there h (class_name h.pool index) o (new_of_class h)) there)) made

  pub missing-class : (sets : Sets I) (heap : HeapView S I) (outcomes : List (Outcome S I)) → IsGiven site (New index) sets heap group → found ≡ None → Gives site.program.now (λ s. unsupported (here site s) class_word (class_name (here site s).pool index)) sets sets group outcomes → IsAttemptBy site (New index) sets sets heap heap group outcomes
  missing-class sets heap outcomes given is gives =
      let none = no_class (class_named site.program.now (class_name (class_at site.program.now (pool_class site group)).pool index)) (sym is ∙ named) in
      AttemptsBy-ended site (New index) (row_by site (New index)) heap group (λ s. unsupported (here site s) class_word (class_name (here site s).pool index)) outcomes (Extends-refl sets) given (λ tree s c t.
      let h = here site (state_at sets heap tree group c) in
      sym (ap (λ o. if_there h (class_name h.pool index) o (new_of_class h)) none)) gives
