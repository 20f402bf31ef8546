-- getstatic of a static field that is there: from the sets of its configurations to the attempt.
use Rattle.std.proofs.Common.{◌≡◌, ℕ, ◌+◌, ◌<◌, ◌≤◌, Bool, true, List, ◌∷◌, ◌++◌, ◌&&◌, refl, sym, ◌∙◌, ap, arith, length}
use Rattle.std.proofs.lemmas.Bool.{lt-leb}
use Rattle.std.proofs.lemmas.List.{length-map}
use Rattle.std.specs.Prelude.{Option, Some, None, if◌then◌else◌, is_some, nat_le, not}
use Rattle.vx_cond.specs.Slots.{slots_at}
use Rattle.vx_desc.specs.declared.java_type.JavaType.{JavaType}
use Rattle.vx_group.specs.Group.{GroupView, IsPartOf, path_of}
use Rattle.vx_group.specs.declared.callers.Caller.{Caller}
use Rattle.vx_group.proofs.GroupLaws.{IsGroup-path_known}
use Rattle.vx_heap.specs.Heap.{Globals, HeapView, globals_at}
use Rattle.vx_java.specs.Checks.{sort_of, width_of_optional, width_of_type}
use Rattle.vx_java.specs.Fields.{Found, declaring, static_value}
use Rattle.vx_java.specs.Initialisation.{when_initialised}
use Rattle.vx_java.specs.Machine.{Here, State, Top, go, has_room, illegal, illegal_in, when}
use Rattle.vx_java.specs.Machine.{Outcome as PlainOutcome}
use Rattle.vx_java.specs.declared.operation.Sort.{Sort}
use Rattle.vx_java.specs.declared.operation.Sort.TheVariants as sort
use Rattle.vx_link.specs.Parts.{field_at}
use Rattle.vx_list.specs.Places.{item_or}
use Rattle.vx_outcome.specs.declared.outcome.Outcome.{Outcome}
use Rattle.vx_space.specs.Sets.{Extends, IsSet, Sets}
use Rattle.vx_space.proofs.Spaces.{Extends-refl, Extends-trans}
use Rattle.vx_group_states.specs.Sites.{Gives, GivesAt, here}
use Rattle.vx_group_states.specs.Stands.{state_at}
use Rattle.vx_group_states.specs.Widths.{slots_size}
use Rattle.vx_group_states.specs.declared.site.Site.{Site}
use Rattle.vx_group_states.proofs.Fitting.{slots_size-least, stack_size_of}
use Rattle.vx_value.specs.declared.ids.ClassId.{ClassId}
use Rattle.vx_families.specs.Attempts.{AttemptsBy}
use Rattle.vx_ready.specs.Changing.{with_globals}
use Rattle.vx_ready.specs.Initialising.{GivesWithin, IsReadied, has_failed, goes_on, readied, stopped, stopped_by}
use Rattle.vx_ready.specs.Running.{IsRunning}
use Rattle.vx_fields.specs.Statics.{got}
use Rattle.vx_ready.specs.declared.initialising.Readiness.{Readiness}
use Rattle.vx_ready.proofs.Attempting.{AttemptsBy-changed}
use Rattle.vx_ready.proofs.Changes.{IsChanged-before}
use Rattle.vx_ready.proofs.Climbing.{inits_later}
use Rattle.vx_ready.proofs.Given.{AttemptsBy-stays, and_none, unready}
use Rattle.vx_ready.proofs.Going.{going-gives}
use Rattle.vx_ready.proofs.Rows.{ready_row}

-- a value of a sort takes a word at least
some_words : (s : Option Sort) → is_some s ≡ true → 1 ≤ width_of_optional s
some_words None h = cc
some_words (Some sort.Int) h = omega arith
some_words (Some sort.Long) h = omega arith
some_words (Some sort.Reference) h = omega arith

-- what is asked of the operands, as of their slots
pub room_there : {S I : Type 0} (site : Site) (s0 : Sets I) (before : HeapView S I) (tree : List (Option (Caller S I))) (group : GroupView S I) (n : ℕ) (c : List Bool) → has_room (here site (state_at s0 before tree group c)) n (state_at s0 before tree group c).top.operands ≡ nat_le (n + slots_size (slots_at s0 group.top.stack c)) site.code.now.max_stack
room_there site s0 before tree group n c = ap (λ size. nat_le (n + size) site.code.now.max_stack) (stack_size_of s0 before c (slots_at s0 group.top.stack c))

-- as many operands as the greatest stack has words: there is no room
pub full-attempts : {S I : Type 0} (site : Site) {s0 : Sets I} (heap : HeapView S I) (group : GroupView S I) (named field : ℕ) (type : JavaType) (outcomes : List (Outcome S I)) → IsRunning site s0 heap group → is_some (sort_of type) ≡ true → site.code.now.max_stack ≤ length group.top.stack.conds → Gives site.program.now (illegal_in site.program.now) s0 s0 group outcomes → AttemptsBy site (λ s. got (record { named = named; field = field; type = type }) (here site s)) s0 s0 heap heap group outcomes
full-attempts {S = S} {I = I} site {s0 = s0} heap group named field type outcomes r some full gives =
    AttemptsBy-stays site (λ s. got (record { named = named; field = field; type = type }) (here site s)) heap group (illegal_in site.program.now) outcomes r.is_heap r.is_for r.is_group (Extends-refl s0) (λ tree s c t. no_room tree c) gives
  where
    no_room : (tree : List (Option (Caller S I))) (c : List Bool) → illegal_in site.program.now (state_at s0 heap tree group c) ≡ got (record { named = named; field = field; type = type }) (here site (state_at s0 heap tree group c))
    no_room tree c =
        let slots = slots_at s0 group.top.stack c in
        let count : length slots ≡ length group.top.stack.conds = simp length-map in
        let words = some_words (sort_of type) some in
        let least = slots_size-least slots in
        let most : site.code.now.max_stack < width_of_type type + slots_size slots = omega (arith, count, words, least, full) in
        let state = state_at s0 heap tree group c in
        let found : Found = record { named = named; field = field; type = type } in
        sym (ap (λ b. when b (when_initialised (here site state) (declaring (here site state) found) (λ g. go g (static_value g.state found ∷ g.state.top.operands))) (illegal (here site state))) (room_there site s0 heap tree group (width_of_type type) c ∙ lt-leb (width_of_type type + slots_size slots) site.code.now.max_stack most))

module _ {S I : Type 0} (site : Site) (s0 s1 s2 s3 s4 : Sets I) (before after : HeapView S I) (group going : GroupView S I) (field : ℕ) (type : JavaType) (class : ClassId) (needs : I) (readiness : Readiness S I) (others made : List (Outcome S I)) (r : IsRunning site s0 before group) (declares : class ≡ (field_at site.program.now field).class) (e01 : Extends s0 s1) (n : IsSet s1 needs (λ c. s0.test (path_of group) c && nat_le (width_of_type type + slots_size (slots_at s0 group.top.stack c)) site.code.now.max_stack)) (e12 : Extends s1 s2) (ready : IsReadied site.program.now s1 s2 before after class.0 needs readiness) (e23 : Extends s2 s3) (q : IsPartOf s2 s3 (λ c. s2.test (path_of group) c && s2.test readiness.proceeds c) group going) (stopped_there : GivesWithin site.program.now (stopped_by site class.0 s2 needs readiness.fails) (λ c. s2.test (path_of group) c && not (s2.test readiness.proceeds c)) s2 s3 group others after) (e34 : Extends s3 s4) (gone : GivesAt site.program.now (λ _ _ s. go (here site s) (item_or s.statics field Top ∷ s.top.operands)) s3 s4 going made after) where
  path_known : s0.is_known (path_of group) ≡ true
  path_known = IsGroup-path_known s0 group r.is_group

  needed : (tree : List (Option (Caller S I))) (named : ℕ) (c : List Bool) → s0.test (path_of group) c ≡ true → (if s2.test readiness.proceeds c then go (here site (with_globals (state_at s0 before tree group c) (readied site.program.now class.0 (s1.test needs c) (globals_at s0 before c)))) (item_or (readied site.program.now class.0 (s1.test needs c) (globals_at s0 before c)).statics field Top ∷ (state_at s0 before tree group c).top.operands) else stopped (here site (with_globals (state_at s0 before tree group c) (readied site.program.now class.0 (s1.test needs c) (globals_at s0 before c)))) class.0 (s2.test needs c) (s2.test readiness.fails c)) ≡ got (record { named = named; field = field; type = type }) (here site (state_at s0 before tree group c))
  needed tree named c t =
      let p = site.program.now in
      let state = state_at s0 before tree group c in
      let found : Found = record { named = named; field = field; type = type } in
      let rest : Here → PlainOutcome = λ g. go g (static_value g.state found ∷ g.state.top.operands) in
      let inits = inits_later e01 before r.is_heap c in
      let x = readied p class.0 (s1.test needs c) (globals_at s0 before c) in
      let room : s1.test needs c ≡ has_room (here site state) (width_of_type type) state.top.operands = n.test c ∙ ap (λ b. b && nat_le (width_of_type type + slots_size (slots_at s0 group.top.stack c)) site.code.now.max_stack) t ∙ sym (room_there site s0 before tree group (width_of_type type) c) in
      let fails : s2.test readiness.fails c ≡ (s1.test needs c && has_failed state.inits class.0) = ready.fails.test c ∙ ap (λ is. s1.test needs c && has_failed is class.0) inits in
      let proceeds : s2.test readiness.proceeds c ≡ (s1.test needs c && goes_on p state.inits class.0) = ready.proceeds.test c ∙ ap (λ is. s1.test needs c && goes_on p is class.0) inits in
      ap (λ b. if s2.test readiness.proceeds c then rest (here site (with_globals state x)) else stopped (here site (with_globals state x)) class.0 b (s2.test readiness.fails c)) (e12.test needs c n.known)
      ∙ ready_row site class.0 rest state (has_room (here site state) (width_of_type type) state.top.operands) (s1.test needs c) (s2.test readiness.fails c) (s2.test readiness.proceeds c) room fails proceeds
      ∙ ap (λ (k : ClassId). when (has_room (here site state) (width_of_type type) state.top.operands) (when_initialised (here site state) k.0 rest) (illegal (here site state))) declares

  pub get-attempts : (named : ℕ) → AttemptsBy site (λ s. got (record { named = named; field = field; type = type }) (here site s)) s0 s4 before after group (others ++ made)
  get-attempts named =
      let p = site.program.now in
      let change : List Bool → Globals → Globals = λ c. readied p class.0 (s1.test needs c) in
      let changed = IsChanged-before e01 before after change change r.is_heap (λ c. refl) ready.changed in
      let there : HeapView S I → List Bool → State → PlainOutcome = λ h c s. if s2.test readiness.proceeds c then go (here site s) (item_or s.statics field Top ∷ s.top.operands) else stopped_by site class.0 s2 needs readiness.fails h c s in
      let e02 = Extends-trans e01 e12 in
      AttemptsBy-changed before after change changed site (λ s. got (record { named = named; field = field; type = type }) (here site s)) group there (others ++ made) r.is_heap r.is_for r.is_group e02 (λ c t x. unready p class.0 (s1.test needs c) x (n.test c ∙ and_none (s0.test (path_of group) c) _ t)) (Extends-trans e23 e34) (λ tree s c t. needed tree named c t)
      (going-gives p (s2.test readiness.proceeds) group going (stopped_by site class.0 s2 needs readiness.fails) (λ _ _ s. go (here site s) (item_or s.statics field Top ∷ s.top.operands)) others made after e23 q stopped_there e34 gone)
