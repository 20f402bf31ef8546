-- A static call: from the sets in which its class is ready to the attempt.
use Rattle.std.proofs.Common.{◌≡◌, ◌<◌, ◌≤◌, Bool, true, List, ◌&&◌, refl, sym, ◌∙◌, ap, subst, arith, length, reverse, take}
use Rattle.std.proofs.lemmas.List.{length-map}
use Rattle.std.specs.Prelude.{Option, if◌then◌else◌}
use Rattle.vx_cond.specs.Cond.{IsInside}
use Rattle.vx_desc.specs.declared.java_type.JavaType.{JavaType}
use Rattle.vx_families.specs.Attempts.{AttemptsIn}
use Rattle.vx_ready.proofs.Given.{AttemptsBy-stays, and_none, unready}
use Rattle.vx_families.proofs.AttemptLaws.{AttemptsIn-by}
use Rattle.vx_frames.specs.Giving.{GivesIn}
use Rattle.vx_group.specs.declared.callers.Caller.{Caller}
use Rattle.vx_group.specs.Callers.{Keeps}
use Rattle.vx_group.specs.Group.{GroupView, IsGroup, path_of}
use Rattle.vx_group.proofs.CallerLaws.{Keeps-refl}
use Rattle.vx_group.proofs.GroupLaws.{IsGroupIn-group}
use Rattle.vx_group_states.specs.Answering.{operands_at}
use Rattle.vx_group_states.specs.Sites.{Gives, here}
use Rattle.vx_group_states.specs.Stands.{CameTo, StandsIn, state_at}
use Rattle.vx_group_states.specs.declared.site.Site.{Site}
use Rattle.vx_group_states.proofs.GrownStates.{Grows-refl, StandsIn-grown, state_at-grown}
use Rattle.vx_group_states.proofs.Operands.{length-operands}
use Rattle.vx_group_states.proofs.OutcomeStates.{CameTo-same}
use Rattle.vx_group_states.proofs.StateLaws.{both_first, both_second}
use Rattle.vx_families.specs.Changing.{IsChangedIn, with_globals}
use Rattle.vx_families.proofs.ChangeLaws.{attempts_follow, statics_change_in}
use Rattle.vx_heap.specs.Heap.{Globals, HeapView, globals_at, value_of}
use Rattle.vx_java.specs.Calls.{call_static}
use Rattle.vx_java.specs.Machine.{Here, State, illegal_in}
use Rattle.vx_java.specs.Machine.{Outcome as PlainOutcome}
use Rattle.vx_java.specs.Selection.{selected_if_concrete}
use Rattle.vx_link.specs.Names.{Member}
use Rattle.vx_link.specs.Parts.{method_at}
use Rattle.vx_link.specs.Signature.{signature}
use Rattle.vx_outcome.specs.declared.outcome.Outcome.{Outcome}
use Rattle.vx_ready.specs.Changing.{IsChanged}
use Rattle.vx_ready.specs.Initialising.{IsReadied, goes_on, has_failed, proceeding, readied, stopped}
use Rattle.vx_ready.specs.declared.initialising.Readiness.{Readiness}
use Rattle.vx_ready.proofs.Changes.{IsChanged-before, IsHeapFor-changed}
use Rattle.vx_ready.proofs.Climbing.{inits_later, runs_inside}
use Rattle.vx_ready.proofs.Going.{operands_later}
use Rattle.vx_ready.proofs.Rows.{ready_row}
use Rattle.vx_space.specs.Sets.{Extends, IsSet, Sets}
use Rattle.vx_space.proofs.Spaces.{Extends-refl, Extends-trans}
use Rattle.vx_value.specs.declared.ids.ClassId.{ClassId}
use Rattle.vx_value.specs.declared.ids.MethodId.{MethodId}
use Rattle.vx_value.specs.declared.slot.Slot.{Slot}
use Rattle.vx_invoke.proofs.Receivers.{match_is_fit, static_room}
use Rattle.vx_invoke.proofs.Rows.{called_here, few_for_static, static_row}
use Rattle.vx_invoke.specs.Arguments.{arguments_fit, slots_fit}
use Rattle.vx_invoke.specs.Called.{by_selected, called_with}
use Rattle.vx_invoke.specs.Calling.{IsCallingStatic, MayEnterInside}

module _ {S I : Type 0} (site : Site) {s0 : Sets I} (before : HeapView S I) (tree : List (Option (Caller S I))) (group : GroupView S I) (method : MethodId) (types : List JavaType) (calling : IsCallingStatic site s0 before tree group method types) where
  alone : IsGroup s0 group
  alone = IsGroupIn-group s0 tree group calling.stands.is_group

  -- the operands of the plain state
  operand_count : (tree : List (Option (Caller S I))) (c : List Bool) → length (state_at s0 before tree group c).top.operands ≡ length group.top.stack.conds
  operand_count tree c = length-map (operands_at s0 group.top.stack c) (value_of s0 before c) ∙ length-operands s0 group.top.stack c

  -- there are too few operands
  pub few-attempts : (m : Member) → (signature m.descriptor).arguments ≡ types → length group.top.stack.conds < length types → (outcomes : List (Outcome S I)) → Gives site.program.now (illegal_in site.program.now) s0 s0 group outcomes → AttemptsIn site (λ s. call_static (here site s) m method.0) s0 s0 before before tree tree group outcomes
  few-attempts m d few outcomes gives =
      let says : State → PlainOutcome = λ s. call_static (here site s) m method.0 in
      AttemptsIn-by site says s0 s0 before before tree group outcomes calling.stands (AttemptsBy-stays site says before group (illegal_in site.program.now) outcomes calling.is_heap calling.is_for alone (Extends-refl s0) (λ tree s c t.
      let number = operand_count tree c in
      sym (few_for_static (here site (state_at s0 before tree group c)) m method.0 types d (omega (arith, few, number)))) gives)

  -- where the class is needed it runs
  pub needs_run : {s1 : Sets I} (needs : I) → Extends s0 s1 → IsSet s1 needs (λ c. s0.test (path_of group) c && arguments_fit s0 group types c) → IsInside s1 needs before.allowed
  needs_run {s1 = s1} needs e n = runs_inside e (Extends-refl s1) before (path_of group) needs calling.is_heap calling.stands.runs n.known (λ c t. both_first (s0.test (path_of group) c) _ (sym (n.test c) ∙ t))

  module _ {s1 s2 : Sets I} (after : HeapView S I) (class : ClassId) (needs : I) (readiness : Readiness S I) (declares : class ≡ (method_at site.program.now method.0).class) (enough : length types ≤ length group.top.stack.conds) (e01 : Extends s0 s1) (n : IsSet s1 needs (λ c. s0.test (path_of group) c && arguments_fit s0 group types c)) (e12 : Extends s1 s2) (made_ready : IsReadied site.program.now s1 s2 before after class.0 needs readiness) where
    ready : IsReadied site.program.now s1 s2 before after (method_at site.program.now method.0).class.0 needs readiness
    ready =
        let P : ClassId → Type 0 = λ k. IsReadied site.program.now s1 s2 before after k.0 needs readiness in
        subst P declares made_ready

    abbrev change : List Bool → Globals → Globals
    change c = readied site.program.now (method_at site.program.now method.0).class.0 (s1.test needs c)

    changed : IsChanged s0 s2 before after change
    changed = IsChanged-before e01 before after change change calling.is_heap (λ c. refl) ready.changed

    changed_inside : IsChangedIn s0 s2 before after (s0.test (path_of group)) change
    changed_inside = statics_change_in s0 s2 before after (s0.test (path_of group)) change changed.is_heap changed.same changed.statics changed.inits changed.at (λ c t x. unready site.program.now (method_at site.program.now method.0).class.0 (s1.test needs c) x (n.test c ∙ and_none (s0.test (path_of group) c) _ t))

    -- those that proceed may enter the method
    pub static_enter : MayEnterInside site.program.now s2 group readiness.proceeds (length types) method.0
    static_enter = record {
      types = types;
      number = refl;
      room = λ code. static_room site.program.now method.0 types calling.bounded calling.may_call calling.types code;
      fit = λ c t.
          let wanted : s1.test needs c ≡ true = both_first (s1.test needs c) _ (sym (ready.proceeds.test c) ∙ t) in
          ap (λ (slots : List Slot). slots_fit types (reverse (take (length types) slots))) (operands_later (Extends-trans e01 e12) group alone c) ∙ both_second (s0.test (path_of group) c) _ (sym (n.test c) ∙ wanted);
    }

    -- at one configuration
    needed : (m : Member) → (signature m.descriptor).arguments ≡ types → (c : List Bool) → s0.test (path_of group) c ≡ true → (if s2.test readiness.proceeds c then called_with site (length types) (by_selected site.program.now (selected_if_concrete site.program.now method.0)) (with_globals (state_at s0 before tree group c) (change c (globals_at s0 before c))) else stopped (here site (with_globals (state_at s0 before tree group c) (change c (globals_at s0 before c)))) (method_at site.program.now method.0).class.0 (s2.test needs c) (s2.test readiness.fails c)) ≡ call_static (here site (state_at s0 before tree group c)) m method.0
    needed m d c t =
        let p = site.program.now in
        let class = (method_at p method.0).class.0 in
        let state = state_at s0 before tree group c in
        let slots = operands_at s0 group.top.stack c in
        let rest : Here → PlainOutcome = λ g. called_here g (length types) state.top.operands (by_selected g.program (selected_if_concrete g.program method.0)) in
        let inits = inits_later e01 before calling.is_heap c in
        let x = change c (globals_at s0 before c) in
        let plain = operand_count tree c in
        let there = length-operands s0 group.top.stack c in
        let fits : s1.test needs c ≡ arguments_fit s0 group types c = n.test c ∙ ap (λ b. b && arguments_fit s0 group types c) t in
        let fails : s2.test readiness.fails c ≡ (s1.test needs c && has_failed state.inits class) = ready.fails.test c ∙ ap (λ is. s1.test needs c && has_failed is class) inits in
        let proceeds : s2.test readiness.proceeds c ≡ (s1.test needs c && goes_on p state.inits class) = ready.proceeds.test c ∙ ap (λ is. s1.test needs c && goes_on p is class) inits in
        ap (λ b. if s2.test readiness.proceeds c then rest (here site (with_globals state x)) else stopped (here site (with_globals state x)) class b (s2.test readiness.fails c)) (e12.test needs c n.known)
        ∙ ready_row site class rest state (arguments_fit s0 group types c) (s1.test needs c) (s2.test readiness.fails c) (s2.test readiness.proceeds c) fits fails proceeds
        ∙ sym (static_row (here site state) m method.0 types (arguments_fit s0 group types c) d (omega (arith, enough, plain)) (match_is_fit s0 before c types slots (omega (arith, enough, there))))

    -- the attempt
    pub static-attempts : (s3 : Sets I) (later : List (Option (Caller S I))) (m : Member) → (signature m.descriptor).arguments ≡ types → (outcomes : List (Outcome S I)) → Extends s2 s3 → Keeps tree later → GivesIn site.program.now (proceeding site (method_at site.program.now method.0).class.0 s2 needs readiness (called_with site (length types) (by_selected site.program.now (selected_if_concrete site.program.now method.0)))) s2 s3 tree later group outcomes after → AttemptsIn site (λ s. call_static (here site s) m method.0) s0 s3 before after tree later group outcomes
    static-attempts s3 later m d outcomes e23 keeps gone =
        let p = site.program.now in
        let path = s0.test (path_of group) in
        let e02 = Extends-trans e01 e12 in
        let says : State → PlainOutcome = λ s. call_static (here site s) m method.0 in
        let says_there : List Bool → State → PlainOutcome = λ c s. proceeding site (method_at p method.0).class.0 s2 needs readiness (called_with site (length types) (by_selected p (selected_if_concrete p method.0))) after c s in
        let stands : StandsIn p s2 after tree group = StandsIn-grown p e02 (Keeps-refl tree) before after calling.is_heap changed_inside.grows group calling.stands in
        let same : (c : List Bool) → s2.test (path_of group) c ≡ true → says_there c (state_at s2 after tree group c) ≡ says_there c (state_at s2 after later group c) = λ c t. ap (says_there c) (sym (state_at-grown p (Extends-refl s2) keeps after after changed.is_heap (Grows-refl after) group stands c t refl)) in
        let came : CameTo p s2 s3 after later group (λ c. says_there c (state_at s2 after later group c)) (s2.test (path_of group)) outcomes = CameTo-same p s2 s3 after later group (λ c. says_there c (state_at s2 after tree group c)) (λ c. says_there c (state_at s2 after later group c)) (s2.test (path_of group)) (s2.test (path_of group)) outcomes (λ c. refl) same (gone changed.is_heap stands) in
        record {
          is_for = IsHeapFor-changed p s0 s2 before after change calling.is_for changed;
          attempts = attempts_follow p says says_there s0 s2 s3 before after path change tree later group outcomes calling.is_heap calling.stands e02 changed_inside (λ c t. t) e23 keeps (λ c t.
              ap (λ b. says_there c (with_globals (state_at s0 before tree group c) (if b then change c (globals_at s0 before c) else globals_at s0 before c))) t ∙ needed m d c t) came;
        }
