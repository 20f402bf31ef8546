-- A static call of a class that was made ready: the runs that proceed may enter the method.
use Rattle.std.proofs.Common.{◌≡◌, ◌≤◌, ℕ, List, ◌++◌, ◌&&◌, sym, ◌∙◌, ap, subst, arith, length}
use Rattle.std.specs.Prelude.{Option, is_some, not, sum_by}
use Rattle.vx_desc.specs.Descriptors.{slots_of}
use Rattle.vx_frames.specs.Giving.{GivesIn}
use Rattle.vx_frames.proofs.GivingLaws.{IsGroupIn-part}
use Rattle.vx_group.specs.declared.callers.Caller.{Caller}
use Rattle.vx_group.specs.Callers.{Keeps}
use Rattle.vx_group.specs.Group.{GroupView, IsGroupIn, IsPartOf, path_of}
use Rattle.vx_group.proofs.CallerLaws.{Keeps-refl}
use Rattle.vx_group_states.specs.declared.site.Site.{Site}
use Rattle.vx_group_states.proofs.Gathering.{part_path}
use Rattle.vx_group_states.proofs.GroupParts.{part_group}
use Rattle.vx_group_states.proofs.StateLaws.{both_first, both_second}
use Rattle.vx_heap.specs.Heap.{HeapView}
use Rattle.vx_java.specs.Initialisation.{max_locals}
use Rattle.vx_java.specs.Selection.{selected_if_concrete}
use Rattle.vx_link.specs.Parts.{method_at}
use Rattle.vx_outcome.specs.declared.outcome.Outcome.{Outcome}
use Rattle.vx_ready.specs.Initialising.{GivesWithin, proceeding, stopped_by}
use Rattle.vx_ready.specs.declared.initialising.Readiness.{Readiness}
use Rattle.vx_space.specs.Sets.{Extends, IsLawful, Sets}
use Rattle.vx_value.specs.declared.ids.ClassId.{ClassId}
use Rattle.vx_value.specs.declared.ids.MethodId.{MethodId}
use Rattle.vx_invoke.proofs.Proceeding.{GivesIn-going, GivesIn-stopped}
use Rattle.vx_invoke.proofs.Receivers.{static_enters}
use Rattle.vx_invoke.proofs.Rooms.{MayEnter-static, arguments_fit-part, operands-part}
use Rattle.vx_invoke.specs.Called.{MayEnter, by_selected, called_with}
use Rattle.vx_invoke.specs.Calling.{MayEnterInside}
use Rattle.vx_invoke.specs.declared.call.Call.{Call}
use Rattle.vx_invoke.specs.declared.call.Call.TheVariants.{Enter}

module _ {S I : Type 0} (site : Site) {s0 s1 : Sets I} (tree : List (Option (Caller S I))) (group going : GroupView S I) (method : MethodId) (readiness : Readiness S I) (q : IsPartOf s0 s1 (λ c. s0.test (path_of group) c && s0.test readiness.proceeds c) group going) where
  pub going_in : Extends s0 s1 → IsGroupIn s0 tree group → IsGroupIn s1 tree going
  going_in e v = IsGroupIn-part e (Keeps-refl tree) (λ c. s0.test (path_of group) c && s0.test readiness.proceeds c) group going (λ c t. both_first (s0.test (path_of group) c) _ t) v q

  pub going_enters : (count : ℕ) (call : Call) → count ≤ length group.top.stack.conds → MayEnterInside site.program.now s0 group readiness.proceeds count method.0 → call ≡ by_selected site.program.now (selected_if_concrete site.program.now method.0) → MayEnter site.program.now s1 going count call
  going_enters count call enough may is =
      let p = site.program.now in
      let operands = operands-part s0 s1 _ group going q in
      let room : (m : MethodId) → call ≡ Enter m → sum_by slots_of may.types ≤ max_locals (method_at p m.0).code = λ m e.
      let found = static_enters p method.0 m (sym is ∙ e) in
      let P : ℕ → Type 0 = λ n. sum_by slots_of may.types ≤ max_locals (method_at p n).code in
      subst P found.0 (may.room (ap (λ n. is_some (method_at p n).code) found.0 ∙ found.1)) in
      MayEnter-static p s1 going may.types count call (part_group s0 s1 _ group going q) (omega (arith, operands, enough)) may.number room (λ c t. arguments_fit-part s0 s1 _ group going may.types q c t ∙ may.fit c (both_second (s0.test (path_of group) c) _ (sym (part_path s0 s1 _ group going q c) ∙ t)))

  -- what comes of all
  module _ (class : ClassId) (declares : class ≡ (method_at site.program.now method.0).class) (needs : I) (count : ℕ) (others : List (Outcome S I)) (heap : HeapView S I) (stopped : GivesWithin site.program.now (stopped_by site class.0 s0 needs readiness.fails) (λ c. s0.test (path_of group) c && not (s0.test readiness.proceeds c)) s0 s1 group others heap) where
    others_stopped : GivesWithin site.program.now (stopped_by site (method_at site.program.now method.0).class.0 s0 needs readiness.fails) (λ c. s0.test (path_of group) c && not (s0.test readiness.proceeds c)) s0 s1 group others heap
    others_stopped =
        let P : ClassId → Type 0 = λ k. GivesWithin site.program.now (stopped_by site k.0 s0 needs readiness.fails) (λ c. s0.test (path_of group) c && not (s0.test readiness.proceeds c)) s0 s1 group others heap in
        subst P declares stopped

    -- none proceeds
    pub none-gives : IsLawful s1 → (path : I) → path ≡ path_of going → path ≡ s1.never → GivesIn site.program.now (proceeding site (method_at site.program.now method.0).class.0 s0 needs readiness (called_with site count (by_selected site.program.now (selected_if_concrete site.program.now method.0)))) s0 s1 tree tree group others heap
    none-gives lawful path is never = GivesIn-stopped site.program.now s0 s1 tree (s0.test readiness.proceeds) group (stopped_by site (method_at site.program.now method.0).class.0 s0 needs readiness.fails) (called_with site count (by_selected site.program.now (selected_if_concrete site.program.now method.0))) others heap (λ c. sym (part_path s0 s1 _ group going q c) ∙ ap (λ i. s1.test i c) (sym is ∙ never) ∙ lawful.never_test c) others_stopped

    -- some proceed
    pub some-gives : (later : List (Option (Caller S I))) (call : Call) (made : List (Outcome S I)) → Extends s0 s1 → Keeps tree later → call ≡ by_selected site.program.now (selected_if_concrete site.program.now method.0) → GivesIn site.program.now (λ _ _. called_with site count call) s1 s1 tree later going made heap → GivesIn site.program.now (proceeding site (method_at site.program.now method.0).class.0 s0 needs readiness (called_with site count (by_selected site.program.now (selected_if_concrete site.program.now method.0)))) s0 s1 tree later group (others ++ made) heap
    some-gives later call made e keeps is went =
        let P : Call → Type 0 = λ k. GivesIn site.program.now (λ _ _. called_with site count k) s1 s1 tree later going made heap in
        GivesIn-going site.program.now tree later (s0.test readiness.proceeds) group going (stopped_by site (method_at site.program.now method.0).class.0 s0 needs readiness.fails) (called_with site count (by_selected site.program.now (selected_if_concrete site.program.now method.0))) others made heap e keeps q others_stopped (subst P is went)
