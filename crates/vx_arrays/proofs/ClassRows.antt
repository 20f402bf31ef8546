-- Instructions of arrays that name a class or an element: from what was made of it to the attempt.
use Rattle.std.proofs.Common.{◌≡◌, ℕ, ◌-◌, Bool, true, false, List, [], sym, ◌∙◌, ap}
use Rattle.std.specs.Prelude.{Option, Some, None, ◌==◌, ◌||◌, codes, option_map}
use Rattle.vx_families.proofs.AttemptLaws.{AttemptsBy-ended, AttemptsBy-same}
use Rattle.vx_families.specs.Attempts.{AttemptsBy, IsAttemptBy, IsGiven, row_by}
use Rattle.vx_frame.specs.declared.frame.Frame.{Frame}
use Rattle.vx_group.specs.Group.{GroupView}
use Rattle.vx_group.specs.declared.callers.Caller.{Caller}
use Rattle.vx_group_states.specs.Sites.{Gives, here}
use Rattle.vx_group_states.specs.Stands.{state_at}
use Rattle.vx_group_states.specs.declared.site.Site.{Site}
use Rattle.vx_heap.specs.Heap.{HeapView}
use Rattle.vx_java.specs.Arrays.{element_of_number, lengths_off, new_array, new_grid_of}
use Rattle.vx_java.specs.Checks.{if_there, with_class}
use Rattle.vx_java.specs.Ids.{as_class}
use Rattle.vx_java.specs.Machine.{Here, Outcome as PlainOutcome, State, unsupported, unsupported_in, when}
use Rattle.vx_java.specs.Operation.{class_word, float_word}
use Rattle.vx_java.specs.declared.operation.Operation.{Operation}
use Rattle.vx_java.specs.declared.operation.Operation.TheVariants.{NewPrimitives}
use Rattle.vx_link.specs.ClassNames.{array_class, class_named, double_element, float_element}
use Rattle.vx_link.specs.Names.{class_name}
use Rattle.vx_link.specs.Parts.{class_at, method_at}
use Rattle.vx_outcome.specs.declared.outcome.Outcome.{Outcome}
use Rattle.vx_references.proofs.Numbers.{class_none, class_some}
use Rattle.vx_space.specs.Sets.{Sets}
use Rattle.vx_space.proofs.Spaces.{Extends-refl}
use Rattle.vx_value.specs.declared.ids.ClassId.{ClassId}
use Rattle.vx_arrays.proofs.GridRows.{one_length}

-- ---- a class of the pool

module _ {S I : Type 0} (site : Site) (operation : Operation) (index : ℕ) (group : GroupView S I) (top : Frame S I) (current : ClassId) (found : Option ClassId) (top_is : top ≡ group.top) (current_is : current ≡ (method_at site.program.now top.method.0).class) (is : found ≡ option_map as_class (class_named site.program.now (class_name (class_at site.program.now current.0).pool index))) (rest : Here → ℕ → PlainOutcome) (row : (s : State) → row_by site operation s ≡ with_class (here site s) (class_name (here site s).pool index) (rest (here site s))) where
  -- what the entry names, as a state of the group has it
  named_there : (sets : Sets I) (heap : HeapView S I) (tree : List (Option (Caller S I))) (c : List Bool) → found ≡ option_map as_class (class_named site.program.now (class_name (here site (state_at sets heap tree group c)).pool index))
  named_there sets heap tree c = is ∙ ap (λ (k : ClassId). option_map as_class (class_named site.program.now (class_name (class_at site.program.now k.0).pool index))) (current_is ∙ ap (λ (f : Frame S I). (method_at site.program.now f.method.0).class) top_is)

  -- a class that isn't there
  pub missing-attempts : {sets : Sets I} (heap : HeapView S I) (outcomes : List (Outcome S I)) → IsGiven site operation sets heap group → found ≡ None → Gives site.program.now (λ s. unsupported (here site s) class_word (class_name (here site s).pool index)) sets sets group outcomes → IsAttemptBy site operation sets sets heap heap group outcomes
  missing-attempts {sets = sets} heap outcomes given none gives =
      AttemptsBy-ended site operation (row_by site operation) heap group (λ s. unsupported (here site s) class_word (class_name (here site s).pool index)) outcomes (Extends-refl sets) given
      (λ tree s c t.
      let state = state_at sets heap tree group c in
      let h = here site state in
      sym (row state ∙ ap (λ o. if_there h (class_name h.pool index) o (rest h)) (class_none (class_named site.program.now (class_name h.pool index)) (sym none ∙ named_there sets heap tree c))))
      gives

  -- a class that is there
  pub found-attempts : {s0 s1 : Sets I} (before after : HeapView S I) (says : State → PlainOutcome) (class : ClassId) (outcomes : List (Outcome S I)) → found ≡ Some class → ((s : State) → says s ≡ rest (here site s) class.0) → AttemptsBy site says s0 s1 before after group outcomes → IsAttemptBy site operation s0 s1 before after group outcomes
  found-attempts {s0 = s0} {s1 = s1} before after says class outcomes some law made =
      AttemptsBy-same site says (row_by site operation) s0 s1 before after group outcomes
      (λ tree c.
      let state = state_at s0 before tree group c in
      let h = here site state in
      law state ∙ sym (row state ∙ ap (λ o. if_there h (class_name h.pool index) o (rest h)) (class_some (class_named site.program.now (class_name h.pool index)) class (sym some ∙ named_there s0 before tree c))))
      made

-- one length of arrays of a class
pub one_law : (site : Site) (class is : ℕ) → class ≡ is → (s : State) → new_grid_of (here site s) class (lengths_off 1 [] s.top.operands) ≡ new_array (here site s) is s.top.operands
one_law site class is e s = one_length (here site s) class s.top.operands ∙ ap (λ k. new_array (here site s) k s.top.operands) e

-- ---- elements that are primitive types

-- a float or a double ends the run
pub float-attempts : {S I : Type 0} (site : Site) (number element : ℕ) (what : List ℕ) {sets : Sets I} (heap : HeapView S I) (group : GroupView S I) (outcomes : List (Outcome S I)) → IsGiven site (NewPrimitives number) sets heap group → element ≡ element_of_number number → ((element == float_element) || (element == double_element)) ≡ true → what ≡ codes "-" → Gives site.program.now (λ s. unsupported_in site.program.now s float_word what) sets sets group outcomes → IsAttemptBy site (NewPrimitives number) sets sets heap heap group outcomes
float-attempts site number element what {sets = sets} heap group outcomes given e float w gives =
    AttemptsBy-ended site (NewPrimitives number) (row_by site (NewPrimitives number)) heap group (λ s. unsupported_in site.program.now s float_word what) outcomes (Extends-refl sets) given
    (λ tree s c t.
    let state = state_at sets heap tree group c in
    let h = here site state in
    let yes : ((element_of_number number == float_element) || (element_of_number number == double_element)) ≡ true = ap (λ k. (k == float_element) || (k == double_element)) (sym e) ∙ float in
    ap (λ u. unsupported_in site.program.now state float_word u) w
    ∙ sym (ap (λ b. when b (unsupported h float_word (codes "-")) (new_array h (array_class h.program 1 (element_of_number number)) state.top.operands)) yes))
    gives

-- others are made
pub primitives-attempts : {S I : Type 0} (site : Site) (number element : ℕ) (class : ClassId) {s0 s1 : Sets I} (before after : HeapView S I) (group : GroupView S I) (outcomes : List (Outcome S I)) → element ≡ element_of_number number → ((element == float_element) || (element == double_element)) ≡ false → class.0 ≡ array_class site.program.now 1 element → AttemptsBy site (λ s. new_grid_of (here site s) class.0 (lengths_off 1 [] s.top.operands)) s0 s1 before after group outcomes → IsAttemptBy site (NewPrimitives number) s0 s1 before after group outcomes
primitives-attempts site number element class {s0 = s0} {s1 = s1} before after group outcomes e float k made =
    AttemptsBy-same site (λ s. new_grid_of (here site s) class.0 (lengths_off 1 [] s.top.operands)) (row_by site (NewPrimitives number)) s0 s1 before after group outcomes
    (λ tree c.
    let state = state_at s0 before tree group c in
    let h = here site state in
    let no : ((element_of_number number == float_element) || (element_of_number number == double_element)) ≡ false = ap (λ n. (n == float_element) || (n == double_element)) (sym e) ∙ float in
    one_law site class.0 (array_class site.program.now 1 (element_of_number number)) (k ∙ ap (array_class site.program.now 1) e) state
    ∙ sym (ap (λ b. when b (unsupported h float_word (codes "-")) (new_array h (array_class h.program 1 (element_of_number number)) state.top.operands)) no))
    made
