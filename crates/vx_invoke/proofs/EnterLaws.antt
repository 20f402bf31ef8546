-- The operands that a call takes off are the values with which the method begins, and the caller keeps those under them: so the row's state stands.
use Rattle.std.proofs.Common.{◌≡◌, ℕ, ◌-◌, ◌<◌, ◌≤◌, zero, suc, Bool, true, List, [], ◌∷◌, ◌++◌, refl, sym, ◌∙◌, ap, subst, arith, map, length, reverse, take, drop}
use Rattle.std.proofs.lemmas.Bool.{le-ltb, lt-ltb}
use Rattle.std.proofs.lemmas.List.{append-nil, length-drop, length-map, length-reverse, map-append, reverse-append, reverse-reverse, take-append-drop, take-map}
use Rattle.std.proofs.lemmas.List.Folds.{list_all-append}
use Rattle.std.specs.List.{list_all}
use Rattle.std.specs.Prelude.{Option}
use Rattle.std.specs.declared.cmp.Ordering.{Ordering}
use Rattle.vx_cond.specs.Cond.{Conditional}
use Rattle.vx_cond.specs.Row.{AreConds, Conditionals, IsRow}
use Rattle.vx_cond.specs.Slots.{slot_at, slots_at}
use Rattle.vx_frame.specs.Frame.{frame_at}
use Rattle.vx_frame.proofs.FrameLaws.{IsFrame-stack}
use Rattle.vx_frames.specs.Entering.{AreArguments, AreArgumentsHeld, IsEntered, arguments_at, values_at, with_frame}
use Rattle.vx_frames.specs.Giving.{GivesIn}
use Rattle.vx_frames.proofs.EnterLaws.{stack_depth}
use Rattle.vx_group.specs.declared.callers.Caller.{Caller}
use Rattle.vx_group.specs.Callers.{callers_of, frames_at}
use Rattle.vx_group.specs.Group.{GroupView, IsGroupIn, depth_of, path_of}
use Rattle.vx_group.proofs.GroupLaws.{IsGroup-top, IsGroupIn-group, IsGroupIn-same_callers}
use Rattle.vx_group_states.specs.Answering.{operands_at}
use Rattle.vx_group_states.specs.Sites.{Gives, here}
use Rattle.vx_group_states.specs.Stands.{CameTo, Continues, StandsIn, plain_frame, state_at}
use Rattle.vx_group_states.specs.declared.site.Site.{Site}
use Rattle.vx_group_states.proofs.OutcomeStates.{CameTo-one, CameTo-same}
use Rattle.vx_group_states.proofs.SettleLaws.{stack_scope}
use Rattle.vx_group_states.proofs.StateLaws.{Continues-moved, Continues-same, Continues-trans, IsGroup-moved, both, both_first, both_second, operands_held, state_at-moved}
use Rattle.vx_heap.specs.Heap.{HeapView, IsHeap, are_held, is_held, value_of}
use Rattle.vx_java.specs.Calls.{state_in_callee, in_locals, top_values}
use Rattle.vx_java.specs.Initialisation.{new_frame}
use Rattle.vx_java.specs.Machine.{Go, Native, Value, depth, frame_bound, raise, when}
use Rattle.vx_java.specs.Machine.{Outcome as PlainOutcome}
use Rattle.vx_link.specs.declared.program.Program.{Program}
use Rattle.vx_outcome.specs.declared.outcome.Outcome.{Outcome}
use Rattle.vx_outcome.specs.declared.outcome.Outcome.TheVariants as shared
use Rattle.vx_space.specs.Sets.{Sets}
use Rattle.vx_space.proofs.Spaces.{Extends-refl}
use Rattle.vx_value.specs.Slot.{slot_cmp}
use Rattle.vx_value.specs.declared.ids.MethodId.{MethodId}
use Rattle.vx_value.specs.declared.key.Kind.TheVariants.{Call as CallKind}
use Rattle.vx_value.specs.declared.slot.Slot.{Slot}
use Rattle.vx_invoke.proofs.Rooms.{last_items, slots_of_conds, top_slots_of}
use Rattle.vx_invoke.specs.Called.{called_with, top_conds}
use Rattle.vx_invoke.specs.declared.call.Call.TheVariants.{Enter}

-- ---- so many values off the top

put_before : (taken xs : List Value) (x : Value) → reverse (x ∷ xs) ++ taken ≡ reverse xs ++ x ∷ taken
put_before taken xs x = ap (λ ys. ys ++ taken) (reverse-append (x ∷ []) xs) ∙ joined (reverse xs)
  where
    joined : (ys : List Value) → (ys ++ x ∷ []) ++ taken ≡ ys ++ x ∷ taken
    joined [] = refl
    joined (y ∷ ys) = ap (λ zs. y ∷ zs) (joined ys)

top_values_of : (xs taken rest : List Value) → top_values (length xs) taken (xs ++ rest) ≡ (reverse xs ++ taken, rest)
top_values_of [] taken rest = refl
top_values_of (x ∷ xs) taken rest = top_values_of xs (x ∷ taken) rest ∙ ap (λ values. (values, rest)) (sym (put_before taken xs x))

-- ---- values that stand with the last one on top

mirrored : {A B : Type 0} (f : A → B) (xs : List A) → map f (reverse xs) ≡ reverse (map f xs)
mirrored f [] = refl
mirrored f (x ∷ xs) = ap (map f) (reverse-append (x ∷ []) xs) ∙ map-append f (reverse xs) (x ∷ []) ∙ ap (λ ys. ys ++ f x ∷ []) (mirrored f xs) ∙ sym (reverse-append (f x ∷ []) (map f xs))

turned : {A B : Type 0} (f : A → B) (xs : List A) → reverse (map f (reverse xs)) ≡ map f xs
turned f xs = ap reverse (mirrored f xs) ∙ reverse-reverse (map f xs)

-- the deepest are left, and the others are taken off
split_off : {A : Type 0} (f : A → Value) (below above : List A) → top_values (length above) [] (map f (reverse (below ++ above))) ≡ (map f above, map f (reverse below))
split_off f below above =
    let flipped : map f (reverse (below ++ above)) ≡ map f (reverse above) ++ map f (reverse below) = ap (map f) (reverse-append below above) ∙ map-append f (reverse above) (reverse below) in
    let long : length above ≡ length (map f (reverse above)) = sym (length-reverse above) ∙ sym (length-map (reverse above) f) in
    (λ i. top_values (long i) [] (flipped i)) ∙ top_values_of (map f (reverse above)) [] (map f (reverse below)) ∙ ap (λ values. (values, map f (reverse below))) (append-nil (reverse (map f (reverse above))) ∙ turned f above)

-- so many of a list, counted from its end
pub counted_off : {A : Type 0} (f : A → Value) (count : ℕ) (xs : List A) → count ≤ length xs → top_values count [] (map f (reverse xs)) ≡ (map f (drop (length xs - count) xs), map f (reverse (take (length xs - count) xs)))
counted_off f count xs l =
    let k = length xs - count in
    let number : count ≡ length (drop k xs) = omega (arith, l, length-drop k xs) in
    (λ i. top_values (number i) [] (map f (reverse (sym (take-append-drop k xs) i)))) ∙ split_off f (take k xs) (drop k xs)

-- ---- tests of all items

all_reversed : {A : Type 0} (test : A → Bool) (xs : List A) → list_all test xs ≡ true → list_all test (reverse xs) ≡ true
all_reversed test [] h = refl
all_reversed test (x ∷ xs) h = ap (list_all test) (reverse-append (x ∷ []) xs) ∙ list_all-append test (reverse xs) (x ∷ []) ∙ both _ _ (all_reversed test xs (both_second (test x) (list_all test xs) h)) (both (test x) true (both_first (test x) (list_all test xs) h) refl)

turned_back : {A : Type 0} (test : A → Bool) (xs : List A) → list_all test (reverse xs) ≡ true → list_all test xs ≡ true
turned_back test xs h = ap (list_all test) (sym (reverse-reverse xs)) ∙ all_reversed test (reverse xs) h

all_taken : {A : Type 0} (test : A → Bool) (n : ℕ) (xs : List A) → list_all test xs ≡ true → list_all test (take n xs) ≡ true
all_taken test zero xs h = refl
all_taken test (suc n) [] h = refl
all_taken test (suc n) (x ∷ xs) h = both _ _ (both_first (test x) (list_all test xs) h) (all_taken test n xs (both_second (test x) (list_all test xs) h))

-- ---- the caller

-- the operands of a group without so many on top
abbrev pub stack_under : {S I : Type 0} → GroupView S I → (count : ℕ) → Conditionals Slot S I
stack_under group count = record (group.top.stack) { conds = take (length group.top.stack.conds - count) group.top.stack.conds }

-- a group that lost them
abbrev pub without_top : {S I : Type 0} → GroupView S I → (count : ℕ) → GroupView S I
without_top group count = record group { top = record (group.top) { stack = stack_under group count } }

AreConds-take : {T S I : Type 0} (cmp : T → T → Ordering) (sets : Sets I) (scope : I) (n : ℕ) (xs : List (Conditional T S I)) → AreConds cmp sets scope xs → AreConds cmp sets scope (take n xs)
AreConds-take cmp sets scope zero xs h = tt
AreConds-take cmp sets scope (suc n) [] h = tt
AreConds-take cmp sets scope (suc n) (x ∷ xs) h = (h.0, h.1, AreConds-take cmp sets scope n xs h.2)

row_taken : {S I : Type 0} (sets : Sets I) (row : Conditionals Slot S I) (n : ℕ) → IsRow slot_cmp sets row → IsRow slot_cmp sets (record row { conds = take n row.conds })
unfolding IsRow
row_taken sets row n v = record { scope_known = v.scope_known; conds = AreConds-take slot_cmp sets row.scope n row.conds v.conds }

-- a plain state has as many frames as its group
state_depth : {S I : Type 0} (sets : Sets I) (heap : HeapView S I) (tree : List (Option (Caller S I))) (group : GroupView S I) (c : List Bool) → IsGroupIn sets tree group → depth (state_at sets heap tree group c) ≡ depth_of group
state_depth sets heap tree group c v =
    let callers = callers_of tree (length group.below) group.caller in
    ap suc (length-map (frames_at sets callers c) (plain_frame sets heap c) ∙ length-map callers (λ frame. frame_at sets frame c)) ∙ stack_depth sets tree group v

module _ {S I : Type 0} (sets : Sets I) (group : GroupView S I) (count : ℕ) (enough : count ≤ length group.top.stack.conds) where
  slots_number : (c : List Bool) → length (slots_at sets group.top.stack c) ≡ length group.top.stack.conds
  slots_number c = ap length (slots_of_conds sets group.top.stack c) ∙ length-map group.top.stack.conds _

  -- the slots that are left
  slots_under : (c : List Bool) → slots_at sets (stack_under group count) c ≡ take (length (slots_at sets group.top.stack c) - count) (slots_at sets group.top.stack c)
  slots_under c =
      let conds = group.top.stack.conds in
      slots_of_conds sets (stack_under group count) c
      ∙ sym (take-map (λ cond. slot_at sets cond c) (length conds - count) conds)
      ∙ (λ i. take (sym (slots_number c) i - count) (sym (slots_of_conds sets group.top.stack c) i))

  -- the slots that are taken off
  slots_over : (c : List Bool) → drop (length (slots_at sets group.top.stack c) - count) (slots_at sets group.top.stack c) ≡ arguments_at sets (top_conds count group.top.stack.conds) c
  slots_over c = sym (last_items count (slots_at sets group.top.stack c) (let number = slots_number c in omega (arith, number, enough))) ∙ top_slots_of sets group count c enough

  -- what the row takes off
  taken_off : (heap : HeapView S I) (c : List Bool) → top_values count [] (map (value_of sets heap c) (operands_at sets group.top.stack c)) ≡ (values_at sets heap (top_conds count group.top.stack.conds) c, map (value_of sets heap c) (operands_at sets (stack_under group count) c))
  taken_off heap c =
      let number = slots_number c in
      counted_off (value_of sets heap c) count (slots_at sets group.top.stack c) (omega (arith, number, enough))
      ∙ (λ i. (map (value_of sets heap c) (slots_over c i), map (value_of sets heap c) (reverse (sym (slots_under c) i))))

  module _ (p : Program) (tree : List (Option (Caller S I))) (heap : HeapView S I) (h : IsHeap sets heap) (s : StandsIn p sets heap tree group) where
    -- both name what is there
    under_held : (c : List Bool) → sets.test (path_of group) c ≡ true → are_held sets heap c (operands_at sets (stack_under group count) c) ≡ true
    under_held c t =
        let slots = slots_at sets group.top.stack c in
        let there = is_held sets heap c in
        all_reversed there (slots_at sets (stack_under group count) c) (ap (list_all there) (slots_under c) ∙ all_taken there (length slots - count) slots (turned_back there slots (operands_held p sets heap tree group s c t)))

    over_held : AreArgumentsHeld sets heap (path_of group) (top_conds count group.top.stack.conds)
    over_held = record {
      held = λ c t.
          let there = is_held sets heap c in
          let operands = operands_at sets group.top.stack c in
          ap (list_all there) (sym (top_slots_of sets group count c enough)) ∙ all_reversed there (take count operands) (all_taken there count operands (operands_held p sets heap tree group s c t));
    }

    caller_continues : Continues p sets sets heap tree group (without_top group count)
    caller_continues =
        let alone = IsGroupIn-group sets tree group s.is_group in
        let row = row_taken sets group.top.stack (length group.top.stack.conds - count) (IsFrame-stack sets group.top (IsGroup-top sets group alone)) in
        Continues-moved p tree (Extends-refl sets) heap h group (stack_under group count) group.top.position (operands_at sets (stack_under group count)) s row (stack_scope sets group alone) (λ c t. refl) under_held

  -- the caller is a group over the same tree
  pub caller_group : (tree : List (Option (Caller S I))) (caller : GroupView S I) → caller ≡ without_top group count → IsGroupIn sets tree group → IsGroupIn sets tree caller
  caller_group tree caller e v =
      let alone = IsGroupIn-group sets tree group v in
      let row = row_taken sets group.top.stack (length group.top.stack.conds - count) (IsFrame-stack sets group.top (IsGroup-top sets group alone)) in
      let moved = IsGroup-moved (Extends-refl sets) group (stack_under group count) group.top.position alone row (stack_scope sets group alone) in
      let P : GroupView S I → Type 0 = λ g. IsGroupIn sets tree g in
      subst P (sym e) (IsGroupIn-same_callers tree (Extends-refl sets) group (without_top group count) v moved refl refl (λ c t. t))

  -- whose path is that of the group
  pub caller_arguments : (most : ℕ) (caller : GroupView S I) (values : List (Conditional Slot S I)) → caller ≡ without_top group count → values ≡ top_conds count group.top.stack.conds → AreArguments sets (path_of group) most (top_conds count group.top.stack.conds) → AreArguments sets (path_of caller) most values
  caller_arguments most caller values e taken a =
      let Of : GroupView S I → Type 0 = λ g. AreArguments sets (path_of g) most values in
      let With : List (Conditional Slot S I) → Type 0 = λ vs. AreArguments sets (path_of group) most vs in
      subst Of (sym e) (subst With (sym taken) a)

  -- ---- the row

  module _ (site : Site) (method : MethodId) (heap : HeapView S I) where
    -- the method is entered
    entered_row : (tree : List (Option (Caller S I))) (c : List Bool) → IsGroupIn sets tree group → depth_of group < frame_bound → called_with site count (Enter method) (state_at sets heap tree group c) ≡ Go (state_in_callee (here site (state_at sets heap tree group c)) method.0 (values_at sets heap (top_conds count group.top.stack.conds) c) (map (value_of sets heap c) (operands_at sets (stack_under group count) c)))
    entered_row tree c v few =
        let s = state_at sets heap tree group c in
        let parts = top_values count [] s.top.operands in
        let number = state_depth sets heap tree group c v in
        ap (λ b. when b (Go (state_in_callee (here site s) method.0 parts.0 parts.1)) (raise (here site s) "java/lang/StackOverflowError")) (lt-ltb (depth s) frame_bound (omega (arith, number, few)))
        ∙ ap (λ (vs : List Value × List Value). Go (state_in_callee (here site s) method.0 vs.0 vs.1)) (taken_off heap c)

    pub enter-gives : (tree later : List (Option (Caller S I))) (caller after : GroupView S I) (values : List (Conditional Slot S I)) (outcomes : List (Outcome S I)) → depth_of group < frame_bound → caller ≡ without_top group count → values ≡ top_conds count group.top.stack.conds → IsEntered site.program.now sets tree later caller CallKind method values after → outcomes ≡ shared.Go after ∷ [] → GivesIn site.program.now (λ _ _. called_with site count (Enter method)) sets sets tree later group outcomes heap
    enter-gives tree later caller after values outcomes few left taken entered made h s =
        let p = site.program.now in
        let moved = without_top group count in
        let tops = top_conds count group.top.stack.conds in
        let Of : GroupView S I → Type 0 = λ g. IsEntered p sets tree later g CallKind method values after in
        let With : List (Conditional Slot S I) → Type 0 = λ vs. IsEntered p sets tree later moved CallKind method vs after in
        let e : IsEntered p sets tree later moved CallKind method tops after = subst With taken (subst Of left entered) in
        let first = caller_continues p tree heap h s in
        let second = e.continues heap first.stands (over_held p tree heap h s) in
        let what : List Bool → PlainOutcome = λ c. called_with site count (Enter method) (state_at sets heap tree group c) in
        let state = λ (c : List Bool). state_at-moved p tree (Extends-refl sets) heap h group (stack_under group count) group.top.position s c (operands_at sets (stack_under group count) c) refl in
        let P : List (Outcome S I) → Type 0 = λ xs. CameTo p sets sets heap later group what (sets.test (path_of group)) xs in
        subst P (sym made) (CameTo-one p sets sets heap later group what (sets.test (path_of group)) (shared.Go after) (Continues-trans p sets sets sets heap heap later tree group moved after first second) (λ c. ap (λ (cond : Conditional ℕ S I). sets.test cond.scope c) e.attempts) (λ c t.
        ap Go (e.at heap c t ∙ ap (λ st. with_frame st (new_frame p CallKind method.0 (in_locals (values_at sets heap tops c)))) (state c)) ∙ sym (entered_row tree c s.is_group few)))

    -- there is one frame too many
    pub full-gives : (tree : List (Option (Caller S I))) (outcomes : List (Outcome S I)) → frame_bound ≤ depth_of group → GivesIn site.program.now (λ _ _ s. raise (here site s) "java/lang/StackOverflowError") sets sets tree tree group outcomes heap → GivesIn site.program.now (λ _ _. called_with site count (Enter method)) sets sets tree tree group outcomes heap
    full-gives tree outcomes many raised h s =
        let overflow : List Bool → PlainOutcome = λ c. raise (here site (state_at sets heap tree group c)) "java/lang/StackOverflowError" in
        let what : List Bool → PlainOutcome = λ c. called_with site count (Enter method) (state_at sets heap tree group c) in
        CameTo-same site.program.now sets sets heap tree group overflow what (sets.test (path_of group)) (sets.test (path_of group)) outcomes (λ c. refl) (λ c t.
        let state = state_at sets heap tree group c in
        let parts = top_values count [] state.top.operands in
        let number = state_depth sets heap tree group c s.is_group in
        ap (λ b. when b (Go (state_in_callee (here site state) method.0 parts.0 parts.1)) (raise (here site state) "java/lang/StackOverflowError")) (sym (le-ltb (depth state) frame_bound (omega (arith, number, many))))) (raised h s)

-- ---- native methods

-- a native method is left to be carried out
pub native-gives : {S I : Type 0} (p : Program) (sets : Sets I) (group : GroupView S I) (method : MethodId) (start outcomes : List (Outcome S I)) → start ≡ [] → outcomes ≡ start ++ shared.Native group method ∷ [] → Gives p (λ s. Native method.0 s) sets sets group outcomes
native-gives {S = S} {I = I} p sets group method start outcomes none made heap tree h s =
    let P : List (Outcome S I) → Type 0 = λ xs. CameTo p sets sets heap tree group (λ c. Native method.0 (state_at sets heap tree group c)) (sets.test (path_of group)) xs in
    subst P (sym (made ∙ (λ i. none i ++ shared.Native group method ∷ []))) (CameTo-one p sets sets heap tree group _ (sets.test (path_of group)) (shared.Native group method) (Continues-same p tree (Extends-refl sets) heap h group s) (λ c. refl) (λ c t. refl))
