-- The receiver of a call: the operand under its arguments. What the call comes to by its slot is what it comes to by the plain value, and what that tells of the method.
use Rattle.std.proofs.Common.{◌≡◌, ◌<◌, ◌≤◌, ◌+◌, ◌-◌, ℕ, zero, suc, Bool, true, false, List, [], ◌∷◌, ◌++◌, Option, Some, None, refl, sym, ◌∙◌, ap, subst, arith, drop, length, map, reverse, take}
use Rattle.std.proofs.lemmas.List.{append-nil, map-append, reverse-append}
use Rattle.std.specs.Prelude.{◌&&◌, if◌then◌else◌, is_some, not, option_map, slice_get, sum_by}
use Rattle.vx_class.specs.Members.{STATIC}
use Rattle.vx_cond.specs.Cond.{Conditional, IsCond, IsCondLifting, IsCondOf, IsInside, cond_at}
use Rattle.vx_cond.specs.Leaves.{IsLifted, value_within}
use Rattle.vx_cond.specs.Slots.{or_top}
use Rattle.vx_cond.proofs.CondLaws.{cond_at-of}
use Rattle.vx_cond.proofs.RowSteps.{IsRow-get}
use Rattle.vx_cond.proofs.SideLaws.{cond_at-covers}
use Rattle.vx_desc.specs.Descriptors.{slots_of}
use Rattle.vx_desc.specs.declared.java_type.JavaType.{JavaType}
use Rattle.vx_families.specs.Bounds.{IsBounded, argument_words}
use Rattle.vx_frame.proofs.FrameLaws.{IsFrame-stack}
use Rattle.vx_frames.proofs.ClassLaws.{class_there}
use Rattle.vx_frames.specs.Entering.{is_long}
use Rattle.vx_group.specs.Group.{GroupView, IsGroup, path_of}
use Rattle.vx_group.proofs.GroupLaws.{IsGroup-top}
use Rattle.vx_group_states.proofs.Operands.{operand_there}
use Rattle.vx_group_states.proofs.SettleLaws.{lifting_at, stack_scope}
use Rattle.vx_heap.specs.Heap.{HeapView, is_held, objects_at, value_of}
use Rattle.vx_heap.proofs.Written.{restricted_scope}
use Rattle.vx_java.specs.Calls.{top_values, values_matching}
use Rattle.vx_java.specs.Initialisation.{max_locals}
use Rattle.vx_java.specs.Machine.{Here, Value}
use Rattle.vx_java.specs.Selection.{selected_if_concrete}
use Rattle.vx_java.specs.declared.selected.Selected.{Selected}
use Rattle.vx_java.specs.declared.selected.Selected.TheVariants.{Abstract, Conflict, Method}
use Rattle.vx_link.specs.Assignability.{assignable}
use Rattle.vx_link.specs.Parts.{has, method_at}
use Rattle.vx_link.specs.Signature.{signature}
use Rattle.vx_link.specs.declared.program.Program.{Program}
use Rattle.vx_list.specs.Places.{item_or}
use Rattle.vx_space.specs.Sets.{Extends, IsLawful, Sets}
use Rattle.vx_value.specs.Slot.{slot_cmp}
use Rattle.vx_value.specs.declared.ids.ClassId.{ClassId}
use Rattle.vx_value.specs.declared.ids.MethodId.{MethodId}
use Rattle.vx_value.specs.declared.slot.Slot.{Slot}
use Rattle.vx_value.specs.declared.slot.Slot.TheVariants.{Top, Int, Long, Null, Ref, Text}
use Rattle.vx_invoke.proofs.Rooms.{fit_is_match, words_fit}
use Rattle.vx_invoke.proofs.Rows.{call_at}
use Rattle.vx_invoke.proofs.Selections.{concrete_is, target_like}
use Rattle.vx_invoke.specs.Arguments.{IsLike, slots_fit}
use Rattle.vx_invoke.specs.Called.{accepts, by_selected, call_of, call_on, call_on_some, selected_by}
use Rattle.vx_invoke.specs.Calling.{operand_at}
use Rattle.vx_invoke.specs.Calls.{call_cmp}
use Rattle.vx_invoke.specs.declared.call.Call.{Call}
use Rattle.vx_invoke.specs.declared.call.Call.TheVariants.{Enter, Illegal, Missing, Native, WrongKind}
use Rattle.vx_invoke.specs.declared.target.Target.{Target}

pub call_there : {S I : Type 0} (sets : Sets I) (heap : HeapView S I) (c : List Bool) (h : Here) (target : Target) (slot : Slot) → h.state.heap ≡ objects_at sets heap c → is_held sets heap c slot ≡ true → call_of h.program heap target slot ≡ call_at h target (value_of sets heap c slot)
call_there sets heap c h target Top e held = refl
call_there sets heap c h target (Int n) e held = refl
call_there sets heap c h target (Long n) e held = refl
call_there sets heap c h target Null e held = refl
call_there sets heap c h target (Text n) e held = refl
call_there sets heap c h target (Ref i) e held = ap (λ (o : Option ClassId). call_on_some h.program target (option_map (λ class. class.0) o)) (class_there sets heap c i h.state.heap e held)

-- ---- its conditional value

module _ {S I : Type 0} (sets : Sets I) (group : GroupView S I) (count : ℕ) (x : Conditional Slot S I) (v : IsGroup sets group) (enough : count < length group.top.stack.conds) (at : Some x ≡ slice_get group.top.stack.conds (length group.top.stack.conds - suc count)) where
  pub receiver_cond : IsCond slot_cmp sets x
  receiver_cond = (IsRow-get slot_cmp sets group.top.stack (length group.top.stack.conds - suc count) x (IsFrame-stack sets group.top (IsGroup-top sets group v)) at).0

  receiver_scope : x.scope ≡ path_of group
  receiver_scope = (IsRow-get slot_cmp sets group.top.stack (length group.top.stack.conds - suc count) x (IsFrame-stack sets group.top (IsGroup-top sets group v)) at).1 ∙ stack_scope sets group v

  receiver_there : (c : List Bool) → sets.test (path_of group) c ≡ true → cond_at sets x c ≡ Some (operand_at sets group count c)
  receiver_there c t =
      there (cond_at sets x c) (cond_at-covers slot_cmp sets x receiver_cond c ∙ ap (λ i. sets.test i c) receiver_scope ∙ t)
      ∙ ap Some (sym (operand_there sets group.top.stack (length group.top.stack.conds - suc count) count x c at (omega (arith, enough))))
    where
      there : (o : Option Slot) → is_some o ≡ true → o ≡ Some (or_top o)
      there None h = cc
      there (Some slot) h = refl

  -- what a call comes to by it, inside a path
  module _ {s1 : Sets I} (s2 : Sets I) (R : Slot → Call → Type 0) (call : Slot → Call) (inside : Conditional Slot S I) (calls : Conditional Call S I) (path : I) (i : IsInside sets path (path_of group)) (k : sets.is_known path ≡ true) (e : Extends sets s1) (w : IsCondOf slot_cmp s1 (value_within sets path (cond_at sets x)) inside) (l : IsCondLifting call_cmp s2 R (cond_at s1 inside) calls) where
    pub calls_scope : IsLawful s1 → calls.scope ≡ inside.scope → calls.scope ≡ path
    calls_scope lawful s = s ∙ restricted_scope slot_cmp lawful e x inside path receiver_cond k (record { inside = λ c t. ap (λ j. sets.test j c) receiver_scope ∙ i.inside c t }) w

    pub calls_at : ((slot : Slot) (made : Call) → R slot made → made ≡ call slot) → (c : List Bool) → sets.test path c ≡ true → cond_at s2 calls c ≡ Some (call (operand_at sets group count c))
    calls_at law c t = lifted (cond_at s1 inside c) (cond_at s2 calls c) (operand_at sets group count c) (cond_at-of slot_cmp s1 _ inside c w ∙ within (sets.test path c) (cond_at sets x c) t ∙ receiver_there c (i.inside c t)) (lifting_at call_cmp s2 R (cond_at s1 inside) calls l c)
      where
        within : {T : Type 0} (b : Bool) (o : Option T) → b ≡ true → (if b then o else None) ≡ o
        within b o h = rw h refl

        lifted : (a : Option Slot) (b : Option Call) (slot : Slot) → a ≡ Some slot → IsLifted R a b → b ≡ Some (call slot)
        lifted None b slot h m = cc
        lifted (Some a) None slot h m = absurd m
        lifted (Some a) (Some b) slot h m =
            let same : a ≡ slot = cc in
            ap Some (law a b m ∙ ap call same)

-- ---- a call that enters a method

abbrev number_of : Call → ℕ
number_of (Enter m) = m.0
number_of _ = 0

entered_by : (p : Program) (n : ℕ) (m : MethodId) (code unbound : Bool) → (if code then Enter (record { 0 = n }) else if unbound then Missing (record { 0 = n }) else Native (record { 0 = n })) ≡ Enter m → (n ≡ m.0) × (code ≡ true)
entered_by p n m true unbound h = (ap number_of h, refl)
entered_by p n m false true h = cc
entered_by p n m false false h = cc

-- it is the method that was selected, and has code
pub selection_enters : (p : Program) (P : ℕ → Type 0) (s : Selected) (m : MethodId) → ((k : MethodId) → s ≡ Method k → P k.0) → by_selected p s ≡ Enter m → P m.0 × (is_some (method_at p m.0).code ≡ true)
selection_enters p P (Method k) m f h =
    let found = entered_by p k.0 m (is_some (method_at p k.0).code) _ h in (
      subst P found.0 (f k refl),
      subst (λ n. is_some (method_at p n).code ≡ true) found.0 found.1,
    )
selection_enters p P Abstract m f h = cc
selection_enters p P Conflict m f h = cc

-- a static method is entered as it is resolved
pub static_enters : (p : Program) (resolved : ℕ) (m : MethodId) → by_selected p (selected_if_concrete p resolved) ≡ Enter m → (resolved ≡ m.0) × (is_some (method_at p m.0).code ≡ true)
static_enters p resolved m h = selection_enters p (λ n. resolved ≡ n) (selected_if_concrete p resolved) m (concrete_is p resolved) h

-- what is known of a method that is entered on an object
abbrev pub IsEnteredOn : Program → Target → ℕ → Type 0
IsEnteredOn p target m = IsLike p target.resolved.0 m × (is_some (method_at p m).code ≡ true)

on_class : (p : Program) (target : Target) (class : ℕ) (m : MethodId) → has STATIC (method_at p target.resolved.0).flags ≡ false → call_on p target class ≡ Enter m → IsEnteredOn p target m.0
on_class p target class m s h = selection_enters p (IsLike p target.resolved.0) (selected_by target.mode p target class) m (λ k e. target_like p target class k s e) (goes_on (accepts p target class) (target.by_interface && not (assignable p class target.named.0)) (by_selected p (selected_by target.mode p target class)) h)
  where
    goes_on : (a w : Bool) (call : Call) → (if not a then Illegal else if w then WrongKind else call) ≡ Enter m → call ≡ Enter m
    goes_on true true call h = cc
    goes_on true false call h = h
    goes_on false w call h = cc

-- the receiver is an object then, and the method is like the one that is resolved
pub object_enters : {S I : Type 0} (p : Program) (heap : HeapView S I) (target : Target) (slot : Slot) (m : MethodId) → has STATIC (method_at p target.resolved.0).flags ≡ false → call_of p heap target slot ≡ Enter m → (is_long slot ≡ false) × IsEnteredOn p target m.0
object_enters p heap target Top m s h = cc
object_enters p heap target (Int n) m s h = cc
object_enters p heap target (Long n) m s h = cc
object_enters p heap target Null m s h = cc
object_enters p heap target (Text n) m s h = cc
object_enters p heap target (Ref i) m s h = (refl, by_class (option_map (λ class. class.0) (option_map (λ o. o.class) (slice_get heap.objects i))) h)
  where
    by_class : (o : Option ℕ) → call_on_some p target o ≡ Enter m → IsEnteredOn p target m.0
    by_class None h = cc
    by_class (Some class) h = on_class p target class m s h

-- it has locals for the receiver and the arguments
pub object_room : (p : Program) (target : Target) (m : ℕ) (types : List JavaType) → IsBounded p → has STATIC (method_at p target.resolved.0).flags ≡ false → (signature (method_at p target.resolved.0).descriptor).arguments ≡ types → IsEnteredOn p target m → suc (sum_by slots_of types) ≤ max_locals (method_at p m).code
object_room p target m types b s d entered =
    let fit = words_fit p m b entered.1 in
    let words : argument_words (method_at p m) ≡ sum_by slots_of types + 1 = (λ i. sum_by slots_of (signature (entered.0.descriptor i)).arguments + (if (entered.0.static ∙ s) i then 0 else 1)) ∙ ap (λ ts. sum_by slots_of ts + 1) d in
    omega (arith, fit, words)

-- and a static one for the arguments
pub static_room : (p : Program) (m : ℕ) (types : List JavaType) → IsBounded p → has STATIC (method_at p m).flags ≡ true → (signature (method_at p m).descriptor).arguments ≡ types → is_some (method_at p m).code ≡ true → sum_by slots_of types ≤ max_locals (method_at p m).code
static_room p m types b s d code =
    let fit = words_fit p m b code in
    let words : argument_words (method_at p m) ≡ sum_by slots_of types + 0 = (λ i. sum_by slots_of (d i) + (if s i then 0 else 1)) in
    omega (arith, fit, words)

-- ---- the plain operands

joined : (xs : List Value) (v : Value) (ys : List Value) → (xs ++ v ∷ []) ++ ys ≡ xs ++ v ∷ ys
joined [] v ys = refl
joined (x ∷ xs) v ys = ap (λ zs. x ∷ zs) (joined xs v ys)

taken_from : (f : Slot → Value) (n : ℕ) (taken : List Value) (slots : List Slot) → n ≤ length slots → (top_values n taken (map f slots)).0 ≡ map f (reverse (take n slots)) ++ taken
taken_from f zero taken slots l = refl
taken_from f (suc n) taken [] l = absurd (omega (arith, l))
taken_from f (suc n) taken (slot ∷ slots) l =
    taken_from f n (f slot ∷ taken) slots (omega (arith, l))
    ∙ sym (joined (map f (reverse (take n slots))) (f slot) taken)
    ∙ ap (λ vs. vs ++ taken) (sym (ap (map f) (reverse-append (slot ∷ []) (take n slots)) ∙ map-append f (reverse (take n slots)) (slot ∷ [])))

-- the plain values on top match types where the slots on top fit them
pub match_is_fit : {S I : Type 0} (sets : Sets I) (heap : HeapView S I) (c : List Bool) (types : List JavaType) (slots : List Slot) → length types ≤ length slots → is_some (values_matching types (top_values (length types) [] (map (value_of sets heap c) slots)).0) ≡ slots_fit types (reverse (take (length types) slots))
match_is_fit sets heap c types slots l =
    let top = reverse (take (length types) slots) in
    ap (λ vs. is_some (values_matching types vs)) (taken_from (value_of sets heap c) (length types) [] slots l ∙ append-nil (map (value_of sets heap c) top))
    ∙ sym (fit_is_match sets heap c types top)

-- and under so many of them stands the receiver
pub receiver_under : (f : Slot → Value) (n : ℕ) (taken : List Value) (slots : List Slot) → n < length slots → (top_values n taken (map f slots)).1 ≡ f (item_or slots n Top) ∷ map f (drop (suc n) slots)
receiver_under f n taken [] l = absurd (omega (arith, l))
receiver_under f zero taken (slot ∷ slots) l = refl
receiver_under f (suc n) taken (slot ∷ slots) l = receiver_under f n (f slot ∷ taken) slots (omega (arith, l))
