-- A call on an object: from what it comes to at each configuration where the arguments fit to its row.
use Rattle.std.proofs.Common.{◌≡◌, ◌<◌, ◌≤◌, ℕ, suc, Bool, true, false, List, [], ◌&&◌, Option, Some, None, refl, sym, ◌∙◌, ap, arith, drop, length, map, reverse, take}
use Rattle.std.proofs.lemmas.List.{length-map}
use Rattle.std.specs.Prelude.{is_some}
use Rattle.vx_cond.specs.Cond.{Conditional, IsCond, IsInside, cond_at}
use Rattle.vx_cond.proofs.SideLaws.{cond_at-covers}
use Rattle.vx_desc.specs.declared.java_type.JavaType.{JavaType}
use Rattle.vx_frames.specs.Entering.{is_long}
use Rattle.vx_frames.specs.Giving.{GivesIn}
use Rattle.vx_group.specs.declared.callers.Caller.{Caller}
use Rattle.vx_group.specs.Group.{GroupView, IsGroup, path_of}
use Rattle.vx_group.proofs.GroupLaws.{IsGroup-path_known, IsGroupIn-group}
use Rattle.vx_group_states.specs.Answering.{operands_at}
use Rattle.vx_group_states.specs.Sites.{Gives, here}
use Rattle.vx_group_states.specs.Stands.{state_at}
use Rattle.vx_group_states.specs.declared.site.Site.{Site}
use Rattle.vx_group_states.proofs.KindLaws.{some_same}
use Rattle.vx_group_states.proofs.Operands.{item_held, length-operands}
use Rattle.vx_group_states.proofs.StateLaws.{both_first, both_second, operands_held}
use Rattle.vx_heap.specs.Heap.{HeapView, is_held, value_of}
use Rattle.vx_java.specs.Calls.{call_instance}
use Rattle.vx_java.specs.Machine.{State, Value, illegal, illegal_in, when}
use Rattle.vx_link.specs.Names.{Member}
use Rattle.vx_link.specs.Signature.{signature}
use Rattle.vx_list.specs.Places.{item_or}
use Rattle.vx_outcome.specs.declared.outcome.Outcome.{Outcome}
use Rattle.vx_ready.proofs.Going.{operands_later}
use Rattle.vx_space.specs.Sets.{Extends, IsSet, Sets}
use Rattle.vx_space.proofs.Spaces.{Extends-refl, Extends-trans}
use Rattle.vx_value.specs.declared.ids.MethodId.{MethodId}
use Rattle.vx_value.specs.declared.slot.Slot.{Slot}
use Rattle.vx_value.specs.declared.slot.Slot.TheVariants.{Top}
use Rattle.vx_frames.proofs.GivingLaws.{GivesIn-before}
use Rattle.vx_invoke.proofs.Receivers.{IsEnteredOn, call_there, match_is_fit, object_enters, object_room, receiver_under}
use Rattle.vx_invoke.proofs.Rows.{call_at, called_here, few_operands, instance_row}
use Rattle.vx_invoke.specs.Arguments.{arguments_fit, slots_fit}
use Rattle.vx_invoke.specs.Called.{call_of}
use Rattle.vx_invoke.specs.Calling.{IsCalling, IsMemberOf, MatchCalls, operand_at, where_called}
use Rattle.vx_invoke.specs.Calls.{call_cmp}
use Rattle.vx_invoke.specs.declared.call.Call.{Call}
use Rattle.vx_invoke.specs.declared.call.Call.TheVariants.{Enter}
use Rattle.vx_invoke.specs.declared.target.Target.{Target}

none_of : {T : Type 0} (o : Option T) → is_some o ≡ false → o ≡ None
none_of None h = refl
none_of (Some v) h = cc

module _ {S I : Type 0} (site : Site) {s0 : Sets I} (heap : HeapView S I) (tree : List (Option (Caller S I))) (group : GroupView S I) (target : Target) (types : List JavaType) (calling : IsCalling site s0 heap tree group target types) where
  alone : IsGroup s0 group
  alone = IsGroupIn-group s0 tree group calling.callable.stands.is_group

  -- the name has these arguments
  types_are : (m : Member) → IsMemberOf site.program.now group target m → (signature m.descriptor).arguments ≡ types
  types_are m member = ap (λ (text : List ℕ). (signature text).arguments) (sym member.descriptor) ∙ calling.types

  -- the operands of the plain state
  operand_count : (c : List Bool) → length (state_at s0 heap tree group c).top.operands ≡ length group.top.stack.conds
  operand_count c = length-map (operands_at s0 group.top.stack c) (value_of s0 heap c) ∙ length-operands s0 group.top.stack c

  -- there are too few operands
  pub few-gives : (m : Member) → IsMemberOf site.program.now group target m → length group.top.stack.conds < suc (length types) → (outcomes : List (Outcome S I)) → Gives site.program.now (illegal_in site.program.now) s0 s0 group outcomes → GivesIn site.program.now (λ _ _ s. call_instance (here site s) target.mode m target.named.0 target.resolved.0) s0 s0 tree tree group outcomes heap
  few-gives m member few outcomes gives =
      GivesIn-before site.program.now s0 tree tree group heap (λ _ _. illegal_in site.program.now) (λ _ _ s. call_instance (here site s) target.mode m target.named.0 target.resolved.0) outcomes (Extends-refl s0) (λ h s c t.
      let number = operand_count c in
      sym (few_operands (here site (state_at s0 heap tree group c)) target.mode m target.named.0 target.resolved.0 types (types_are m member) (omega (arith, few, number)))) (gives heap tree)

  -- where the arguments fit it is in the group
  pub matching_inside : {s1 : Sets I} (matching : I) → Extends s0 s1 → IsSet s1 matching (λ c. s0.test (path_of group) c && arguments_fit s0 group types c) → IsInside s1 matching (path_of group)
  matching_inside matching e n = record { inside = λ c t. e.test (path_of group) c (IsGroup-path_known s0 group alone) ∙ both_first (s0.test (path_of group) c) _ (sym (n.test c) ∙ t) }

  module _ {s1 s2 : Sets I} (count : ℕ) (matching : I) (calls : Conditional Call S I) (number : suc (length types) ≡ count) (enough : count ≤ length group.top.stack.conds) (e01 : Extends s0 s1) (n : IsSet s1 matching (λ c. s0.test (path_of group) c && arguments_fit s0 group types c)) (e12 : Extends s1 s2) (v : IsCond call_cmp s2 calls) (scope : calls.scope ≡ matching) (at : (c : List Bool) → s1.test matching c ≡ true → cond_at s2 calls c ≡ Some (call_of site.program.now heap target (operand_at s1 group (length types) c))) where
    scope_test : (c : List Bool) → s2.test calls.scope c ≡ s1.test matching c
    scope_test c = ap (λ i. s2.test i c) scope ∙ e12.test matching c n.known

    -- inside the scope the arguments fit
    inside_scope : (c : List Bool) → s2.test calls.scope c ≡ true → (s0.test (path_of group) c && arguments_fit s0 group types c) ≡ true
    inside_scope c t = sym (scope_test c ∙ n.test c) ∙ t

    call_is : (c : List Bool) → s1.test matching c ≡ true → cond_at s2 calls c ≡ Some (call_of site.program.now heap target (operand_at s0 group (length types) c))
    call_is c t = at c t ∙ ap (λ (slots : List Slot). Some (call_of site.program.now heap target (item_or slots (length types) Top))) (operands_later e01 group alone c)

    enters : (c : List Bool) (m : MethodId) → cond_at s2 calls c ≡ Some (Enter m) → (is_long (operand_at s0 group (length types) c) ≡ false) × IsEnteredOn site.program.now target m.0
    enters c m h =
        let there : s2.test calls.scope c ≡ true = sym (cond_at-covers call_cmp s2 calls v c) ∙ ap is_some h in
        object_enters site.program.now heap target (operand_at s0 group (length types) c) m calling.of_object (some_same _ _ (sym (call_is c (sym (scope_test c) ∙ there)) ∙ h))

    pub object_enter : MatchCalls site.program.now s2 group count calls
    object_enter =
        let e02 = Extends-trans e01 e12 in
        record {
          types = types;
          number = number;
          enough = enough;
          inside = record { inside = λ c t. e02.test (path_of group) c (IsGroup-path_known s0 group alone) ∙ both_first (s0.test (path_of group) c) _ (inside_scope c t) };
          room = λ c m h. object_room site.program.now target m.0 types calling.callable.bounded calling.of_object calling.types (enters c m h).1;
          short = λ c m h. ap (λ (slots : List Slot). is_long (item_or slots (length types) Top)) (operands_later e02 group alone c) ∙ (enters c m h).0;
          fit = λ c t. ap (λ (slots : List Slot). slots_fit types (reverse (take (length types) slots))) (operands_later e02 group alone c) ∙ both_second (s0.test (path_of group) c) _ (inside_scope c t);
        }

    -- at one configuration of the group
    module _ (m : Member) (member : IsMemberOf site.program.now group target m) (c : List Bool) (t : s0.test (path_of group) c ≡ true) where
      abbrev state : State
      state = state_at s0 heap tree group c

      abbrev receiver : Value
      receiver = value_of s0 heap c (operand_at s0 group (length types) c)

      held : is_held s0 heap c (operand_at s0 group (length types) c) ≡ true
      held = item_held s0 heap c (operands_at s0 group.top.stack c) (length types) (operands_held site.program.now s0 heap tree group calling.callable.stands c t)

      by_fit : (b : Bool) → arguments_fit s0 group types c ≡ b → where_called site count (cond_at s2 calls c) state ≡ when b (called_here (here site state) (suc (length types)) state.top.operands (call_at (here site state) target receiver)) (illegal (here site state))
      by_fit true fit =
          let there : s1.test matching c ≡ true = n.test c ∙ (λ i. t i && fit i) in
          ap (λ o. where_called site count o state) (call_is c there ∙ ap Some (call_there s0 heap c (here site state) target (operand_at s0 group (length types) c) refl held))
          ∙ ap (λ k. called_here (here site state) k state.top.operands (call_at (here site state) target receiver)) (sym number)
      by_fit false fit =
          let outside : s2.test calls.scope c ≡ false = scope_test c ∙ n.test c ∙ (λ i. t i && fit i) in
          ap (λ o. where_called site count o state) (none_of (cond_at s2 calls c) (cond_at-covers call_cmp s2 calls v c ∙ outside))

      called_row : where_called site count (cond_at s2 calls c) state ≡ call_instance (here site state) target.mode m target.named.0 target.resolved.0
      called_row =
          let slots = operands_at s0 group.top.stack c in
          let value = value_of s0 heap c in
          let plain = operand_count c in
          let there = length-operands s0 group.top.stack c in
          let few : length types < length slots = omega (arith, number, enough, there) in
          by_fit (arguments_fit s0 group types c) refl
          ∙ sym (instance_row (here site state) target.mode m target types receiver (map value (drop (suc (length types)) slots)) (arguments_fit s0 group types c) refl member.target (types_are m member) (omega (arith, number, enough, plain)) (receiver_under value (length types) [] slots few) (match_is_fit s0 heap c types slots (omega (arith, few))))

    -- all of the group
    pub object-gives : (s3 : Sets I) (later : List (Option (Caller S I))) (m : Member) → IsMemberOf site.program.now group target m → (outcomes : List (Outcome S I)) → GivesIn site.program.now (λ _ c. where_called site count (cond_at s2 calls c)) s2 s3 tree later group outcomes heap → GivesIn site.program.now (λ _ _ s. call_instance (here site s) target.mode m target.named.0 target.resolved.0) s0 s3 tree later group outcomes heap
    object-gives s3 later m member outcomes gives = GivesIn-before site.program.now s3 tree later group heap (λ _ c. where_called site count (cond_at s2 calls c)) (λ _ _ s. call_instance (here site s) target.mode m target.named.0 target.resolved.0) outcomes (Extends-trans e01 e12) (λ h s c t. called_row m member c t) gives
