-- From the copies at each configuration of a group to the attempt.
use Rattle.std.proofs.Common.{◌≡◌, ◌-◌, ◌<◌, ◌^◌, ℕ, Bool, true, false, List, [], ◌∷◌, refl, sym, ◌∙◌, ap, arith, drop, length, map, subst}
use Rattle.std.proofs.lemmas.List.{length-map}
use Rattle.std.specs.Prelude.{◌&&◌, Option, Some, if◌then◌else◌, slice_get}
use Rattle.vx_cells.specs.Making.{AreAllMade, Breaks, Makes, made_row}
use Rattle.vx_cells.proofs.Making.{making-attempts, making-ready}
use Rattle.vx_cond.specs.Cond.{Conditional, IsCond}
use Rattle.vx_cond.specs.Slots.{slot_at}
use Rattle.vx_families.specs.Attempts.{AttemptsBy}
use Rattle.vx_ready.proofs.Given.{AttemptsBy-stays}
use Rattle.vx_families.specs.Sorts.{top_of}
use Rattle.vx_ready.proofs.Tops.{below_top, top_is, top_is_cond, top_operands, top_scope}
use Rattle.vx_frame.specs.declared.frame.Frame.{Frame}
use Rattle.vx_group.specs.Group.{GroupView, path_of}
use Rattle.vx_group.specs.declared.callers.Caller.{Caller}
use Rattle.vx_group_states.specs.Answering.{AreHeld, IsReady, answered_by, operands_at}
use Rattle.vx_group_states.specs.Sites.{Gives, GivesAt, here}
use Rattle.vx_group_states.specs.Stands.{state_at}
use Rattle.vx_group_states.specs.declared.answer.Answer.{Answer}
use Rattle.vx_group_states.specs.declared.site.Site.{Site}
use Rattle.vx_group_states.proofs.Operands.{item_held, length-operands}
use Rattle.vx_heap.specs.Changing.{IsValueHeld}
use Rattle.vx_heap.specs.Heap.{HeapView, is_held, value_of}
use Rattle.vx_java.specs.Calls.{clone_array, is_receiver, on_receiver}
use Rattle.vx_java.specs.Checks.{is_instance_of, is_object, is_of, non_null}
use Rattle.vx_java.specs.Machine.{Here, State, Value, illegal, illegal_in, object_at, push_new, when}
use Rattle.vx_java.specs.Machine.{Int as IntValue, Long as LongValue, Null as NullValue, Ref as RefValue, Text as TextValue, Top as TopValue}
use Rattle.vx_java.specs.Machine.{Outcome as PlainOutcome}
use Rattle.vx_java.specs.declared.operation.Mode.{Mode}
use Rattle.vx_java.specs.declared.operation.Mode.TheVariants.{Interface, Special, Static, Virtual}
use Rattle.vx_java.specs.declared.operation.Sort.TheVariants.{Reference}
use Rattle.vx_link.specs.ClassNames.{is_array}
use Rattle.vx_link.specs.Names.{Member}
use Rattle.vx_list.specs.Places.{item_or}
use Rattle.vx_outcome.specs.declared.outcome.Outcome.{Outcome}
use Rattle.vx_ready.specs.Running.{IsRunning}
use Rattle.vx_references.specs.Calls.{IsSound}
use Rattle.vx_references.specs.declared.calls.MethodReference.TheVariants.{Clone}
use Rattle.vx_space.specs.Sets.{Extends, Sets}
use Rattle.vx_space.proofs.Spaces.{Extends-refl}
use Rattle.vx_value.specs.Slot.{slot_cmp}
use Rattle.vx_value.specs.declared.ids.ClassId.{ClassId}
use Rattle.vx_value.specs.declared.slot.Slot.{Slot}
use Rattle.vx_value.specs.declared.slot.Slot.TheVariants.{Top}
use Rattle.vx_copy.specs.Cloning.{clone_made, clones_made}

-- ---- the row

-- the clone with these operands
abbrev cloned_on : Here → Member → ℕ → List Value → PlainOutcome
cloned_on h m named operands = on_receiver h m named operands (λ r rest. push_new h (object_at h.state r) rest)

-- any array may be the receiver
receiver_is : (h : Here) (m : Member) (named : ℕ) (o : Value) → m.by_interface ≡ false → is_array h.program named ≡ true → is_receiver h m named o ≡ is_object h (is_array h.program) o
receiver_is h m named o by_class array =
    ap (λ b. if b then is_of Reference o else if is_array h.program named then is_object h (is_array h.program) o else is_instance_of h named o) by_class
    ∙ ap (λ b. if b then is_object h (is_array h.program) o else is_instance_of h named o) array

-- what is made of the one on top comes to the row
top_row : (h : Here) (m : Member) (named : ℕ) (o : Value) (rest : List Value) → m.by_interface ≡ false → is_array h.program named ≡ true → made_row h rest (clone_made h.program h.state.heap o) ≡ cloned_on h m named (o ∷ rest)
top_row h m named o rest by_class array =
    by_value o ∙ ap (λ b. when b (non_null h o (λ r. push_new h (object_at h.state r) rest)) (illegal h)) (sym (receiver_is h m named o by_class array))
  where
    by_kind : (r : ℕ) (b : Bool) → made_row h rest (if b then Makes (λ first. object_at h.state r ∷ []) else Breaks) ≡ when b (push_new h (object_at h.state r) rest) (illegal h)
    by_kind r true = refl
    by_kind r false = refl

    by_value : (v : Value) → made_row h rest (clone_made h.program h.state.heap v) ≡ when (is_object h (is_array h.program) v) (non_null h v (λ r. push_new h (object_at h.state r) rest)) (illegal h)
    by_value NullValue = refl
    by_value (RefValue r) = by_kind r (is_array h.program (object_at h.state r).class)
    by_value TopValue = refl
    by_value (IntValue n) = refl
    by_value (LongValue n) = refl
    by_value (TextValue units) = refl

-- by a mode that isn't static
other_mode : (h : Here) (mode : Mode) (m : Member) (named : ℕ) → (mode ≡ Static → ⊥) → cloned_on h m named h.state.top.operands ≡ clone_array h mode m named
other_mode h Virtual m named f = refl
other_mode h Special m named f = refl
other_mode h Interface m named f = refl
other_mode h Static m named f = absurd (f refl)

array_named : (a b : Bool) → (a && b) ≡ true → a ≡ true
array_named true b h = refl
array_named false b h = cc h

-- ---- the group

module _ {S I : Type 0} (site : Site) {s0 : Sets I} (before : HeapView S I) (group : GroupView S I) (running : IsRunning site s0 before group) where
  abbrev Clones : Mode → Member → ClassId → State → PlainOutcome
  Clones mode m named s = clone_array (here site s) mode m named.0

  -- there is no receiver
  pub none-attempts : (outcomes : List (Outcome S I)) → length group.top.stack.conds ≡ 0 → Gives site.program.now (illegal_in site.program.now) s0 s0 group outcomes → (mode : Mode) (m : Member) (named : ClassId) → IsSound site.program.now mode m (Clone named) → AttemptsBy site (Clones mode m named) s0 s0 before before group outcomes
  none-attempts outcomes none gives mode m named sound = AttemptsBy-stays site (Clones mode m named) before group (illegal_in site.program.now) outcomes running.is_heap running.is_for running.is_group (Extends-refl s0) (λ tree stands c t. broken tree c) gives
    where
      empty : (xs : List Value) → length xs ≡ 0 → [] ≡ xs
      empty [] e = refl
      empty (x ∷ xs) e = absurd (omega (arith, e))

      broken : (tree : List (Option (Caller S I))) (c : List Bool) → illegal_in site.program.now (state_at s0 before tree group c) ≡ Clones mode m named (state_at s0 before tree group c)
      broken tree c =
          let s = state_at s0 before tree group c in
          let count : length s.top.operands ≡ length group.top.stack.conds = length-map (operands_at s0 group.top.stack c) (value_of s0 before c) ∙ length-operands s0 group.top.stack c in
          ap (cloned_on (here site s) m named.0) (empty s.top.operands (count ∙ none)) ∙ other_mode (here site s) mode m named.0 sound.2

  module _ (x : Conditional Slot S I) (some : 0 < length group.top.stack.conds) (at : Some x ≡ slice_get group.top.stack.conds (length group.top.stack.conds - 1)) where
    pub receiver_is_cond : IsCond slot_cmp s0 x
    receiver_is_cond = top_is_cond s0 group x running.is_group some at

    pub receiver_held : IsValueHeld s0 before x
    receiver_held = record {
      held = λ c t.
          let inside : s0.test (path_of group) c ≡ true = ap (λ i. s0.test i c) (sym (top_scope s0 group x running.is_group some at)) ∙ t in
          ap (is_held s0 before c) (sym (top_is s0 group x running.is_group some at c) ∙ first (operands_at s0 group.top.stack c)) ∙ item_held s0 before c (operands_at s0 group.top.stack c) 0 (running.held c inside);
    }
      where
        first : (slots : List Slot) → top_of slots ≡ item_or slots 0 Top
        first [] = refl
        first (slot ∷ slots) = refl

    module _ {s1 : Sets I} (after : HeapView S I) (answers : Conditional Answer S I) (e : Extends s0 s1) (made : AreAllMade (clones_made site.program.now s0 before (slot_at s0 x)) s0 s1 before after x.scope answers) where
      made_there : AreAllMade (clones_made site.program.now s0 before (slot_at s0 x)) s0 s1 before after (path_of group) answers
      made_there =
          let P : I → Type 0 = λ path. AreAllMade (clones_made site.program.now s0 before (slot_at s0 x)) s0 s1 before after path answers in
          subst P (top_scope s0 group x running.is_group some at) made

      pub clones-scope : answers.scope ≡ path_of group
      clones-scope = made_there.scope

      pub clones-ready : length group.top.stack.conds < 2 ^ 32 → IsReady site s1 group 1 answers
      clones-ready few = making-ready site 1 (clones_made site.program.now s0 before (slot_at s0 x)) before after group answers running.is_group e made_there running.past (omega arith) (omega (arith, some)) few

      pub clones-attempts : {s2 : Sets I} (outcomes : List (Outcome S I)) → Extends s1 s2 → ((heap : HeapView S I) → AreHeld s1 heap (path_of group) answers → GivesAt site.program.now (answered_by site 1 s1 answers) s1 s2 group outcomes heap) → (mode : Mode) (m : Member) (named : ClassId) → IsSound site.program.now mode m (Clone named) → AttemptsBy site (Clones mode m named) s0 s2 before after group outcomes
      clones-attempts outcomes f gives mode m named sound =
          making-attempts site 1 (clones_made site.program.now s0 before (slot_at s0 x)) before after group answers running.is_group e made_there (Clones mode m named) outcomes running.is_heap running.is_for f (λ tree c t. row tree c) gives
        where
          row : (tree : List (Option (Caller S I))) (c : List Bool) → made_row (here site (state_at s0 before tree group c)) (drop 1 (state_at s0 before tree group c).top.operands) (clones_made site.program.now s0 before (slot_at s0 x) c) ≡ Clones mode m named (state_at s0 before tree group c)
          row tree c =
              let h = here site (state_at s0 before tree group c) in
              let value = value_of s0 before c in
              let parts : h.state.top.operands ≡ value (slot_at s0 x c) ∷ map value (operands_at s0 (below_top group.top.stack) c) = ap (map value) (top_operands s0 group.top.stack x c some at) in
              ap (λ (values : List Value). made_row h (drop 1 values) (clone_made h.program h.state.heap (value (slot_at s0 x c)))) parts
              ∙ top_row h m named.0 (value (slot_at s0 x c)) (map value (operands_at s0 (below_top group.top.stack) c)) sound.1 (array_named (is_array h.program named.0) _ sound.0)
              ∙ ap (cloned_on h m named.0) (sym parts)
              ∙ other_mode h mode m named.0 sound.2

-- an operand of the frame that was lent is one of the group's
pub of_group : {S I : Type 0} (group : GroupView S I) (top : Frame S I) (x : Conditional Slot S I) (n : ℕ) → top ≡ group.top → n ≡ length top.stack.conds - 1 → Some x ≡ slice_get top.stack.conds n → Some x ≡ slice_get group.top.stack.conds (length group.top.stack.conds - 1)
of_group {S = S} {I = I} group top x n e q at =
    let P : Frame S I → Type 0 = λ f. Some x ≡ slice_get f.stack.conds (length f.stack.conds - 1) in
    subst P e (at ∙ ap (slice_get top.stack.conds) q)
