-- Outcomes that are gathered part by part: what they come to over a later space, and behind one another.
use Rattle.std.proofs.Common.{◌≡◌, Bool, true, false, List, [], ◌∷◌, ◌++◌, refl, sym, ◌∙◌, ap}
use Rattle.std.specs.Prelude.{Option, Some, None, ◌&&◌, ◌||◌, not, if◌then◌else◌, ℕ}
use Rattle.vx_value.specs.declared.slot.Slot.{Slot}
use Rattle.vx_value.specs.declared.slot.Slot.TheVariants as slot
use Rattle.vx_value.specs.Slot.{slot_cmp}
use Rattle.vx_space.specs.Sets.{Sets, Extends}
use Rattle.vx_cond.specs.Cond.{Conditional}
use Rattle.vx_cond.specs.Slots.{or_top, slot_at}
use Rattle.vx_cond.proofs.CondLaws.{IsCond-extends, cond_at-extends}
use Rattle.vx_group.specs.declared.callers.Caller.{Caller}
use Rattle.vx_group.specs.Group.{GroupView, path_of}
use Rattle.vx_group.proofs.GroupLaws.{IsGroup-path_known, IsGroupIn-group}
use Rattle.vx_heap.specs.Heap.{HeapView, IsHeap}
use Rattle.vx_heap.proofs.HeapLaws.{is_held-extends, value_of-extends}
use Rattle.vx_java.specs.Machine.{State, Value}
use Rattle.vx_java.specs.Machine.{Outcome as PlainOutcome, Go, Raise, Throw, Begin, Native, Write, Ref as RefValue}
use Rattle.vx_link.specs.declared.program.Program.{Program}
use Rattle.vx_outcome.specs.Outcome.{Divide, condition_of}
use Rattle.vx_outcome.specs.declared.outcome.Outcome.{Outcome}
use Rattle.vx_outcome.specs.declared.outcome.Outcome.TheVariants as shared
use Rattle.vx_group_states.specs.Stands.{AreOutcomes, CameTo, Continues, IsOutcome, IsThrown, comes_to, message_of, object_named, outcome_at, state_at}
use Rattle.vx_group_states.proofs.StateLaws.{Continues-extends, Continues-trans, both_first, state_at-extends}

-- ---- sets that are divided

Divide-same : {S I : Type 0} (sets : Sets I) (a b : List Bool → Bool) → ((c : List Bool) → a c ≡ b c) → (items : List (Outcome S I)) → Divide sets a items → Divide sets b items
Divide-same sets a b h [] d = λ c. sym (h c) ∙ d c
Divide-same sets a b h (x ∷ xs) d = ((λ c t. sym (h c) ∙ d.0 c t), Divide-same sets (λ c. a c && not (sets.test (condition_of x) c)) (λ c. b c && not (sets.test (condition_of x) c)) (λ c i. h c i && not (sets.test (condition_of x) c)) xs d.1)

less_either : (a b x : Bool) → (x ≡ true → a ≡ true) → (a ≡ true → b ≡ false) → ((a && not x) || b) ≡ ((a || b) && not x)
less_either true true x p q = cc (q refl)
less_either true false true p q = refl
less_either true false false p q = refl
less_either false b true p q = cc (p refl)
less_either false true false p q = refl
less_either false false false p q = refl

either_first : (a b : Bool) → a ≡ true → (a || b) ≡ true
either_first a b h = rw h refl

Divide-append : {S I : Type 0} (sets : Sets I) (a b : List Bool → Bool) → ((c : List Bool) → a c ≡ true → b c ≡ false) → (xs ys : List (Outcome S I)) → Divide sets a xs → Divide sets b ys → Divide sets (λ c. a c || b c) (xs ++ ys)
Divide-append sets a b apart [] ys d e = Divide-same sets b (λ c. a c || b c) (λ c. sym (ap (λ x. x || b c) (d c))) ys e
Divide-append sets a b apart (x ∷ xs) ys d e =
    let left : List Bool → Bool = λ c. a c && not (sets.test (condition_of x) c) in
    let rest = Divide-append sets left b (λ c t. apart c (both_first (a c) (not (sets.test (condition_of x) c)) t)) xs ys d.1 e in
    ((λ c t. either_first (a c) (b c) (d.0 c t)), Divide-same sets (λ c. left c || b c) (λ c. (a c || b c) && not (sets.test (condition_of x) c)) (λ c. less_either (a c) (b c) (sets.test (condition_of x) c) (d.0 c) (apart c)) (xs ++ ys) rest)

-- ---- what a configuration comes to behind one another

absent : (b a : Bool) → (b ≡ true → a ≡ true) → a ≡ false → b ≡ false
absent true a f h = cc (f refl, h)
absent false a f h = refl

less : (a b : Bool) → a ≡ false → (a && b) ≡ false
less a b h = rw h refl

otherwise : {T : Type 0} (b : Bool) (x y : Option T) → b ≡ false → (if b then x else y) ≡ y
otherwise b x y h = rw h refl

comes_to-outside : {S I : Type 0} (sets : Sets I) (heap : HeapView S I) (tree : List (Option (Caller S I))) (set : List Bool → Bool) (xs : List (Outcome S I)) → Divide sets set xs → (c : List Bool) → set c ≡ false → comes_to sets heap tree c xs ≡ None
comes_to-outside sets heap tree set [] d c h = refl
comes_to-outside sets heap tree set (x ∷ xs) d c h = otherwise (sets.test (condition_of x) c) _ _ (absent (sets.test (condition_of x) c) (set c) (d.0 c) h) ∙ comes_to-outside sets heap tree (λ c. set c && not (sets.test (condition_of x) c)) xs d.1 c (less (set c) _ h)

if_none : {T : Type 0} (b : Bool) (v : T) (r more other : Option T) → (r ≡ None → more ≡ other) → (if b then Some v else r) ≡ None → (if b then Some v else more) ≡ other
if_none true v r more other f h = cc
if_none false v r more other f h = f h

if_some : {T : Type 0} (b : Bool) (v w : T) (r more : Option T) → (r ≡ Some w → more ≡ Some w) → (if b then Some v else r) ≡ Some w → (if b then Some v else more) ≡ Some w
if_some true v w r more f h = h
if_some false v w r more f h = f h

comes_to-append_none : {S I : Type 0} (sets : Sets I) (heap : HeapView S I) (tree : List (Option (Caller S I))) (c : List Bool) (xs ys : List (Outcome S I)) → comes_to sets heap tree c xs ≡ None → comes_to sets heap tree c (xs ++ ys) ≡ comes_to sets heap tree c ys
comes_to-append_none sets heap tree c [] ys h = refl
comes_to-append_none sets heap tree c (x ∷ xs) ys h = if_none (sets.test (condition_of x) c) _ (comes_to sets heap tree c xs) _ _ (comes_to-append_none sets heap tree c xs ys) h

comes_to-append_some : {S I : Type 0} (sets : Sets I) (heap : HeapView S I) (tree : List (Option (Caller S I))) (c : List Bool) (xs ys : List (Outcome S I)) (o : PlainOutcome) → comes_to sets heap tree c xs ≡ Some o → comes_to sets heap tree c (xs ++ ys) ≡ Some o
comes_to-append_some sets heap tree c [] ys o h = cc
comes_to-append_some sets heap tree c (x ∷ xs) ys o h = if_some (sets.test (condition_of x) c) _ o (comes_to sets heap tree c xs) _ (comes_to-append_some sets heap tree c xs ys o) h

-- ---- over a later space

group_known : {S I : Type 0} (p : Program) (old new : Sets I) (heap : HeapView S I) (tree : List (Option (Caller S I))) (before after : GroupView S I) → Continues p old new heap tree before after → new.is_known (path_of after) ≡ true
group_known p old new heap tree before after f = IsGroup-path_known new after (IsGroupIn-group new tree after f.stands.is_group)

pub condition_known : {S I : Type 0} (p : Program) (old new : Sets I) (heap : HeapView S I) (tree : List (Option (Caller S I))) (before : GroupView S I) (x : Outcome S I) → IsOutcome p old new heap tree before x → new.is_known (condition_of x) ≡ true
condition_known p old new heap tree before (shared.Go group) h = group_known p old new heap tree before group h
condition_known p old new heap tree before (shared.Raise group class message) h = group_known p old new heap tree before group h.0
condition_known p old new heap tree before (shared.Throw group thrown) h = group_known p old new heap tree before group h.0
condition_known p old new heap tree before (shared.Begin group class) h = group_known p old new heap tree before group h
condition_known p old new heap tree before (shared.Native group method) h = group_known p old new heap tree before group h
condition_known p old new heap tree before (shared.Write group stream text) h = group_known p old new heap tree before group h.0
condition_known p old new heap tree before (shared.Ended condition end) h = h

pub IsThrown-extends : {S I : Type 0} {old new : Sets I} → Extends old new → (heap : HeapView S I) → IsHeap old heap → (group : GroupView S I) (thrown : Conditional Slot S I) → old.is_known (path_of group) ≡ true → IsThrown old heap group thrown → IsThrown new heap group thrown
IsThrown-extends {old = old} {new = new} e heap v group thrown k h =
    let path : (c : List Bool) → new.test (path_of group) c ≡ true → old.test (path_of group) c ≡ true = λ c t. sym (e.test (path_of group) c k) ∙ t in
    let same : (c : List Bool) → slot_at new thrown c ≡ slot_at old thrown c = λ c. ap or_top (cond_at-extends slot_cmp e thrown h.is_cond c) in
    record {
      is_cond = IsCond-extends slot_cmp e thrown h.is_cond;
      scope = h.scope;
      object = λ c t. rw (same c) (h.object c (path c t));
      held = λ c t. rw (same c) (is_held-extends e heap v c (slot_at old thrown c) ∙ h.held c (path c t));
    }

pub IsOutcome-extends : {S I : Type 0} (p : Program) (s0 : Sets I) {s1 s2 : Sets I} (tree : List (Option (Caller S I))) → Extends s1 s2 → (heap : HeapView S I) → IsHeap s1 heap → (group : GroupView S I) (x : Outcome S I) → IsOutcome p s0 s1 heap tree group x → IsOutcome p s0 s2 heap tree group x
IsOutcome-extends p s0 tree e heap v group (shared.Go after) h = Continues-extends p s0 tree e heap v group after h
IsOutcome-extends p s0 tree e heap v group (shared.Raise after class message) h = (Continues-extends p s0 tree e heap v group after h.0, h.1)
IsOutcome-extends p s0 {s1 = s1} tree e heap v group (shared.Throw after thrown) h = (Continues-extends p s0 tree e heap v group after h.0, IsThrown-extends e heap v after thrown (group_known p s0 s1 heap tree group after h.0) h.1)
IsOutcome-extends p s0 tree e heap v group (shared.Begin after class) h = Continues-extends p s0 tree e heap v group after h
IsOutcome-extends p s0 tree e heap v group (shared.Native after method) h = Continues-extends p s0 tree e heap v group after h
IsOutcome-extends p s0 tree e heap v group (shared.Write after stream text) h = (Continues-extends p s0 tree e heap v group after h.0, h.1)
IsOutcome-extends p s0 tree e heap v group (shared.Ended condition end) h = e.known condition h

AreOutcomes-extends : {S I : Type 0} (p : Program) (s0 : Sets I) {s1 s2 : Sets I} (tree : List (Option (Caller S I))) → Extends s1 s2 → (heap : HeapView S I) → IsHeap s1 heap → (group : GroupView S I) (xs : List (Outcome S I)) → AreOutcomes p s0 s1 heap tree group xs → AreOutcomes p s0 s2 heap tree group xs
AreOutcomes-extends p s0 tree e heap v group [] h = tt
AreOutcomes-extends p s0 tree e heap v group (x ∷ xs) h = (IsOutcome-extends p s0 tree e heap v group x h.0, AreOutcomes-extends p s0 tree e heap v group xs h.1)

AreOutcomes-append : {S I : Type 0} (p : Program) (old new : Sets I) (heap : HeapView S I) (tree : List (Option (Caller S I))) (group : GroupView S I) (xs ys : List (Outcome S I)) → AreOutcomes p old new heap tree group xs → AreOutcomes p old new heap tree group ys → AreOutcomes p old new heap tree group (xs ++ ys)
AreOutcomes-append p old new heap tree group [] ys h g = g
AreOutcomes-append p old new heap tree group (x ∷ xs) ys h g = (h.0, AreOutcomes-append p old new heap tree group xs ys h.1 g)

abbrev named : Value → ℕ
named (RefValue n) = n
named _ = 0

pub object_named-extends : {S I : Type 0} {old new : Sets I} → Extends old new → (heap : HeapView S I) → IsHeap old heap → (c : List Bool) (s : Slot) → object_named new heap c s ≡ object_named old heap c s
object_named-extends e heap v c slot.Top = refl
object_named-extends e heap v c (slot.Int n) = refl
object_named-extends e heap v c (slot.Long n) = refl
object_named-extends e heap v c slot.Null = refl
object_named-extends e heap v c (slot.Ref i) = ap named (value_of-extends e heap v c (slot.Ref i))
object_named-extends e heap v c (slot.Text n) = refl

state_later : {S I : Type 0} (p : Program) (s0 : Sets I) {s1 s2 : Sets I} (tree : List (Option (Caller S I))) → Extends s1 s2 → (heap : HeapView S I) → IsHeap s1 heap → (group after : GroupView S I) → Continues p s0 s1 heap tree group after → (c : List Bool) → state_at s2 heap tree after c ≡ state_at s1 heap tree after c
state_later p s0 tree e heap v group after f c = state_at-extends tree e heap v after f.stands.is_group c

outcome_at-extends : {S I : Type 0} (p : Program) (s0 : Sets I) {s1 s2 : Sets I} (tree : List (Option (Caller S I))) → Extends s1 s2 → (heap : HeapView S I) → IsHeap s1 heap → (group : GroupView S I) (x : Outcome S I) → IsOutcome p s0 s1 heap tree group x → (c : List Bool) → outcome_at s2 heap tree c x ≡ outcome_at s1 heap tree c x
outcome_at-extends p s0 tree e heap v group (shared.Go after) h c = ap Go (state_later p s0 tree e heap v group after h c)
outcome_at-extends p s0 tree e heap v group (shared.Raise after class message) h c = ap (Raise class.0 (message_of heap message)) (state_later p s0 tree e heap v group after h.0 c)
outcome_at-extends p s0 {s1 = s1} {s2 = s2} tree e heap v group (shared.Throw after thrown) h c =
    let object = ap (object_named s2 heap c) (ap or_top (cond_at-extends slot_cmp e thrown h.1.is_cond c)) ∙ object_named-extends e heap v c (slot_at s1 thrown c) in
    let state = state_later p s0 tree e heap v group after h.0 c in
    λ i. Throw (object i) (state i)
outcome_at-extends p s0 tree e heap v group (shared.Begin after class) h c = ap (Begin class.0) (state_later p s0 tree e heap v group after h c)
outcome_at-extends p s0 tree e heap v group (shared.Native after method) h c = ap (Native method.0) (state_later p s0 tree e heap v group after h c)
outcome_at-extends p s0 tree e heap v group (shared.Write after stream text) h c = ap (λ s. outcome_of_write s) (state_later p s0 tree e heap v group after h.0 c)
  where
    outcome_of_write : State → PlainOutcome
    outcome_of_write s = Write stream (Rattle.vx_list.specs.Places.item_or heap.texts text []) s
outcome_at-extends p s0 tree e heap v group (shared.Ended condition end) h c = refl

chosen : {T : Type 0} (a b : Bool) (v w : T) (r s : Option T) → a ≡ b → v ≡ w → r ≡ s → (if a then Some v else r) ≡ (if b then Some w else s)
chosen a b v w r s h g f = λ i. if h i then Some (g i) else f i

comes_to-extends : {S I : Type 0} (p : Program) (s0 : Sets I) {s1 s2 : Sets I} (tree : List (Option (Caller S I))) → Extends s1 s2 → (heap : HeapView S I) → IsHeap s1 heap → (group : GroupView S I) (xs : List (Outcome S I)) → AreOutcomes p s0 s1 heap tree group xs → (c : List Bool) → comes_to s2 heap tree c xs ≡ comes_to s1 heap tree c xs
comes_to-extends p s0 tree e heap v group [] h c = refl
comes_to-extends p s0 {s1 = s1} {s2 = s2} tree e heap v group (x ∷ xs) h c = chosen (s2.test (condition_of x) c) (s1.test (condition_of x) c) _ _ _ _ (e.test (condition_of x) c (condition_known p s0 s1 heap tree group x h.0)) (outcome_at-extends p s0 tree e heap v group x h.0 c) (comes_to-extends p s0 tree e heap v group xs h.1 c)

pub Divide-extends : {S I : Type 0} (p : Program) (s0 : Sets I) {s1 s2 : Sets I} (tree : List (Option (Caller S I))) → Extends s1 s2 → (heap : HeapView S I) (group : GroupView S I) (set : List Bool → Bool) (xs : List (Outcome S I)) → AreOutcomes p s0 s1 heap tree group xs → Divide s1 set xs → Divide s2 set xs
Divide-extends p s0 tree e heap group set [] h d = d
Divide-extends p s0 {s1 = s1} {s2 = s2} tree e heap group set (x ∷ xs) h d =
    let same : (c : List Bool) → s2.test (condition_of x) c ≡ s1.test (condition_of x) c = λ c. e.test (condition_of x) c (condition_known p s0 s1 heap tree group x h.0) in
    ((λ c t. d.0 c (sym (same c) ∙ t)), Divide-same s2 (λ c. set c && not (s1.test (condition_of x) c)) (λ c. set c && not (s2.test (condition_of x) c)) (λ c. ap (λ b. set c && not b) (sym (same c))) xs (Divide-extends p s0 tree e heap group (λ c. set c && not (s1.test (condition_of x) c)) xs h.1 d.1))

-- ---- gathering

pub CameTo-none : {S I : Type 0} (p : Program) (old new : Sets I) (heap : HeapView S I) (tree : List (Option (Caller S I))) (group : GroupView S I) (what : List Bool → PlainOutcome) (set : List Bool → Bool) → ((c : List Bool) → set c ≡ false) → CameTo p old new heap tree group what set []
CameTo-none p old new heap tree group what set h = record { divide = h; continue = tt; at = λ c t. cc (h c, t) }

pub CameTo-one : {S I : Type 0} (p : Program) (old new : Sets I) (heap : HeapView S I) (tree : List (Option (Caller S I))) (group : GroupView S I) (what : List Bool → PlainOutcome) (set : List Bool → Bool) (x : Outcome S I) → IsOutcome p old new heap tree group x → ((c : List Bool) → new.test (condition_of x) c ≡ set c) → ((c : List Bool) → set c ≡ true → outcome_at new heap tree c x ≡ what c) → CameTo p old new heap tree group what set (x ∷ [])
CameTo-one p old new heap tree group what set x o same h = record {
  divide = ((λ c t. sym (same c) ∙ t), λ c. ap (λ b. set c && not b) (same c) ∙ none_left (set c));
  continue = (o, tt);
  at = λ c t. taken (new.test (condition_of x) c) _ None (same c ∙ t) ∙ ap Some (h c t);
}
  where
    none_left : (b : Bool) → (b && not b) ≡ false
    none_left true = refl
    none_left false = refl

    taken : {T : Type 0} (b : Bool) (v : T) (r : Option T) → b ≡ true → (if b then Some v else r) ≡ Some v
    taken b v r h = rw h refl

pub CameTo-extends : {S I : Type 0} (p : Program) (s0 : Sets I) {s1 s2 : Sets I} (tree : List (Option (Caller S I))) → Extends s1 s2 → (heap : HeapView S I) → IsHeap s1 heap → (group : GroupView S I) (what : List Bool → PlainOutcome) (set : List Bool → Bool) (xs : List (Outcome S I)) → CameTo p s0 s1 heap tree group what set xs → CameTo p s0 s2 heap tree group what set xs
CameTo-extends p s0 tree e heap v group what set xs g = record {
  divide = Divide-extends p s0 tree e heap group set xs g.continue g.divide;
  continue = AreOutcomes-extends p s0 tree e heap v group xs g.continue;
  at = λ c t. comes_to-extends p s0 tree e heap v group xs g.continue c ∙ g.at c t;
}

pub CameTo-same : {S I : Type 0} (p : Program) (old new : Sets I) (heap : HeapView S I) (tree : List (Option (Caller S I))) (group : GroupView S I) (what other : List Bool → PlainOutcome) (set same : List Bool → Bool) (xs : List (Outcome S I)) → ((c : List Bool) → set c ≡ same c) → ((c : List Bool) → set c ≡ true → what c ≡ other c) → CameTo p old new heap tree group what set xs → CameTo p old new heap tree group other same xs
CameTo-same p old new heap tree group what other set same xs e f g = record { divide = Divide-same new set same e xs g.divide; continue = g.continue; at = λ c t. g.at c (e c ∙ t) ∙ ap Some (f c (e c ∙ t)) }

either_of : (a b : Bool) → a ≡ false → (a || b) ≡ true → b ≡ true
either_of a b h t = rw h at t

-- the outcomes of two sets that have no configuration in common
pub CameTo-append : {S I : Type 0} (p : Program) (old new : Sets I) (heap : HeapView S I) (tree : List (Option (Caller S I))) (group : GroupView S I) (what : List Bool → PlainOutcome) (a b : List Bool → Bool) (xs ys : List (Outcome S I)) → ((c : List Bool) → a c ≡ true → b c ≡ false) → CameTo p old new heap tree group what a xs → CameTo p old new heap tree group what b ys → CameTo p old new heap tree group what (λ c. a c || b c) (xs ++ ys)
CameTo-append p old new heap tree group what a b xs ys apart f g = record {
  divide = Divide-append new a b apart xs ys f.divide g.divide;
  continue = AreOutcomes-append p old new heap tree group xs ys f.continue g.continue;
  at = λ c. here c (a c) refl;
}
  where
    here : (c : List Bool) (side : Bool) → a c ≡ side → (a c || b c) ≡ true → comes_to new heap tree c (xs ++ ys) ≡ Some (what c)
    here c true h t = comes_to-append_some new heap tree c xs ys (what c) (f.at c h)
    here c false h t = comes_to-append_none new heap tree c xs ys (comes_to-outside new heap tree a xs f.divide c h) ∙ g.at c (either_of (a c) (b c) h t)

-- ---- what one group comes to, told of the group from which it goes on

-- the first heap and the first tree may be earlier ones
IsOutcome-through : {S I : Type 0} {before : HeapView S I} {earlier : List (Option (Caller S I))} (p : Program) (s0 s1 s2 : Sets I) (heap : HeapView S I) (tree : List (Option (Caller S I))) (group middle : GroupView S I) (x : Outcome S I) → Continues p s0 s1 before earlier group middle → IsOutcome p s1 s2 heap tree middle x → IsOutcome p s0 s2 heap tree group x
IsOutcome-through {before = before} {earlier = earlier} p s0 s1 s2 heap tree group middle (shared.Go after) f h = Continues-trans p s0 s1 s2 heap before tree earlier group middle after f h
IsOutcome-through {before = before} {earlier = earlier} p s0 s1 s2 heap tree group middle (shared.Raise after class message) f h = (Continues-trans p s0 s1 s2 heap before tree earlier group middle after f h.0, h.1)
IsOutcome-through {before = before} {earlier = earlier} p s0 s1 s2 heap tree group middle (shared.Throw after thrown) f h = (Continues-trans p s0 s1 s2 heap before tree earlier group middle after f h.0, h.1)
IsOutcome-through {before = before} {earlier = earlier} p s0 s1 s2 heap tree group middle (shared.Begin after class) f h = Continues-trans p s0 s1 s2 heap before tree earlier group middle after f h
IsOutcome-through {before = before} {earlier = earlier} p s0 s1 s2 heap tree group middle (shared.Native after method) f h = Continues-trans p s0 s1 s2 heap before tree earlier group middle after f h
IsOutcome-through {before = before} {earlier = earlier} p s0 s1 s2 heap tree group middle (shared.Write after stream text) f h = (Continues-trans p s0 s1 s2 heap before tree earlier group middle after f h.0, h.1)
IsOutcome-through p s0 s1 s2 heap tree group middle (shared.Ended condition end) f h = h

pub AreOutcomes-through : {S I : Type 0} {before : HeapView S I} {earlier : List (Option (Caller S I))} (p : Program) (s0 s1 s2 : Sets I) (heap : HeapView S I) (tree : List (Option (Caller S I))) (group middle : GroupView S I) (xs : List (Outcome S I)) → Continues p s0 s1 before earlier group middle → AreOutcomes p s1 s2 heap tree middle xs → AreOutcomes p s0 s2 heap tree group xs
AreOutcomes-through p s0 s1 s2 heap tree group middle [] f h = tt
AreOutcomes-through p s0 s1 s2 heap tree group middle (x ∷ xs) f h = (IsOutcome-through p s0 s1 s2 heap tree group middle x f h.0, AreOutcomes-through p s0 s1 s2 heap tree group middle xs f h.1)

pub CameTo-through : {S I : Type 0} {before : HeapView S I} {earlier : List (Option (Caller S I))} (p : Program) (s0 s1 s2 : Sets I) (heap : HeapView S I) (tree : List (Option (Caller S I))) (group middle : GroupView S I) (there what : List Bool → PlainOutcome) (set : List Bool → Bool) (xs : List (Outcome S I)) → Continues p s0 s1 before earlier group middle → ((c : List Bool) → s1.test (path_of middle) c ≡ set c) → ((c : List Bool) → set c ≡ true → there c ≡ what c) → CameTo p s1 s2 heap tree middle there (s1.test (path_of middle)) xs → CameTo p s0 s2 heap tree group what set xs
CameTo-through p s0 s1 s2 heap tree group middle there what set xs f e h y =
    let same = CameTo-same p s1 s2 heap tree middle there what (s1.test (path_of middle)) set xs e (λ c t. h c (sym (e c) ∙ t)) y in
    record { divide = same.divide; continue = AreOutcomes-through p s0 s1 s2 heap tree group middle xs f same.continue; at = same.at }
