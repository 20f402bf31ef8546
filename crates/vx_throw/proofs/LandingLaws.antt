-- Runs that go on at the handlers of the frame on top, leaf by leaf.
use Rattle.std.proofs.Common.{◌≡◌, ℕ, ◌+◌, ◌<◌, ◌≤◌, Bool, true, false, List, [], ◌∷◌, ◌++◌, refl, sym, ◌∙◌, ap, subst, get_or, length, take}
use Rattle.std.proofs.lemmas.List.{take_all}
use Rattle.std.proofs.lemmas.List.Folds.{list_all-append}
use Rattle.std.specs.Prelude.{Option, Some, None, ◌&&◌, ◌||◌, if◌then◌else◌, is_none, is_some, not, unwrap_or}
use Rattle.vx_space.specs.Sets.{Sets, Extends, IsLawful}
use Rattle.vx_space.proofs.Spaces.{Extends-refl, Extends-trans}
use Rattle.vx_cond.specs.declared.cond.Leaf.{Leaf}
use Rattle.vx_cond.specs.Leaves.{AreLeaves, value_at, value_within}
use Rattle.vx_cond.specs.Cond.{Conditional, IsCond, IsCondOf, IsInside, cond_at}
use Rattle.vx_cond.specs.Row.{Conditionals}
use Rattle.vx_cond.specs.Slots.{or_top, slot_at}
use Rattle.vx_cond.proofs.CondLaws.{IsCond-of, cond_at-of}
use Rattle.vx_cond.proofs.LeafLoops.{next_leaf}
use Rattle.vx_cond.proofs.RowSteps.{IsRow-empty, IsRow-push}
use Rattle.vx_group.specs.Group.{GroupView, IsGroup, IsPartOf, path_of}
use Rattle.vx_group.proofs.GroupLaws.{IsGroup-path_known, IsPartOf-extends, IsPartOf-set}
use Rattle.vx_group_states.specs.Answering.{operands_at}
use Rattle.vx_group_states.specs.Sites.{GivesAt}
use Rattle.vx_group_states.specs.Stands.{CameTo, state_at}
use Rattle.vx_group_states.proofs.AnswerLaws.{values_scope}
use Rattle.vx_group_states.proofs.Gathering.{leaf_value, part_path}
use Rattle.vx_group_states.proofs.OutcomeStates.{CameTo-append, CameTo-extends, CameTo-none, CameTo-one, CameTo-same}
use Rattle.vx_group_states.proofs.StateLaws.{Continues-moved, Continues-part, both, both_first, both_second, state_at-moved, state_at-part}
use Rattle.vx_heap.proofs.HeapLaws.{IsHeap-extends}
use Rattle.vx_heap.proofs.Written.{within_there}
use Rattle.vx_heap.specs.Heap.{HeapView}
use Rattle.vx_java.specs.Machine.{Go, at_position}
use Rattle.vx_java.specs.Machine.{Outcome as PlainOutcome}
use Rattle.vx_link.specs.declared.program.Program.{Program}
use Rattle.vx_outcome.specs.declared.outcome.Outcome.{Outcome}
use Rattle.vx_outcome.specs.declared.outcome.Outcome.TheVariants as shared
use Rattle.vx_ready.proofs.Splitting.{GivesWithin-part}
use Rattle.vx_standing.specs.Attempted.{is_placed}
use Rattle.vx_value.specs.Slot.{slot_cmp}
use Rattle.vx_value.specs.declared.slot.Slot.{Slot}
use Rattle.vx_throw.proofs.Within.{CameTo-within, object_value, objects_held, part_of_part, thrown_later, whole_part}
use Rattle.vx_throw.specs.Flights.{landing, landing_from}
use Rattle.vx_throw.specs.Landings.{AreLanded, AreObjectsHeld, handler_by, handler_cmp, lands}

-- ---- a group at a handler

pub landed-gives : {S I : Type 0} {s0 s1 : Sets I} → IsLawful s1 → Extends s0 s1 → (group after : GroupView S I) (objects object : Conditional Slot S I) (handler : ℕ) → IsGroup s0 group → IsCond slot_cmp s0 objects → IsInside s0 (path_of group) objects.scope → IsCondOf slot_cmp s1 (value_within s0 (path_of group) (cond_at s0 objects)) object → after ≡ record group { top = record (group.top) { position = handler; stack = record { scope = object.scope; conds = object ∷ [] } } } → (p : Program) (heap : HeapView S I) → AreObjectsHeld s0 heap (path_of group) objects → GivesAt p (landing_from s0 objects (λ _. Some handler)) s0 s1 group (shared.Go after ∷ []) heap
landed-gives {S = S} {I = I} {s0 = s0} {s1 = s1} lawful e group after objects object handler w v i k same p heap held tree h s =
    let known = IsGroup-path_known s0 group w in
    let scope : object.scope ≡ path_of group = values_scope slot_cmp lawful objects object (path_of group) e known v i k in
    let none : Conditionals Slot S I = record { scope = object.scope; conds = [] } in
    let stack : Conditionals Slot S I = record { scope = object.scope; conds = object ∷ [] } in
    let moved : GroupView S I = record group { top = record (group.top) { position = handler; stack = stack } } in
    let operands : List Bool → List Slot = λ c. slot_at s0 objects c ∷ [] in
    let row = IsRow-push slot_cmp s1 none object (IsRow-empty slot_cmp s1 none (ap s1.is_known scope ∙ e.known (path_of group) known) refl) (IsCond-of slot_cmp s1 _ object k) refl in
    let at : (c : List Bool) → s0.test (path_of group) c ≡ true → operands_at s1 stack c ≡ operands c = λ c t. ap (λ o. or_top o ∷ []) (cond_at-of slot_cmp s1 _ object c k ∙ within_there (s0.test (path_of group) c) (cond_at s0 objects c) t) in
    let continues = Continues-moved p tree e heap h group stack handler operands s row scope at (λ c t. both _ true (held.held c t) refl) in
    let what : List Bool → PlainOutcome = λ c. landing_from s0 objects (λ _. Some handler) heap c (state_at s0 heap tree group c) in
    let P : GroupView S I → Type 0 = λ g. CameTo p s0 s1 heap tree group what (s0.test (path_of group)) (shared.Go g ∷ []) in
    subst P (sym same) (CameTo-one p s0 s1 heap tree group what (s0.test (path_of group)) (shared.Go moved) continues (λ c. e.test (path_of group) c known) (λ c t. ap Go (state_at-moved p tree e heap h group stack handler s c (operands c) (at c t) ∙ ap (λ v. at_position (state_at s0 heap tree group c) handler (v ∷ [])) (object_value s0 heap c (slot_at s0 objects c) (held.object c t)))))

-- ---- one leaf

stays_all : (a b : Bool) (o : Option ℕ) → o ≡ None → a ≡ (a && not (is_some o && b))
stays_all true b o e = rw e refl
stays_all false b o e = refl

lands_none : (a b : Bool) (o : Option ℕ) → o ≡ None → (a && (is_some o && b)) ≡ false
lands_none true b o e = rw e refl
lands_none false b o e = refl

-- a leaf without a handler takes nothing
pub stays-left : {S I : Type 0} (sets : Sets I) (group : GroupView S I) (leaf : Leaf (Option ℕ) S I) → IsGroup sets group → leaf.value ≡ None → IsPartOf sets sets (λ c. sets.test (path_of group) c && not (lands sets leaf c)) group group
stays-left sets group leaf v e = whole_part sets _ group v (λ c. stays_all (sets.test (path_of group) c) (sets.test leaf.condition c) leaf.value e)

pub stays-landed : {S I : Type 0} (sets : Sets I) (group : GroupView S I) (objects : Conditional Slot S I) (leaf : Leaf (Option ℕ) S I) → leaf.value ≡ None → AreLanded sets sets group objects (λ _. leaf.value) (λ c. sets.test (path_of group) c && lands sets leaf c) []
stays-landed sets group objects leaf e = record {
  placed = refl;
  gives = λ p heap held tree h s. CameTo-none p sets sets heap tree group _ (λ c. sets.test (path_of group) c && lands sets leaf c) (λ c. lands_none (sets.test (path_of group) c) (sets.test leaf.condition c) leaf.value e);
}

lands_some : (a b : Bool) (o : Option ℕ) (handler : ℕ) → o ≡ Some handler → (a && b) ≡ (a && (is_some o && b))
lands_some a b o handler e = rw e refl

leaves_some : (a b : Bool) (o : Option ℕ) (handler : ℕ) → o ≡ Some handler → (a && not b) ≡ (a && not (is_some o && b))
leaves_some a b o handler e = rw e refl

-- where it has one, the part inside its condition goes on there
pub split-left : {S I : Type 0} (s0 : Sets I) {s1 s2 : Sets I} → Extends s1 s2 → (group others : GroupView S I) (leaf : Leaf (Option ℕ) S I) (handler : ℕ) → leaf.value ≡ Some handler → IsPartOf s0 s1 (λ c. s0.test (path_of group) c && not (s0.test leaf.condition c)) group others → IsPartOf s0 s2 (λ c. s0.test (path_of group) c && not (lands s0 leaf c)) group others
split-left s0 {s1 = s1} e group others leaf handler is q = IsPartOf-extends s0 e _ group others (IsPartOf-set s0 s1 _ (λ c. s0.test (path_of group) c && not (lands s0 leaf c)) group others (λ c. leaves_some (s0.test (path_of group) c) (s0.test leaf.condition c) leaf.value handler is) q)

pub split-inside : {S I : Type 0} (s0 s1 : Sets I) (group part : GroupView S I) (set : List Bool → Bool) → IsPartOf s0 s1 (λ c. s0.test (path_of group) c && set c) group part → (c : List Bool) → s1.test (path_of part) c ≡ true → s0.test (path_of group) c ≡ true
split-inside s0 s1 group part set q c t = both_first (s0.test (path_of group) c) (set c) (sym (part_path s0 s1 _ group part q c) ∙ t)

pub split-landed : {S I : Type 0} {s0 s1 s2 : Sets I} → Extends s0 s1 → (group part after : GroupView S I) (objects : Conditional Slot S I) (leaf : Leaf (Option ℕ) S I) (handler : ℕ) → IsCond slot_cmp s0 objects → leaf.value ≡ Some handler → IsPartOf s0 s1 (λ c. s0.test (path_of group) c && s0.test leaf.condition c) group part → ((p : Program) (heap : HeapView S I) → AreObjectsHeld s1 heap (path_of part) objects → GivesAt p (landing_from s1 objects (λ _. Some handler)) s1 s2 part (shared.Go after ∷ []) heap) → AreLanded s0 s2 group objects (λ _. leaf.value) (λ c. s0.test (path_of group) c && lands s0 leaf c) (shared.Go after ∷ [])
split-landed {s0 = s0} {s1 = s1} e group part after objects leaf handler v is q gives =
    let whole : List Bool → Bool = s0.test (path_of group) in
    let set : List Bool → Bool = λ c. whole c && lands s0 leaf c in
    let taken = IsPartOf-set s0 s1 _ set group part (λ c. lands_some (whole c) (s0.test leaf.condition c) leaf.value handler is) q in
    record {
      placed = refl;
      gives = λ p heap held tree h s.
          let there = objects_held e heap h objects v (path_of group) (path_of part) (split-inside s0 s1 group part (s0.test leaf.condition) q) held in
          GivesWithin-part p set group part (landing_from s0 objects (λ _. leaf.value)) (landing_from s1 objects (λ _. Some handler)) (shared.Go after ∷ []) heap e (λ c t. both_first (whole c) (lands s0 leaf c) t) taken (λ c t s i. landing s (thrown_later e heap h objects v c i) (sym is i)) (gives p heap there) tree h s;
    }

-- ---- the loop over the leaves

-- what it keeps: what no handler so far takes is left, and the outcomes of the rest
pub record IsLanding {S I : Type 0} (start sets : Sets I) (group : GroupView S I) (objects : Conditional Slot S I) (handlers : List (Leaf (Option ℕ) S I)) (i : ℕ) (rest : GroupView S I) (outcomes : List (Outcome S I)) : Type 0 where
  pub extends : Extends start sets
  pub left : IsPartOf start sets (λ c. start.test (path_of group) c && is_none (handler_by start (take i handlers) c)) group rest
  pub landed : AreLanded start sets group objects (handler_by start handlers) (λ c. start.test (path_of group) c && is_some (handler_by start (take i handlers) c)) outcomes

with_true : (b : Bool) → b ≡ (b && true)
with_true true = refl
with_true false = refl

with_false : (b : Bool) → (b && false) ≡ false
with_false true = refl
with_false false = refl

pub IsLanding-start : {S I : Type 0} (sets : Sets I) (group : GroupView S I) (objects : Conditional Slot S I) (handlers : List (Leaf (Option ℕ) S I)) → IsGroup sets group → IsLanding sets sets group objects handlers 0 group []
IsLanding-start sets group objects handlers v = record {
  extends = Extends-refl sets;
  left = whole_part sets _ group v (λ c. with_true (sets.test (path_of group) c));
  landed = record {
    placed = refl;
    gives = λ p heap held tree h s. CameTo-none p sets sets heap tree group _ (λ c. sets.test (path_of group) c && false) (λ c. with_false (sets.test (path_of group) c));
  };
}

-- the rest is inside the group
pub IsLanding-inside : {S I : Type 0} (start sets : Sets I) (group : GroupView S I) (objects : Conditional Slot S I) (handlers : List (Leaf (Option ℕ) S I)) (i : ℕ) (rest : GroupView S I) (outcomes : List (Outcome S I)) → IsLanding start sets group objects handlers i rest outcomes → (c : List Bool) → sets.test (path_of rest) c ≡ true → start.test (path_of group) c ≡ true
IsLanding-inside start sets group objects handlers i rest outcomes f = split-inside start sets group rest (λ c. is_none (handler_by start (take i handlers) c)) f.left

-- a leaf's condition has nothing of the leaves before it
kept : (b : Bool) (o : Option ℕ) → (b && not (is_some o && false)) ≡ b
kept true None = refl
kept true (Some n) = refl
kept false o = refl

left_on : (a d : Bool) (v : Option (Option ℕ)) (o : Option ℕ) → (d ≡ true → v ≡ None) → ((a && is_none (unwrap_or v None)) && not (is_some o && d)) ≡ (a && is_none (unwrap_or (if d then Some o else v) None))
left_on true true v None f = rw (f refl) refl
left_on true true v (Some n) f = rw (f refl) refl
left_on false true v o f = refl
left_on a false v o f = kept (a && is_none (unwrap_or v None)) o

nothing : (b a : Bool) (o : Option ℕ) → (b || (a && (is_some o && false))) ≡ b
nothing true a o = refl
nothing false true None = refl
nothing false true (Some n) = refl
nothing false false o = refl

landed_on : (a d : Bool) (v : Option (Option ℕ)) (o : Option ℕ) → (d ≡ true → v ≡ None) → ((a && is_some (unwrap_or v None)) || ((a && is_none (unwrap_or v None)) && (is_some o && d))) ≡ (a && is_some (unwrap_or (if d then Some o else v) None))
landed_on true true v None f = rw (f refl) refl
landed_on true true v (Some n) f = rw (f refl) refl
landed_on false true v o f = refl
landed_on a false v o f = nothing (a && is_some (unwrap_or v None)) (a && is_none (unwrap_or v None)) o

apart_on : (a b : Bool) (o : Option ℕ) → (a && is_some o) ≡ true → ((a && is_none o) && b) ≡ false
apart_on true b None h = cc h
apart_on true b (Some n) h = refl
apart_on false b o h = cc

pub IsLanding-step : {S I : Type 0} {s0 s1 s2 : Sets I} (group : GroupView S I) (objects : Conditional Slot S I) (handlers : List (Leaf (Option ℕ) S I)) (i : ℕ) (x : Leaf (Option ℕ) S I) (rest next : GroupView S I) (outcomes more : List (Outcome S I)) → IsCond slot_cmp s0 objects → AreLeaves handler_cmp s0 handlers → i < length handlers → x ≡ get_or handlers i x → IsLanding s0 s1 group objects handlers i rest outcomes → Extends s1 s2 → IsPartOf s1 s2 (λ c. s1.test (path_of rest) c && not (lands s1 x c)) rest next → AreLanded s1 s2 rest objects (λ _. x.value) (λ c. s1.test (path_of rest) c && lands s1 x c) more → IsLanding s0 s2 group objects handlers (i + 1) next (outcomes ++ more)
IsLanding-step {s0 = s0} {s1 = s1} {s2 = s2} group objects handlers i x rest next outcomes more v leaves l is f e q m =
    let leaf = next_leaf handler_cmp s0 handlers i x leaves l is in
    let whole : List Bool → Bool = s0.test (path_of group) in
    let flying : List Bool → Bool = s1.test (path_of rest) in
    let here : List Bool → Bool = s0.test x.condition in
    let before : List Bool → Option (Option ℕ) = value_at s0 (take i handlers) in
    let after : List Bool → Option ℕ = handler_by s0 (take (i + 1) handlers) in
    let path : (c : List Bool) → flying c ≡ (whole c && is_none (unwrap_or (before c) None)) = part_path s0 s1 _ group rest f.left in
    let condition : (c : List Bool) → s1.test x.condition c ≡ here c = λ c. f.extends.test x.condition c leaf.known in
    let none : (c : List Bool) → here c ≡ true → before c ≡ None = λ c t. leaf.before.none c t in
    let more_at : (c : List Bool) → unwrap_or (if here c then Some x.value else before c) None ≡ after c = λ c. ap (λ o. unwrap_or o None) (sym (leaf.more c)) in
    let left_set : (c : List Bool) → (flying c && not (lands s1 x c)) ≡ (whole c && is_none (after c)) = λ c. (λ j. path c j && not (is_some x.value && condition c j)) ∙ left_on (whole c) (here c) (before c) x.value (none c) ∙ ap (λ o. whole c && is_none o) (more_at c) in
    let landed_set : (c : List Bool) → ((whole c && is_some (unwrap_or (before c) None)) || (flying c && lands s1 x c)) ≡ (whole c && is_some (after c)) = λ c. (λ j. (whole c && is_some (unwrap_or (before c) None)) || (path c j && (is_some x.value && condition c j))) ∙ landed_on (whole c) (here c) (before c) x.value (none c) ∙ ap (λ o. whole c && is_some o) (more_at c) in
    let apart : (c : List Bool) → (whole c && is_some (unwrap_or (before c) None)) ≡ true → (flying c && lands s1 x c) ≡ false = λ c t. ap (λ b. b && lands s1 x c) (path c) ∙ apart_on (whole c) (lands s1 x c) (unwrap_or (before c) None) t in
    record {
      extends = Extends-trans f.extends e;
      left = part_of_part s0 s1 s2 _ _ (λ c. whole c && is_none (after c)) group rest next f.left q (λ c t. both_first (flying c) (not (lands s1 x c)) t) left_set;
      landed = record {
        placed = list_all-append is_placed outcomes more ∙ (λ j. f.landed.placed j && m.placed j);
        gives = λ p heap held tree h s.
            let h1 = IsHeap-extends f.extends heap h in
            let set : List Bool → Bool = λ c. whole c && is_none (unwrap_or (before c) None) in
            let inside : (c : List Bool) → set c ≡ true → whole c ≡ true = λ c t. both_first (whole c) (is_none (unwrap_or (before c) None)) t in
            let what : List Bool → PlainOutcome = λ c. landing_from s0 objects (handler_by s0 handlers) heap c (state_at s0 heap tree group c) in
            let there : List Bool → PlainOutcome = λ c. landing_from s1 objects (λ _. x.value) heap c (state_at s1 heap tree rest c) in
            let on = Continues-part p tree f.extends heap h set group rest inside s f.left in
            let held1 = objects_held f.extends heap h objects v (path_of group) (path_of rest) (split-inside s0 s1 group rest (λ c. is_none (unwrap_or (before c) None)) f.left) held in
            let law : (c : List Bool) → (flying c && lands s1 x c) ≡ true → there c ≡ what c = λ c t.
            let in_rest = sym (path c) ∙ both_first (flying c) (lands s1 x c) t in
            let in_leaf = sym (condition c) ∙ both_second (is_some x.value) (s1.test x.condition c) (both_second (flying c) (lands s1 x c) t) in
            let state = state_at-part p tree f.extends heap h set group rest s f.left c in_rest in
            let value : handler_by s0 handlers c ≡ x.value = ap (λ o. unwrap_or o None) (leaf_value handler_cmp s0 handlers i x c leaves l is in_leaf) in
            λ j. landing (state j) (thrown_later f.extends heap h objects v c j) (sym value j) in
            let more_came = CameTo-within p s0 s1 s2 heap tree group rest there what (λ c. flying c && lands s1 x c) more on law (m.gives p heap held1 tree h1 on.stands) in
            let came = CameTo-extends p s0 tree e heap h1 group what (λ c. whole c && is_some (unwrap_or (before c) None)) outcomes (f.landed.gives p heap held tree h s) in
            CameTo-same p s0 s2 heap tree group what what (λ c. (whole c && is_some (unwrap_or (before c) None)) || (flying c && lands s1 x c)) (λ c. whole c && is_some (after c)) (outcomes ++ more) landed_set (λ c t. refl) (CameTo-append p s0 s2 heap tree group what (λ c. whole c && is_some (unwrap_or (before c) None)) (λ c. flying c && lands s1 x c) outcomes more apart came more_came);
      };
    }

-- all leaves were gone through
pub IsLanding-end : {S I : Type 0} (s0 s1 : Sets I) (group : GroupView S I) (objects : Conditional Slot S I) (handlers : List (Leaf (Option ℕ) S I)) (i : ℕ) (rest : GroupView S I) (outcomes : List (Outcome S I)) → IsLanding s0 s1 group objects handlers i rest outcomes → length handlers ≤ i → IsPartOf s0 s1 (λ c. s0.test (path_of group) c && is_none (handler_by s0 handlers c)) group rest × AreLanded s0 s1 group objects (handler_by s0 handlers) (λ c. s0.test (path_of group) c && is_some (handler_by s0 handlers c)) outcomes
IsLanding-end {S = S} {I = I} s0 s1 group objects handlers i rest outcomes f l =
    let P : List (Leaf (Option ℕ) S I) → Type 0 = λ xs. IsPartOf s0 s1 (λ c. s0.test (path_of group) c && is_none (handler_by s0 xs c)) group rest in
    let Q : List (Leaf (Option ℕ) S I) → Type 0 = λ xs. AreLanded s0 s1 group objects (handler_by s0 handlers) (λ c. s0.test (path_of group) c && is_some (handler_by s0 xs c)) outcomes in
    (subst P (take_all i handlers l) f.left, subst Q (take_all i handlers l) f.landed)
