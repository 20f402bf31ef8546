-- Runs that end since no frame takes what they throw, by the classes of the objects.
use Rattle.std.proofs.Common.{◌≡◌, ℕ, ◌+◌, ◌<◌, ◌≤◌, Bool, true, false, List, [], ◌∷◌, ◌++◌, refl, sym, ◌∙◌, ap, get_or, length, take}
use Rattle.std.proofs.lemmas.List.{take_all}
use Rattle.std.proofs.lemmas.List.Folds.{list_all-append}
use Rattle.std.specs.Prelude.{Option, None, ◌&&◌, ◌||◌, is_some, option_map, unwrap_or}
use Rattle.std.specs.List.{list_all}
use Rattle.std.specs.Ordering.{nat_cmp}
use Rattle.vx_space.specs.Sets.{Sets, Extends}
use Rattle.vx_cond.specs.declared.cond.Leaf.{Leaf}
use Rattle.vx_cond.specs.Leaves.{AreLeaves, value_at}
use Rattle.vx_cond.specs.Cond.{Conditional, IsCondLifting, cond_at}
use Rattle.vx_cond.specs.Slots.{slot_at}
use Rattle.vx_cond.proofs.LeafLoops.{next_leaf}
use Rattle.vx_cond.proofs.SideLaws.{cond_at-covers}
use Rattle.vx_families.proofs.Tops.{lifted_one}
use Rattle.vx_frames.proofs.ClassLaws.{class_there}
use Rattle.vx_group.specs.declared.callers.Caller.{Caller}
use Rattle.vx_group.specs.Group.{GroupView, path_of}
use Rattle.vx_group_states.specs.Sites.{Cover, GivesAt}
use Rattle.vx_group_states.specs.Stands.{CameTo, IsThrown, is_object, object_named, state_at}
use Rattle.vx_group_states.proofs.EndingLaws.{GivesAt-before}
use Rattle.vx_group_states.proofs.Gathering.{leaf_value, widened}
use Rattle.vx_group_states.proofs.OutcomeStates.{CameTo-append, CameTo-none, CameTo-one, CameTo-same}
use Rattle.vx_group_states.proofs.SettleLaws.{lifting_at}
use Rattle.vx_heap.specs.Heap.{HeapView, is_held, objects_at}
use Rattle.vx_java.specs.Machine.{Ended, State, object_at}
use Rattle.vx_java.specs.Machine.{Outcome as PlainOutcome}
use Rattle.vx_link.specs.ClassNames.{class_text}
use Rattle.vx_link.specs.declared.program.Program.{Program}
use Rattle.vx_outcome.specs.declared.outcome.Outcome.{Outcome}
use Rattle.vx_outcome.specs.declared.outcome.Outcome.TheVariants as shared
use Rattle.vx_standing.specs.Attempted.{is_placed}
use Rattle.vx_value.specs.Slot.{slot_cmp}
use Rattle.vx_value.specs.declared.end.End.{End}
use Rattle.vx_value.specs.declared.end.End.TheVariants.{Uncaught}
use Rattle.vx_value.specs.declared.ids.ClassId.{ClassId}
use Rattle.vx_value.specs.declared.slot.Slot.{Slot}
use Rattle.vx_value.specs.declared.slot.Slot.TheVariants.{Top, Int, Long, Null, Ref, Text}
use Rattle.vx_throw.specs.Flights.{class_number, uncaught_from}
use Rattle.vx_throw.specs.Landings.{number_by}

-- the end at a configuration
abbrev pub ended_by : {S I : Type 0} → Program → Sets I → List (Leaf ℕ S I) → List Bool → PlainOutcome
ended_by p sets classes c = Ended (Uncaught (class_text p (number_by sets classes c)))

-- ---- the loop over the classes

-- what it keeps: the ends of the classes so far
pub record IsEnding {S I : Type 0} (p : Program) (sets : Sets I) (classes : List (Leaf ℕ S I)) (i : ℕ) (outcomes : List (Outcome S I)) : Type 0 where
  pub placed : list_all is_placed outcomes ≡ true
  pub came : (heap : HeapView S I) (tree : List (Option (Caller S I))) (group : GroupView S I) → CameTo p sets sets heap tree group (ended_by p sets classes) (λ c. is_some (value_at sets (take i classes) c)) outcomes

pub IsEnding-start : {S I : Type 0} (p : Program) (sets : Sets I) (classes : List (Leaf ℕ S I)) → IsEnding p sets classes 0 []
IsEnding-start p sets classes = record { placed = refl; came = λ heap tree group. CameTo-none p sets sets heap tree group _ (λ c. false) (λ c. refl) }

not_both : {T : Type 0} (b : Bool) (o : Option T) → (b ≡ true → o ≡ None) → is_some o ≡ true → b ≡ false
not_both true o f h = let none = ap is_some (f refl) in cc (none, h)
not_both false o f h = refl

pub IsEnding-step : {S I : Type 0} (p : Program) (sets : Sets I) (classes : List (Leaf ℕ S I)) (i : ℕ) (x : Leaf ℕ S I) (end : End) (outcomes : List (Outcome S I)) → AreLeaves nat_cmp sets classes → i < length classes → x ≡ get_or classes i x → end ≡ Uncaught (class_text p x.value) → IsEnding p sets classes i outcomes → IsEnding p sets classes (i + 1) (outcomes ++ shared.Ended x.condition end ∷ [])
IsEnding-step p sets classes i x end outcomes leaves l e is f =
    let leaf = next_leaf nat_cmp sets classes i x leaves l e in
    let before : List Bool → Bool = λ c. is_some (value_at sets (take i classes) c) in
    let apart : (c : List Bool) → before c ≡ true → sets.test x.condition c ≡ false = λ c t. not_both (sets.test x.condition c) (value_at sets (take i classes) c) (λ u. leaf.before.none c u) t in
    record {
      placed = list_all-append is_placed outcomes (shared.Ended x.condition end ∷ []) ∙ (λ j. f.placed j && true);
      came = λ heap tree group.
          let one = CameTo-one p sets sets heap tree group (ended_by p sets classes) (sets.test x.condition) (shared.Ended x.condition end) leaf.known (λ c. refl) (λ c t. ap Ended is ∙ ap (λ o. Ended (Uncaught (class_text p (unwrap_or o 0)))) (sym (leaf_value nat_cmp sets classes i x c leaves l e t))) in
          CameTo-same p sets sets heap tree group (ended_by p sets classes) (ended_by p sets classes) (λ c. before c || sets.test x.condition c) (λ c. is_some (value_at sets (take (i + 1) classes) c)) (outcomes ++ shared.Ended x.condition end ∷ []) (λ c. widened (sets.test x.condition c) (value_at sets (take i classes) c) x.value ∙ ap is_some (sym (leaf.more c))) (λ c t. refl) (CameTo-append p sets sets heap tree group (ended_by p sets classes) before (sets.test x.condition) outcomes (shared.Ended x.condition end ∷ []) apart (f.came heap tree group) one);
    }

pub IsEnding-end : {S I : Type 0} (p : Program) (sets : Sets I) (group : GroupView S I) (classes : List (Leaf ℕ S I)) (i : ℕ) (outcomes : List (Outcome S I)) → Cover sets (path_of group) classes → length classes ≤ i → IsEnding p sets classes i outcomes → (heap : HeapView S I) → GivesAt p (λ _ c _. ended_by p sets classes c) sets sets group outcomes heap
IsEnding-end p sets group classes i outcomes cover l f heap tree h s =
    CameTo-same p sets sets heap tree group (ended_by p sets classes) (ended_by p sets classes) (λ c. is_some (value_at sets (take i classes) c)) (sets.test (path_of group)) outcomes (λ c. ap (λ xs. is_some (value_at sets xs c)) (take_all i classes l) ∙ cover.at c) (λ c t. refl) (f.came heap tree group)

-- ---- the classes of the objects

-- the class of the object that a slot names
number_there : {S I : Type 0} (sets : Sets I) (heap : HeapView S I) (c : List Bool) (s : State) (slot : Slot) → s.heap ≡ objects_at sets heap c → is_object slot ≡ true → is_held sets heap c slot ≡ true → class_number heap slot ≡ (object_at s (object_named sets heap c slot)).class
number_there sets heap c s Top e o h = cc o
number_there sets heap c s (Int n) e o h = cc o
number_there sets heap c s (Long n) e o h = cc o
number_there sets heap c s Null e o h = cc o
number_there sets heap c s (Text n) e o h = cc o
number_there sets heap c s (Ref i) e o h = ap (λ (class : Option ClassId). unwrap_or (option_map (λ x. x.0) class) 0) (class_there sets heap c i s.heap e h)

pub ended-gives : {S I : Type 0} (p : Program) {s0 s1 : Sets I} → Extends s0 s1 → (heap : HeapView S I) (group : GroupView S I) (objects : Conditional Slot S I) (R : Slot → ℕ → Type 0) (classes : Conditional ℕ S I) (outcomes : List (Outcome S I)) → ((slot : Slot) (n : ℕ) → R slot n → n ≡ class_number heap slot) → IsThrown s0 heap group objects → IsCondLifting nat_cmp s1 R (cond_at s0 objects) classes → GivesAt p (λ _ c _. ended_by p s1 classes.leaves c) s1 s1 group outcomes heap → GivesAt p (uncaught_from p s0 objects) s0 s1 group outcomes heap
ended-gives p {s0 = s0} {s1 = s1} e heap group objects R classes outcomes law thrown l gives =
    GivesAt-before p s1 group heap (λ _ c _. ended_by p s1 classes.leaves c) (uncaught_from p s0 objects) outcomes e (λ tree h s c t.
    let slot = slot_at s0 objects c in
    let covered = cond_at-covers slot_cmp s0 objects thrown.is_cond c ∙ ap (λ i. s0.test i c) thrown.scope ∙ t in
    let number = lifted_one 0 R (class_number heap) (cond_at s0 objects c) (cond_at s1 classes c) law covered (lifting_at nat_cmp s1 R (cond_at s0 objects) classes l c) in
    ap (λ n. Ended (Uncaught (class_text p n))) (number ∙ number_there s0 heap c (state_at s0 heap tree group c) slot refl (thrown.object c t) (thrown.held c t))) gives
