-- A class that is marked, and the attempt that follows.
use Rattle.std.proofs.Common.{◌≡◌, ℕ, suc, Bool, true, false, List, [], ◌∷◌, ◌&&◌, refl, sym, ◌∙◌, ap, arith, length, map}
use Rattle.std.proofs.lemmas.List.{length-map, nil_from_length}
use Rattle.std.specs.Prelude.{Option, Some, None, if◌then◌else◌, is_some}
use Rattle.vx_cond.specs.Cond.{Conditional, IsInside}
use Rattle.vx_families.proofs.AttemptLaws.{AttemptsBy-ended, AttemptsIn-by}
use Rattle.vx_families.specs.Attempts.{AttemptsIn, IsAttemptIn, IsGiven, row_by}
use Rattle.vx_families.specs.Sorts.{slot_is_of, top_of}
use Rattle.vx_frames.proofs.EnterLaws.{stack_depth}
use Rattle.vx_frames.proofs.GivingLaws.{Attempts-gives}
use Rattle.vx_frames.specs.Giving.{GivesIn}
use Rattle.vx_group.proofs.CallerLaws.{Keeps-refl}
use Rattle.vx_group.specs.Callers.{callers_of}
use Rattle.vx_group.specs.Group.{GroupView, IsGroupIn, depth_of, path_of}
use Rattle.vx_group.specs.declared.callers.Caller.{Caller}
use Rattle.vx_group_states.proofs.GrownStates.{StandsIn-grown}
use Rattle.vx_group_states.proofs.OutcomeStates.{CameTo-same}
use Rattle.vx_group_states.proofs.StateLaws.{both_first}
use Rattle.vx_group_states.specs.Answering.{operands_at}
use Rattle.vx_group_states.specs.Sites.{Gives, here}
use Rattle.vx_group_states.specs.Stands.{StandsIn, state_at}
use Rattle.vx_group_states.specs.declared.site.Site.{Site}
use Rattle.vx_families.proofs.ChangeLaws.{attempts_follow, statics_change_in, unchanged}
use Rattle.vx_families.specs.Changing.{IsChangedIn, changed_in, with_globals}
use Rattle.vx_heap.proofs.HeapLaws.{globals_at-extends}
use Rattle.vx_heap.specs.Heap.{Globals, HeapView, IsHeap, globals_at, value_of}
use Rattle.vx_java.specs.Machine.{Outcome as PlainOutcome, State, illegal, illegal_in, when}
use Rattle.vx_java.specs.Returns.{agrees, return_to, return_value, values_returned}
use Rattle.vx_java.specs.declared.operation.Operation.{Operation}
use Rattle.vx_java.specs.declared.operation.Operation.TheVariants.{Return}
use Rattle.vx_java.specs.declared.operation.Sort.{Sort}
use Rattle.vx_link.specs.Parts.{method_at}
use Rattle.vx_link.specs.Signature.{signature}
use Rattle.vx_link.specs.declared.program.Program.{Program}
use Rattle.vx_outcome.specs.declared.outcome.Outcome.{Outcome}
use Rattle.vx_ready.proofs.Climbing.{runs_inside}
use Rattle.vx_ready.specs.Changing.{IsChanged}
use Rattle.vx_ready.specs.Initialising.{marked_at, with_done}
use Rattle.vx_ready.specs.declared.initialising.Mark.{Mark}
use Rattle.vx_space.proofs.Spaces.{Extends-refl, Extends-trans}
use Rattle.vx_space.specs.Sets.{Extends, IsSet, Sets}
use Rattle.vx_value.specs.declared.ids.ClassId.{ClassId}
use Rattle.vx_value.specs.declared.slot.Slot.{Slot}
use Rattle.vx_returns.proofs.ReturnLaws.{handed_slot, initialises_by, judged, left_is_return, marked}
use Rattle.vx_returns.specs.Handing.{IsReturning, done_by, handed, has_initialised, left_by, left_where}

-- ---- the mark

unmarked : (b : Bool) (x y : Globals) → b ≡ false → (if b then x else y) ≡ y
unmarked b x y h = rw h refl

-- no other frame waits for it
pub not_marked : {S I : Type 0} (p : Program) (sets : Sets I) (heap : HeapView S I) (group : GroupView S I) (set : List Bool → Bool) → IsHeap sets heap → has_initialised group ≡ false → IsChangedIn sets sets heap heap set (λ _. done_by p group)
not_marked p sets heap group set v h = unchanged sets heap set (λ _. done_by p group) v (λ c t. unmarked (has_initialised group) _ (globals_at sets heap c) h)

none_marked : (b : Bool) (class : ℕ) (g : Globals) → b ≡ false → with_done (if b then class ∷ [] else []) g ≡ g
none_marked b class g h = rw h refl

one_marked : (b d : Bool) (class : ℕ) (g : Globals) → b ≡ true → d ≡ true → with_done (if b then class ∷ [] else []) g ≡ (if d then with_done (class ∷ []) g else g)
one_marked b d class g h k = rw (h, k) refl

pub is_marked : {S I : Type 0} (p : Program) {s0 s1 : Sets I} (before after : HeapView S I) (group : GroupView S I) (mark : Mark S I) (path : I) → mark.class ≡ (method_at p group.top.method.0).class → mark.condition ≡ path → has_initialised group ≡ true → IsChanged s0 s1 before after (λ c. with_done (marked_at s0 (mark ∷ []) c)) → IsChangedIn s0 s1 before after (s0.test path) (λ _. done_by p group)
is_marked p {s0 = s0} {s1 = s1} before after group mark path named same h changed =
    let outside : (c : List Bool) → s0.test path c ≡ false → (g : Globals) → with_done (marked_at s0 (mark ∷ []) c) g ≡ g = λ c t g. none_marked (s0.test mark.condition c) mark.class.0 g (ap (λ i. s0.test i c) same ∙ t) in
    let made = statics_change_in s0 s1 before after (s0.test path) (λ c. with_done (marked_at s0 (mark ∷ []) c)) changed.is_heap changed.same changed.statics changed.inits changed.at outside in
    record {
      is_heap = made.is_heap;
      grows = made.grows;
      keeps = made.keeps;
      inside = λ c t. changed.at c ∙ one_marked (s0.test mark.condition c) (has_initialised group) mark.class.0 (globals_at s0 before c) (ap (λ i. s0.test i c) same ∙ t) h ∙ ap (λ n. if has_initialised group then with_done (n ∷ []) (globals_at s0 before c) else globals_at s0 before c) (ap (λ (k : ClassId). k.0) named);
      outside = made.outside;
    }

-- ---- the attempt

-- a change that begins over a later space
changed_before : {S I : Type 0} {s0 s1 s2 : Sets I} (before after : HeapView S I) (set : List Bool → Bool) (change : List Bool → Globals → Globals) → Extends s0 s1 → IsHeap s0 before → IsChangedIn s1 s2 before after set change → IsChangedIn s0 s2 before after set change
changed_before {s0 = s0} {s1 = s1} before after set change e v k = record {
  is_heap = k.is_heap;
  grows = k.grows;
  keeps = k.keeps;
  inside = λ c t. k.inside c t ∙ ap (change c) (globals_at-extends e before v c);
  outside = λ c t. k.outside c t ∙ globals_at-extends e before v c;
}

-- the class is marked in a set of configurations, and calls said what comes of the group over the later heap
pub returned-attempts : {S I : Type 0} (site : Site) (says : State → PlainOutcome) (there : List Bool → State → PlainOutcome) {s0 s1 s2 s3 : Sets I} (before after : HeapView S I) (tree : List (Option (Caller S I))) (group : GroupView S I) (set : List Bool → Bool) (outcomes : List (Outcome S I)) → IsReturning site s0 before tree group → Extends s0 s1 → Extends s1 s2 → IsChangedIn s1 s2 before after set (λ _. done_by site.program.now group) → ((c : List Bool) → set c ≡ true → s0.test (path_of group) c ≡ true) → Extends s2 s3 → ((c : List Bool) → s0.test (path_of group) c ≡ true → there c (with_globals (state_at s0 before tree group c) (changed_in set (λ _. done_by site.program.now group) c (globals_at s0 before c))) ≡ says (state_at s0 before tree group c)) → GivesIn site.program.now (λ _. there) s2 s3 tree tree group outcomes after → AttemptsIn site says s0 s3 before after tree tree group outcomes
returned-attempts site says there {s0 = s0} {s1 = s1} {s2 = s2} {s3 = s3} before after tree group set outcomes r e f changed inside g law gives =
    let p = site.program.now in
    let to2 = Extends-trans e f in
    let change : List Bool → Globals → Globals = λ _. done_by p group in
    let whole = changed_before before after set change e r.is_heap changed in
    record {
      is_for = changed.keeps p r.is_for;
      attempts = attempts_follow p says there s0 s2 s3 before after set change tree tree group outcomes r.is_heap r.stands to2 whole inside g (Keeps-refl tree) law (gives changed.is_heap (StandsIn-grown p to2 (Keeps-refl tree) before after r.is_heap changed.grows group r.stands));
    }

-- a group has as many callers as frames below the one on top
callers_length : {S I : Type 0} (p : Program) (sets : Sets I) (heap : HeapView S I) (tree : List (Option (Caller S I))) (group : GroupView S I) → IsGroupIn sets tree group → (c : List Bool) → length (state_at sets heap tree group c).callers ≡ length group.below
callers_length p sets heap tree group v c =
    let frames = callers_of tree (length group.below) group.caller in
    let deep : suc (length frames) ≡ depth_of group = stack_depth sets tree group v in
    let same : length frames ≡ length group.below = omega (arith, deep) in
    simp length-map same

-- the mark is that of the machine
marks : {S I : Type 0} (p : Program) (sets : Sets I) (heap : HeapView S I) (tree : List (Option (Caller S I))) (group : GroupView S I) → IsGroupIn sets tree group → (c : List Bool) → done_by p group (globals_at sets heap c) ≡ marked p (state_at sets heap tree group c) group.top.kind (state_at sets heap tree group c).callers
marks p sets heap tree group v c =
    let state = state_at sets heap tree group c in
    let below : length state.callers ≡ length group.below = callers_length p sets heap tree group v c in
    ap (λ b. if b then with_done ((method_at p group.top.method.0).class.0 ∷ []) (globals_at sets heap c) else globals_at sets heap c) (sym (initialises_by group.top.kind state.callers (length group.below) below))

-- a class that is done inside a set
done_inside : (b : Bool) (x y : Globals) → b ≡ true → (if b then x else y) ≡ x
done_inside b x y h = rw h refl

-- nothing is handed back
pub nothing_law : {S I : Type 0} (site : Site) (sets : Sets I) (heap : HeapView S I) (tree : List (Option (Caller S I))) (group : GroupView S I) → IsGroupIn sets tree group → (c : List Bool) → sets.test (path_of group) c ≡ true → left_by site false (with_globals (state_at sets heap tree group c) (changed_in (sets.test (path_of group)) (λ _. done_by site.program.now group) c (globals_at sets heap c))) ≡ return_value (here site (state_at sets heap tree group c)) (values_returned None (state_at sets heap tree group c).top.operands)
nothing_law site sets heap tree group v c t =
    let p = site.program.now in
    let state = state_at sets heap tree group c in
    ap (λ g. left_by site false (with_globals state g)) (done_inside (sets.test (path_of group) c) (done_by p group (globals_at sets heap c)) (globals_at sets heap c) t ∙ marks p sets heap tree group v c) ∙ left_is_return site state [] group.top.kind state.callers

-- a value of the sort is handed back where the set holds, and the return breaks a rule elsewhere
pub value_law : {S I : Type 0} (site : Site) (s0 s1 s2 : Sets I) (heap : HeapView S I) (tree : List (Option (Caller S I))) (group : GroupView S I) (sort : Sort) (fits : I) → IsGroupIn s0 tree group → Extends s1 s2 → IsSet s1 fits (λ c. s0.test (path_of group) c && slot_is_of sort (top_of (operands_at s0 group.top.stack c))) → (c : List Bool) → s0.test (path_of group) c ≡ true → left_where site true (s2.test fits c) (with_globals (state_at s0 heap tree group c) (changed_in (s1.test fits) (λ _. done_by site.program.now group) c (globals_at s0 heap c))) ≡ return_value (here site (state_at s0 heap tree group c)) (values_returned (Some sort) (state_at s0 heap tree group c).top.operands)
value_law site s0 s1 s2 heap tree group sort fits v e set c t =
    let p = site.program.now in
    let state = state_at s0 heap tree group c in
    let g = globals_at s0 heap c in
    let fit : s1.test fits c ≡ is_some (values_returned (Some sort) state.top.operands) = set.test c ∙ there (s0.test (path_of group) c) (slot_is_of sort (top_of (operands_at s0 group.top.stack c))) t ∙ handed_slot s0 heap c sort (operands_at s0 group.top.stack c) in
    ap (λ b. left_where site true b (with_globals state (changed_in (s1.test fits) (λ _. done_by p group) c g))) (e.test fits c set.known)
    ∙ by_set (s1.test fits c)
    ∙ judged (here site state) sort state.top.operands (s1.test fits c) fit
  where
    there : (a b : Bool) → a ≡ true → (a && b) ≡ b
    there true b h = refl
    there false b h = cc

    by_set : (b : Bool) → left_where site true b (with_globals (state_at s0 heap tree group c) (if b then done_by site.program.now group (globals_at s0 heap c) else globals_at s0 heap c)) ≡ when b (return_to (here site (state_at s0 heap tree group c)) group.top.kind (handed true (state_at s0 heap tree group c).top.operands) (state_at s0 heap tree group c).callers) (illegal (here site (state_at s0 heap tree group c)))
    by_set true = ap (λ x. left_by site true (with_globals (state_at s0 heap tree group c) x)) (marks site.program.now s0 heap tree group v c) ∙ left_is_return site (state_at s0 heap tree group c) (handed true (state_at s0 heap tree group c).top.operands) group.top.kind (state_at s0 heap tree group c).callers
    by_set false = refl

-- ---- the attempts of both kinds of return

-- where the value is of the sort the group runs
pub fits_run : {S I : Type 0} (site : Site) {s0 s1 : Sets I} (heap : HeapView S I) (tree : List (Option (Caller S I))) (group : GroupView S I) (fits : I) (asks : List Bool → Bool) → IsReturning site s0 heap tree group → Extends s0 s1 → IsSet s1 fits (λ c. s0.test (path_of group) c && asks c) → IsInside s1 fits heap.allowed
fits_run site {s0 = s0} {s1 = s1} heap tree group fits asks r e set = runs_inside e (Extends-refl s1) heap (path_of group) fits r.is_heap r.stands.runs set.known (λ c t. both_first (s0.test (path_of group) c) (asks c) (sym (set.test c) ∙ t))

pub nothing-attempts : {S I : Type 0} (site : Site) (s0 s1 s2 : Sets I) (before after : HeapView S I) (tree : List (Option (Caller S I))) (group : GroupView S I) (outcomes : List (Outcome S I)) → IsReturning site s0 before tree group → Extends s0 s1 → IsChangedIn s0 s1 before after (s0.test (path_of group)) (λ _. done_by site.program.now group) → Extends s1 s2 → GivesIn site.program.now (λ _ _. left_by site false) s1 s2 tree tree group outcomes after → AttemptsIn site (λ s. return_value (here site s) (values_returned None s.top.operands)) s0 s2 before after tree tree group outcomes
nothing-attempts site s0 s1 s2 before after tree group outcomes r e changed f gives =
    returned-attempts site (λ s. return_value (here site s) (values_returned None s.top.operands)) (λ _. left_by site false) before after tree group (s0.test (path_of group)) outcomes r (Extends-refl s0) e changed (λ c t. t) f (λ c t. nothing_law site s0 before tree group r.stands.is_group c t) gives

pub value-attempts : {S I : Type 0} (site : Site) (sort : Sort) (s0 s1 s2 : Sets I) {s3 : Sets I} (before after : HeapView S I) (tree : List (Option (Caller S I))) (group : GroupView S I) (fits : I) (outcomes : List (Outcome S I)) → IsReturning site s0 before tree group → Extends s0 s1 → IsSet s1 fits (λ c. s0.test (path_of group) c && slot_is_of sort (top_of (operands_at s0 group.top.stack c))) → Extends s1 s2 → IsChangedIn s1 s2 before after (s1.test fits) (λ _. done_by site.program.now group) → Extends s2 s3 → GivesIn site.program.now (λ _ c. left_where site true (s2.test fits c)) s2 s3 tree tree group outcomes after → AttemptsIn site (λ s. return_value (here site s) (values_returned (Some sort) s.top.operands)) s0 s3 before after tree tree group outcomes
value-attempts site sort s0 s1 s2 before after tree group fits outcomes r e set f changed k gives =
    returned-attempts site (λ s. return_value (here site s) (values_returned (Some sort) s.top.operands)) (λ c. left_where site true (s2.test fits c)) before after tree group (s1.test fits) outcomes r e f changed (λ c t. both_first (s0.test (path_of group) c) _ (sym (set.test c) ∙ t)) k (λ c t. value_law site s0 s1 s2 before tree group sort fits r.stands.is_group f set c t) gives

-- there is no operand
pub empty-attempts : {S I : Type 0} (site : Site) (sort : Sort) (sets : Sets I) (heap : HeapView S I) (tree : List (Option (Caller S I))) (group : GroupView S I) (outcomes : List (Outcome S I)) → IsReturning site sets heap tree group → length group.top.stack.conds ≡ 0 → Gives site.program.now (illegal_in site.program.now) sets sets group outcomes → AttemptsIn site (λ s. return_value (here site s) (values_returned (Some sort) s.top.operands)) sets sets heap heap tree tree group outcomes
empty-attempts {S = S} {I = I} site sort sets heap tree group outcomes r none gives =
    let law : (c : List Bool) → illegal_in site.program.now (state_at sets heap tree group c) ≡ return_value (here site (state_at sets heap tree group c)) (values_returned (Some sort) (state_at sets heap tree group c).top.operands) = λ c. ap (λ operands. return_value (here site (state_at sets heap tree group c)) (values_returned (Some sort) operands)) (sym (no_operands c)) in
    record {
      is_for = r.is_for;
      attempts = Attempts-gives site.program.now (λ s. return_value (here site s) (values_returned (Some sort) s.top.operands)) tree tree group outcomes heap (Extends-refl sets) r.is_heap r.stands (Keeps-refl tree) (λ h s. CameTo-same site.program.now sets sets heap tree group (λ c. illegal_in site.program.now (state_at sets heap tree group c)) _ (sets.test (path_of group)) (sets.test (path_of group)) outcomes (λ c. refl) (λ c t. law c) (gives heap tree h s));
    }
  where
    no_operands : (c : List Bool) → (state_at sets heap tree group c).top.operands ≡ []
    no_operands c =
        let conds : group.top.stack.conds ≡ [] = nil_from_length group.top.stack.conds none in
        ap (λ (conds : List (Conditional Slot S I)). map (value_of sets heap c) (operands_at sets (record (group.top.stack) { conds = conds }) c)) conds

-- ---- the operation

-- the sort of the value doesn't agree with the descriptor
pub disagreed-attempts : {S I : Type 0} (site : Site) (operation : Operation) (sets : Sets I) (heap : HeapView S I) (tree : List (Option (Caller S I))) (group : GroupView S I) (sort : Option Sort) (outcomes : List (Outcome S I)) → operation ≡ Return sort → IsGiven site operation sets heap group → StandsIn site.program.now sets heap tree group → agrees sort (signature (method_at site.program.now group.top.method.0).descriptor).result ≡ false → Gives site.program.now (illegal_in site.program.now) sets sets group outcomes → IsAttemptIn site operation sets sets heap heap tree tree group outcomes
disagreed-attempts site operation sets heap tree group sort outcomes is given s disagrees gives =
    AttemptsIn-by site (row_by site operation) sets sets heap heap tree group outcomes s (AttemptsBy-ended site operation (row_by site operation) heap group (illegal_in site.program.now) outcomes (Extends-refl sets) given (λ other k c t.
    let state = state_at sets heap other group c in
    sym (ap (λ o. row_by site o state) is ∙ ap (λ b. when b (return_value (here site state) (values_returned sort state.top.operands)) (illegal (here site state))) disagrees)) gives)

-- it agrees: what comes is what is said of the value that is handed back
pub agreed-attempts : {S I : Type 0} (site : Site) (operation : Operation) (s0 s1 : Sets I) (before after : HeapView S I) (tree later : List (Option (Caller S I))) (group : GroupView S I) (sort other : Option Sort) (outcomes : List (Outcome S I)) → operation ≡ Return sort → sort ≡ other → agrees sort (signature (method_at site.program.now group.top.method.0).descriptor).result ≡ true → AttemptsIn site (λ s. return_value (here site s) (values_returned other s.top.operands)) s0 s1 before after tree later group outcomes → IsAttemptIn site operation s0 s1 before after tree later group outcomes
agreed-attempts site operation s0 s1 before after tree later group sort other outcomes is same agreed a = record {
  is_for = a.is_for;
  attempts = record {
    is_heap = a.attempts.is_heap;
    grows = a.attempts.grows;
    keeps = a.attempts.keeps;
    came = CameTo-same site.program.now s0 s1 after later group _ _ (s0.test (path_of group)) (s0.test (path_of group)) outcomes (λ c. refl) (λ c t.
        let state = state_at s0 before tree group c in
        sym (ap (λ o. row_by site o state) is ∙ ap (λ b. when b (return_value (here site state) (values_returned sort state.top.operands)) (illegal (here site state))) agreed ∙ ap (λ x. return_value (here site state) (values_returned x state.top.operands)) same)) a.attempts.came;
    outside = a.attempts.outside;
  };
}
