-- Groups whose operands are put in another order: what they come to.
use Rattle.std.proofs.Common.{◌≡◌, ◌≢◌, ℕ, ◌+◌, ◌<◌, ◌≤◌, zero, suc, Bool, true, false, List, [], ◌∷◌, ◌++◌, refl, sym, ◌∙◌, ap, subst, arith, map, take, drop, length, get_or}
use Rattle.std.proofs.lemmas.Bool.{lt-leb}
use Rattle.std.proofs.lemmas.Option.{same_Some}
use Rattle.std.proofs.lemmas.List.{length-append, length-drop, length-map, length-reverse, map-append}
use Rattle.std.specs.Prelude.{Option, Some, None, IfSome, is_some, unwrap_or}
use Rattle.std.specs.List.{list_all}
use Rattle.vx_value.specs.declared.slot.Slot.{Slot}
use Rattle.vx_value.specs.Slot.{slot_cmp}
use Rattle.vx_space.specs.Sets.{Sets, Extends, IsLawful}
use Rattle.vx_space.proofs.Differences.{some_difference}
use Rattle.vx_space.proofs.Spaces.{Extends-refl}
use Rattle.vx_cond.specs.declared.cond.Leaf.{Leaf}
use Rattle.vx_cond.specs.Leaves.{AreLeaves, value_at}
use Rattle.vx_cond.specs.Cond.{Conditional, IsCond, cond_at}
use Rattle.vx_cond.specs.Row.{Conditionals, IsRow}
use Rattle.vx_cond.proofs.SideLaws.{cond_at-covers}
use Rattle.vx_frame.specs.Frame.{Shape, frame_at}
use Rattle.vx_group.specs.Group.{GroupView, IsPartOf, path_of}
use Rattle.vx_group.proofs.GroupLaws.{IsGroupIn-group, IsGroup-path_known}
use Rattle.vx_heap.specs.Heap.{HeapView, is_held, value_of}
use Rattle.vx_heap.proofs.HeapLaws.{IsHeap-extends}
use Rattle.vx_java.specs.Machine.{Here, State, Value, at_position, go, illegal, illegal_in, settle, stack_size, when}
use Rattle.vx_java.specs.Machine.{Top as TopValue, Int as IntValue, Long as LongValue, Null as NullValue, Ref as RefValue, Text as TextValue}
use Rattle.vx_java.specs.Row.{row_of}
use Rattle.vx_java.specs.declared.operation.Operation.{Operation}
use Rattle.vx_java.specs.declared.operation.Operation.TheVariants.{Stack}
use Rattle.vx_java.specs.declared.operation.Shuffle.{Shuffle}
use Rattle.vx_outcome.specs.declared.outcome.Outcome.{Outcome}
use Rattle.vx_group_states.specs.Answering.{operands_at}
use Rattle.vx_group_states.specs.Sites.{Gives, GivesAt, here}
use Rattle.vx_group_states.specs.Stands.{state_at}
use Rattle.vx_group_states.specs.declared.site.Site.{Site}
use Rattle.vx_group_states.proofs.AnswerLaws.{all_drop, map_drop}
use Rattle.vx_group_states.proofs.EndingLaws.{GivesAt-before}
use Rattle.vx_group_states.proofs.Gathering.{leaf_value}
use Rattle.vx_group_states.proofs.OutcomeStates.{CameTo-through}
use Rattle.vx_group_states.proofs.StateLaws.{Continues-moved, both, both_first, both_second, operands_held, state_at-moved}
use Rattle.vx_families.specs.Attempts.{IsAttemptBy, IsGiven, row_by}
use Rattle.vx_families.proofs.AttemptLaws.{AttemptsBy-as, IsAttemptBy-is}
use Rattle.vx_families.proofs.Given.{given_stack_scope}
use Rattle.vx_stack.specs.Cuts.{counts_of, cut_by, first_cut}
use Rattle.vx_stack.specs.Exact.{cut_cmp}
use Rattle.vx_stack.specs.Forms.{ArePossible, formed_as, formed_by, formed_where, operands_reordered, order_of, reordered}
use Rattle.vx_stack.specs.declared.cut.Cut.{Cut}
use Rattle.vx_stack.specs.declared.cut.Cut.TheVariants.{Divided}
use Rattle.vx_stack.specs.declared.order.Order.{Order}
use Rattle.vx_stack.specs.declared.order.Order.TheVariants.{Dropped, Swapped, Doubled}
use Rattle.vx_stack.proofs.CutLaws.{counts_within, stack-formed}
use Rattle.vx_families.proofs.Pushes.{operand_count, words_at_least}

-- ---- lists in another order

map_take : {A B : Type 0} (f : A → B) (n : ℕ) (xs : List A) → map f (take n xs) ≡ take n (map f xs)
map_take f zero xs = refl
map_take f (suc n) [] = refl
map_take f (suc n) (x ∷ xs) = ap (λ ys. f x ∷ ys) (map_take f n xs)

map_both : {A B : Type 0} (f : A → B) (a b rest : List A) → map f (a ++ (b ++ rest)) ≡ map f a ++ (map f b ++ map f rest)
map_both f a b rest = map-append f a (b ++ rest) ∙ ap (λ xs. map f a ++ xs) (map-append f b rest)

map_reordered : {A B : Type 0} (f : A → B) (order : Order) (a b rest : List A) → map f (reordered order a b rest) ≡ reordered order (map f a) (map f b) (map f rest)
map_reordered f Dropped a b rest = refl
map_reordered f Swapped a b rest = map_both f b a rest
map_reordered f Doubled a b rest = map-append f a (b ++ (a ++ rest)) ∙ ap (λ xs. map f a ++ xs) (map_both f b a rest)

pub map_operands : {A B : Type 0} (f : A → B) (order : Order) (u l : ℕ) (xs : List A) → map f (operands_reordered order u l xs) ≡ operands_reordered order u l (map f xs)
map_operands f order u l xs =
    let above = map_take f u xs in
    let under = map_take f l (drop u xs) ∙ ap (take l) (map_drop f u xs) in
    let rest = map_drop f l (drop u xs) ∙ ap (drop l) (map_drop f u xs) in
    map_reordered f order (take u xs) (take l (drop u xs)) (drop l (drop u xs)) ∙ (λ i. reordered order (above i) (under i) (rest i))

all_take : {A : Type 0} (f : A → Bool) (n : ℕ) (xs : List A) → list_all f xs ≡ true → list_all f (take n xs) ≡ true
all_take f zero xs h = refl
all_take f (suc n) [] h = refl
all_take f (suc n) (x ∷ xs) h = both (f x) _ (both_first (f x) (list_all f xs) h) (all_take f n xs (both_second (f x) (list_all f xs) h))

all_append : {A : Type 0} (f : A → Bool) (xs ys : List A) → list_all f xs ≡ true → list_all f ys ≡ true → list_all f (xs ++ ys) ≡ true
all_append f [] ys h k = k
all_append f (x ∷ xs) ys h k = both (f x) _ (both_first (f x) (list_all f xs) h) (all_append f xs ys (both_second (f x) (list_all f xs) h) k)

all_reordered : {A : Type 0} (f : A → Bool) (order : Order) (a b rest : List A) → list_all f a ≡ true → list_all f b ≡ true → list_all f rest ≡ true → list_all f (reordered order a b rest) ≡ true
all_reordered f Dropped a b rest h k r = r
all_reordered f Swapped a b rest h k r = all_append f b (a ++ rest) k (all_append f a rest h r)
all_reordered f Doubled a b rest h k r = all_append f a (b ++ (a ++ rest)) h (all_append f b (a ++ rest) k (all_append f a rest h r))

all_operands : {A : Type 0} (f : A → Bool) (order : Order) (u l : ℕ) (xs : List A) → list_all f xs ≡ true → list_all f (operands_reordered order u l xs) ≡ true
all_operands f order u l xs h =
    let below = all_drop f u xs h in
    all_reordered f order (take u xs) (take l (drop u xs)) (drop l (drop u xs)) (all_take f u xs h) (all_take f l (drop u xs) below) (all_drop f l (drop u xs) below)

rest_within : {A : Type 0} (order : Order) (a b rest : List A) → length rest ≤ length (reordered order a b rest)
rest_within Dropped a b rest = omega arith
rest_within Swapped a b rest = omega (arith, length-append b (a ++ rest), length-append a rest)
rest_within Doubled a b rest = omega (arith, length-append a (b ++ (a ++ rest)), length-append b (a ++ rest), length-append a rest)

-- ---- operands that don't fit

no_room : (h : Here) (values : List Value) → h.code.max_stack < length values → settle h values ≡ illegal h
no_room h values more = ap (λ b. when b (go h values) (illegal h)) (lt-leb (stack_size values) h.code.max_stack (omega (arith, more, words_at_least values)))

-- no more than four operands are taken off
formed_full : (site : Site) (order : Order) (u l : ℕ) (s : State) → u ≤ 2 → l ≤ 2 → site.code.now.max_stack + 4 < length s.top.operands → formed_by site order u l s ≡ illegal (here site s)
formed_full site order u l s a b more =
    let operands = s.top.operands in
    let rest = drop l (drop u operands) in
    let left : site.code.now.max_stack < length rest = omega (arith, a, b, more, length-drop l (drop u operands), length-drop u operands) in
    no_room (here site s) (operands_reordered order u l operands) (omega (arith, left, rest_within order (take u operands) (take l (drop u operands)) rest))

-- ---- one part

pub full-gives : {S I : Type 0} (site : Site) (sets : Sets I) (group : GroupView S I) (order : Order) (u l : ℕ) (outcomes : List (Outcome S I)) → u ≤ 2 → l ≤ 2 → site.code.now.max_stack + 4 < length group.top.stack.conds → Gives site.program.now (illegal_in site.program.now) sets sets group outcomes → Gives site.program.now (formed_by site order u l) sets sets group outcomes
full-gives site sets group order u l outcomes a b more gives heap = GivesAt-before site.program.now sets group heap (λ _ _. illegal_in site.program.now) (λ _ _. formed_by site order u l) outcomes (Extends-refl sets) (λ tree h s c t.
    let P : ℕ → Type 0 = λ n. site.code.now.max_stack + 4 < n in
    sym (formed_full site order u l (state_at sets heap tree group c) a b (subst P (sym (operand_count sets heap group c)) more))) (gives heap)

-- a group whose operands were put in another order, and then settled
pub counted-gives : {S I : Type 0} (site : Site) {s0 s1 : Sets I} (s2 : Sets I) (group after : GroupView S I) (order : Order) (u l : ℕ) (outcomes : List (Outcome S I)) → Extends s0 s1 → after ≡ record group { top = record (group.top) { stack = after.top.stack } } → IsRow slot_cmp s1 after.top.stack → after.top.stack.scope ≡ path_of group → ((c : List Bool) → operands_at s1 after.top.stack c ≡ operands_reordered order u l (operands_at s0 group.top.stack c)) → Gives site.program.now (λ s. settle (here site s) s.top.operands) s1 s2 after outcomes → Gives site.program.now (formed_by site order u l) s0 s2 group outcomes
counted-gives {S = S} {I = I} site {s0 = s0} {s1 = s1} s2 group after order u l outcomes e same row scope at gives heap tree h s =
    let p = site.program.now in
    let alone = IsGroupIn-group s0 tree group s.is_group in
    let stack = after.top.stack in
    let position = group.top.position in
    let moved : GroupView S I = record group { top = record (group.top) { position = position; stack = stack } } in
    let G : GroupView S I → Type 0 = λ g. Gives p (λ s. settle (here site s) s.top.operands) s1 s2 g outcomes in
    let operands : List Bool → List Slot = λ c. operands_reordered order u l (frame_at s0 group.top c).operands in
    let continues = Continues-moved p tree e heap h group stack position operands s row scope (λ c t. at c) (λ c t. all_operands (is_held s0 heap c) order u l (frame_at s0 group.top c).operands (operands_held p s0 heap tree group s c t)) in
    CameTo-through p s0 s1 s2 heap tree group moved (λ c. settle (here site (state_at s1 heap tree moved c)) (state_at s1 heap tree moved c).top.operands) (λ c. formed_by site order u l (state_at s0 heap tree group c)) (s0.test (path_of group)) outcomes continues (λ c. e.test (path_of group) c (IsGroup-path_known s0 group alone)) (λ c t.
    let state = state_at s0 heap tree group c in
    ap (λ (r : State). settle (here site r) r.top.operands) (state_at-moved p tree e heap h group stack position s c (operands c) (at c)) ∙ ap (λ values. settle (here site (at_position state position values)) values) (map_operands (value_of s0 heap c) order u l (frame_at s0 group.top c).operands)) (subst G same gives heap tree (IsHeap-extends e heap h) continues.stands)

-- ---- the parts

-- some configuration of a leaf
somewhere : {S I : Type 0} {sets : Sets I} → IsLawful sets → (cuts : List (Leaf Cut S I)) (i : ℕ) (x : Leaf Cut S I) → AreLeaves cut_cmp sets cuts → i < length cuts → x ≡ get_or cuts i x → (c : List Bool) × (sets.test x.condition c ≡ true)
somewhere {sets = sets} lawful cuts i x k l e =
    let facts = nonempty cuts i k l e in
    let found = some_difference lawful x.condition sets.never facts.0 lawful.never_known facts.1 in
    (found.0, differs (sets.test x.condition found.0) (sets.test sets.never found.0) (lawful.never_test found.0) found.1)
  where
    differs : (a b : Bool) → b ≡ false → a ≢ b → a ≡ true
    differs true b h n = refl
    differs false b h n = absurd (n (sym h))

    nonempty : (ks : List (Leaf Cut _ _)) (j : ℕ) → AreLeaves cut_cmp sets ks → j < length ks → x ≡ get_or ks j x → (sets.is_known x.condition ≡ true) × (x.condition ≢ sets.never)
    nonempty [] j h m g = absurd (omega arith)
    nonempty (y ∷ ys) zero h m g = rw g (h.0.known, h.0.nonempty)
    nonempty (y ∷ ys) (suc j) h m g = nonempty ys j h.1 (omega arith) g

-- a part has as many operands as the group
part_count : {S I : Type 0} (old new : Sets I) (set : List Bool → Bool) (group part : GroupView S I) → IsPartOf old new set group part → length group.top.stack.conds ≡ length part.top.stack.conds
unfolding IsPartOf
part_count old new set group part q = sym (ap (λ (s : Shape). s.part.depth) q.shape)

pub part_possible : {S I : Type 0} {s0 : Sets I} (s1 s2 : Sets I) → IsLawful s0 → (set inner : List Bool → Bool) (group rest part : GroupView S I) (cuts : List (Leaf Cut S I)) (i : ℕ) (x : Leaf Cut S I) → AreLeaves cut_cmp s0 cuts → i < length cuts → x ≡ get_or cuts i x → ArePossible s0 (length group.top.stack.conds) cuts → IsPartOf s0 s1 set group rest → IsPartOf s1 s2 inner rest part → IfSome (counts_of x.value) (λ n. n.0 + n.1 ≤ length part.top.stack.conds)
part_possible {s0 = s0} s1 s2 lawful set inner group rest part cuts i x k l e possible r q =
    let some = somewhere lawful cuts i x k l e in
    let P : ℕ → Type 0 = λ count. IfSome (counts_of x.value) (λ n. n.0 + n.1 ≤ count) in
    subst P (part_count s0 s1 set group rest r ∙ part_count s1 s2 inner rest part q) (possible.enough some.0 x.value (leaf_value cut_cmp s0 cuts i x some.0 k l e some.1))

some_is : {T : Type 0} (o : Option T) (v : T) → o ≡ Some v → is_some o ≡ true
some_is o v e = rw e refl

pub all_possible : {S I : Type 0} (s0 s1 : Sets I) (stack : Conditionals Slot S I) (form : Shuffle) (found : Conditional Cut S I) (count : ℕ) → Extends s0 s1 → s0.is_known stack.scope ≡ true → IsCond cut_cmp s1 found → found.scope ≡ stack.scope → length stack.conds ≡ count → ((c : List Bool) → s0.test stack.scope c ≡ true → cond_at s1 found c ≡ Some (cut_by (first_cut form) (operands_at s0 stack c))) → ArePossible s1 count found.leaves
all_possible s0 s1 stack form found count e known v scope number at = record {
  enough = λ c cut h.
      let inside : s1.test found.scope c ≡ true = sym (cond_at-covers cut_cmp s1 found v c) ∙ some_is (cond_at s1 found c) cut h in
      let there : s0.test stack.scope c ≡ true = sym (e.test stack.scope c known) ∙ ap (λ i. s1.test i c) (sym scope) ∙ inside in
      let slots = operands_at s0 stack c in
      let turned : length slots ≡ length stack.conds = simp (length-map, length-reverse) in
      let long : length slots ≡ count = turned ∙ number in
      let same : Some cut ≡ Some (cut_by (first_cut form) slots) = sym h ∙ at c there in
      within slots cut long same (counts_of cut) refl;
}
  where
    within : (slots : List Slot) (cut : Cut) → length slots ≡ count → Some cut ≡ Some (cut_by (first_cut form) slots) → (o : Option (ℕ × ℕ)) → counts_of cut ≡ o → IfSome o (λ n. n.0 + n.1 ≤ count)
    within slots cut long same None g = tt
    within slots cut long same (Some (u, l)) g =
        let counts : counts_of (cut_by (first_cut form) slots) ≡ Some (u, l) = sym (ap counts_of (same_Some cut (cut_by (first_cut form) slots) same)) ∙ g in
        omega (arith, counts_within form slots u l counts, long)

-- ---- the whole group

-- where the cut is that of the operands, the form does what its row says
pub formed-row : {S I : Type 0} (site : Site) (sets s1 : Sets I) (heap : HeapView S I) (c : List Bool) (form : Shuffle) (cuts : List (Leaf Cut S I)) (slots : List Slot) (s : State) → s.top.operands ≡ map (value_of sets heap c) slots → value_at s1 cuts c ≡ Some (cut_by (first_cut form) slots) → formed_where site (order_of form) s1 cuts c s ≡ row_of (here site s) (Stack form) s.top.operands
formed-row site sets s1 heap c form cuts slots s e at = ap (λ o. formed_as site (order_of form) (counts_of (unwrap_or o Divided)) s) at ∙ sym (stack-formed sets heap c site form s slots e)

pub counts-gives : {S I : Type 0} (site : Site) (order : Order) (old new : Sets I) (group : GroupView S I) (outcomes : List (Outcome S I)) (o counts : Option (ℕ × ℕ)) → o ≡ counts → Gives site.program.now (formed_as site order o) old new group outcomes → Gives site.program.now (formed_as site order counts) old new group outcomes
counts-gives site order old new group outcomes o counts e h =
    let P : Option (ℕ × ℕ) → Type 0 = λ n. Gives site.program.now (formed_as site order n) old new group outcomes in
    subst P e h

pub attempt-by : {S I : Type 0} (site : Site) (operation : Operation) {s0 s1 s2 : Sets I} (heap : HeapView S I) (group : GroupView S I) (form : Shuffle) (found : Conditional Cut S I) (outcomes : List (Outcome S I)) → operation ≡ Stack form → Extends s0 s1 → Extends s1 s2 → IsGiven site operation s0 heap group → ((c : List Bool) → s0.test group.top.stack.scope c ≡ true → cond_at s1 found c ≡ Some (cut_by (first_cut form) (operands_at s0 group.top.stack c))) → ((heap : HeapView S I) → GivesAt site.program.now (λ _. formed_where site (order_of form) s1 found.leaves) s1 s2 group outcomes heap) → IsAttemptBy site operation s0 s2 heap heap group outcomes
attempt-by site operation {s0 = s0} {s1 = s1} {s2 = s2} heap group form found outcomes is e f given at gives =
    let scope = given_stack_scope site operation s0 heap group given in
    IsAttemptBy-is site operation (Stack form) s0 s2 heap heap group outcomes is (AttemptsBy-as site operation (row_by site (Stack form)) heap group (λ _. formed_where site (order_of form) s1 found.leaves) outcomes e f given (λ tree s c t. formed-row site s0 s1 heap c form found.leaves (operands_at s0 group.top.stack c) (state_at s0 heap tree group c) refl (at c (ap (λ i. s0.test i c) scope ∙ t))) (gives heap))
