-- checkcast and instanceof, by whether the class is there that the entry names.
use Rattle.std.proofs.Common.{◌≡◌, ℕ, ◌<◌, ◌≤◌, Bool, true, false, List, [], ◌∷◌, ◌++◌, refl, sym, ◌∙◌, ap, subst, arith, drop, length, map, if◌then◌else◌}
use Rattle.std.specs.Prelude.{◌&&◌, Option, None, Some, not, option_map}
use Rattle.vx_cond.specs.Cond.{Conditional, IsCondOf}
use Rattle.vx_cond.specs.Leaves.{value_within}
use Rattle.vx_families.specs.Sorts.{top_of}
use Rattle.vx_families.specs.Pools.{pool_class}
use Rattle.vx_frame.specs.declared.frame.Frame.{Frame}
use Rattle.vx_group.specs.Group.{GroupView, IsPartOf, path_of}
use Rattle.vx_group_states.specs.Answering.{AreHeld, answered, answered_by, is_answer_held, operands_at}
use Rattle.vx_group_states.specs.Answers.{answer_cmp}
use Rattle.vx_group_states.specs.Sites.{Gives, GivesAt, here}
use Rattle.vx_group_states.specs.Stands.{state_at}
use Rattle.vx_group_states.specs.declared.answer.Answer.{Answer}
use Rattle.vx_group_states.specs.declared.answer.Answer.TheVariants as answer
use Rattle.vx_group_states.specs.declared.site.Site.{Site}
use Rattle.vx_group_states.proofs.EndingLaws.{GivesAt-before}
use Rattle.vx_group_states.proofs.Operands.{length-operands}
use Rattle.vx_heap.specs.Heap.{HeapView, value_of}
use Rattle.vx_java.specs.Checks.{if_there}
use Rattle.vx_java.specs.Ids.{as_class}
use Rattle.vx_java.specs.Machine.{Here, Outcome, State, Value, go, illegal, push, raise, unsupported, when}
use Rattle.vx_java.specs.Machine.{Top as TopValue, Int as IntValue, Long as LongValue, Null as NullValue, Ref as RefValue, Text as TextValue}
use Rattle.vx_java.specs.Objects.{against, check_cast, instance_of, int_of_bool}
use Rattle.vx_java.specs.Operation.{class_word}
use Rattle.vx_java.proofs.Walks.{number_of, numbers_back}
use Rattle.vx_link.specs.ClassNames.{class_named}
use Rattle.vx_link.specs.Names.{class_name}
use Rattle.vx_link.specs.Parts.{class_at, method_at}
use Rattle.vx_objects.specs.Answers.{cast_top, is_null, names_nothing, told_top, without_class}
use Rattle.vx_families.proofs.Operands.{one_answer}
use Rattle.vx_outcome.specs.declared.outcome.Outcome.{Outcome as SharedOutcome}
use Rattle.vx_ready.proofs.Splitting.{split-gives}
use Rattle.vx_space.specs.Sets.{Extends, IsSet, Sets}
use Rattle.vx_space.proofs.Spaces.{Extends-refl}
use Rattle.vx_value.specs.declared.ids.ClassId.{ClassId}
use Rattle.vx_value.specs.declared.slot.Slot.{Slot}
use Rattle.vx_value.specs.declared.slot.Slot.TheVariants.{Top, Int, Long, Null, Ref, Text}

-- ---- answers that name nothing

nothing_held : {S I : Type 0} (sets : Sets I) (heap : HeapView S I) (c : List Bool) (a : Answer) → names_nothing a ≡ true → is_answer_held sets heap c a ≡ true
nothing_held sets heap c (answer.Give Null) t = refl
nothing_held sets heap c (answer.Push (Int n)) t = refl
nothing_held sets heap c _ t = cc

nothing_same : {S I : Type 0} (s0 s1 : Sets I) (heap : HeapView S I) (c : List Bool) (h : Here) (rest : List Value) (a : Answer) → names_nothing a ≡ true → answered s1 heap c h rest a ≡ answered s0 heap c h rest a
nothing_same s0 s1 heap c h rest (answer.Give Null) t = refl
nothing_same s0 s1 heap c h rest (answer.Push (Int n)) t = refl
nothing_same s0 s1 heap c h rest _ t = cc

-- one answer is carried out in all runs of a group
pub answered-gives : {S I : Type 0} (site : Site) {s0 : Sets I} (s1 : Sets I) (group : GroupView S I) (answers : Conditional Answer S I) (a : Answer) (outcomes : List (SharedOutcome S I)) → names_nothing a ≡ true → IsCondOf answer_cmp s0 (value_within s0 (path_of group) (λ _. Some a)) answers → ((heap : HeapView S I) → AreHeld s0 heap (path_of group) answers → GivesAt site.program.now (answered_by site 1 s0 answers) s0 s1 group outcomes heap) → (heap : HeapView S I) → GivesAt site.program.now (λ heap c s. answered s0 heap c (here site s) (drop 1 s.top.operands) a) s0 s1 group outcomes heap
answered-gives site {s0 = s0} s1 group answers a outcomes names v gives heap =
    let at = one_answer s0 (path_of group) a answers v in
    GivesAt-before site.program.now s1 group heap (answered_by site 1 s0 answers) (λ heap c s. answered s0 heap c (here site s) (drop 1 s.top.operands) a) outcomes (Extends-refl s0) (λ tree h s c t.
    let state = state_at s0 heap tree group c in
    ap (answered s0 heap c (here site state) (drop 1 state.top.operands)) (at c t))
    (gives heap (record { held = λ c t. ap (is_answer_held s0 heap c) (at c t) ∙ nothing_held s0 heap c a names }))

-- ---- the class isn't there

by_null : {S I : Type 0} (sets : Sets I) (heap : HeapView S I) (c : List Bool) (h : Here) (i : ℕ) (passes : Outcome) (slots : List Slot) → 1 ≤ length slots → (if is_null (top_of slots) then passes else unsupported h class_word (class_name h.pool i)) ≡ without_class h i passes (map (value_of sets heap c) slots)
by_null sets heap c h i passes [] some = absurd (omega (arith, some))
by_null sets heap c h i passes (Top ∷ rest) some = refl
by_null sets heap c h i passes (Int n ∷ rest) some = refl
by_null sets heap c h i passes (Long n ∷ rest) some = refl
by_null sets heap c h i passes (Null ∷ rest) some = refl
by_null sets heap c h i passes (Ref r ∷ rest) some = refl
by_null sets heap c h i passes (Text n ∷ rest) some = refl

if_yes : {T : Type 0} (b : Bool) (x y : T) → b ≡ true → x ≡ (if b then x else y)
if_yes b x y h = rw h refl

if_no : {T : Type 0} (b : Bool) (x y : T) → b ≡ false → y ≡ (if b then x else y)
if_no b x y h = rw h refl

pub without-gives : {S I : Type 0} (site : Site) (index : ℕ) (a : Answer) {s0 s1 s2 : Sets I} (s3 : Sets I) (group passing others : GroupView S I) (null : I) (xs ys : List (SharedOutcome S I)) → names_nothing a ≡ true → 1 ≤ length group.top.stack.conds → Extends s0 s1 → IsSet s1 null (λ c. s0.test (path_of group) c && is_null (top_of (operands_at s0 group.top.stack c))) → Extends s1 s2 → IsPartOf s1 s2 (λ c. s1.test (path_of group) c && s1.test null c) group passing → IsPartOf s1 s2 (λ c. s1.test (path_of group) c && not (s1.test null c)) group others → ((heap : HeapView S I) → GivesAt site.program.now (λ heap c s. answered s2 heap c (here site s) (drop 1 s.top.operands) a) s2 s3 passing xs heap) → ((heap : HeapView S I) → GivesAt site.program.now (λ heap c s. unsupported (here site s) class_word (class_name (here site s).pool index)) s2 s3 others ys heap) → (heap : HeapView S I) → GivesAt site.program.now (λ heap c s. without_class (here site s) index (answered s0 heap c (here site s) (drop 1 s.top.operands) a) s.top.operands) s0 s3 group (xs ++ ys) heap
without-gives {S = S} {I = I} site index a {s0 = s0} {s1 = s1} {s2 = s2} s3 group passing others null xs ys names some e set f inside outside passes ends heap =
    let p = site.program.now in
    let passed : HeapView S I → List Bool → State → Outcome = λ heap c s. answered s2 heap c (here site s) (drop 1 s.top.operands) a in
    let ended : HeapView S I → List Bool → State → Outcome = λ heap c s. unsupported (here site s) class_word (class_name (here site s).pool index) in
    let says : HeapView S I → List Bool → State → Outcome = λ heap c s. if s1.test null c then passed heap c s else ended heap c s in
    GivesAt-before p s3 group heap says (λ heap c s. without_class (here site s) index (answered s0 heap c (here site s) (drop 1 s.top.operands) a) s.top.operands) (xs ++ ys) e (λ tree h s c t.
    let state = state_at s0 heap tree group c in
    let slots = operands_at s0 group.top.stack c in
    let N : ℕ → Type 0 = λ n. 1 ≤ n in
    let null_is : s1.test null c ≡ is_null (top_of slots) = set.test c ∙ ap (λ b. b && is_null (top_of slots)) t in
    let same = nothing_same s0 s2 heap c (here site state) (drop 1 state.top.operands) a names in
    (λ i. if null_is i then same i else ended heap c state)
    ∙ by_null s0 heap c (here site state) index (answered s0 heap c (here site state) (drop 1 state.top.operands) a) slots (subst N (sym (length-operands s0 group.top.stack c)) some))
    (split-gives p (s1.test null) group passing others says passed ended xs ys heap f inside outside (λ c t s. if_yes (s1.test null c) (passed heap c s) (ended heap c s) t) (λ c t s. if_no (s1.test null c) (passed heap c s) (ended heap c s) t) (passes heap) (ends heap))

no_null : {S I : Type 0} (sets : Sets I) (heap : HeapView S I) (c : List Bool) (h : Here) (i : ℕ) (passes : Outcome) (slots : List Slot) → length slots < 1 → unsupported h class_word (class_name h.pool i) ≡ without_class h i passes (map (value_of sets heap c) slots)
no_null sets heap c h i passes [] few = refl
no_null sets heap c h i passes (slot ∷ rest) few = absurd (omega (arith, few))

pub empty-gives : {S I : Type 0} (site : Site) (index : ℕ) (a : Answer) (sets : Sets I) (group : GroupView S I) (outcomes : List (SharedOutcome S I)) → length group.top.stack.conds < 1 → Gives site.program.now (λ s. unsupported (here site s) class_word (class_name (here site s).pool index)) sets sets group outcomes → (heap : HeapView S I) → GivesAt site.program.now (λ heap c s. without_class (here site s) index (answered sets heap c (here site s) (drop 1 s.top.operands) a) s.top.operands) sets sets group outcomes heap
empty-gives site index a sets group outcomes few gives heap =
    GivesAt-before site.program.now sets group heap (λ _ _ s. unsupported (here site s) class_word (class_name (here site s).pool index)) (λ heap c s. without_class (here site s) index (answered sets heap c (here site s) (drop 1 s.top.operands) a) s.top.operands) outcomes (Extends-refl sets) (λ tree h s c t.
    let state = state_at sets heap tree group c in
    let N : ℕ → Type 0 = λ n. n < 1 in
    no_null sets heap c (here site state) index (answered sets heap c (here site state) (drop 1 state.top.operands) a) (operands_at sets group.top.stack c) (subst N (sym (length-operands sets group.top.stack c)) few))
    (gives heap)

-- ---- the rows

-- the class that an entry names, of the pool that was looked at
pub named_there : {S I : Type 0} (site : Site) (group : GroupView S I) (top : Frame S I) (class : ClassId) (index : ℕ) (found : Option ClassId) → top ≡ group.top → class ≡ (method_at site.program.now top.method.0).class → found ≡ option_map as_class (class_named site.program.now (class_name (class_at site.program.now class.0).pool index)) → class_named site.program.now (class_name (class_at site.program.now (pool_class site group)).pool index) ≡ number_of found
named_there {S = S} {I = I} site group top class index found same of is =
    let there : class ≡ (method_at site.program.now group.top.method.0).class = of ∙ ap (λ (t : Frame S I). (method_at site.program.now t.method.0).class) same in
    ap (λ (k : ClassId). class_named site.program.now (class_name (class_at site.program.now k.0).pool index)) (sym there)
    ∙ sym (numbers_back (class_named site.program.now (class_name (class_at site.program.now class.0).pool index)))
    ∙ ap number_of (sym is)

chosen : (h : Here) (name : List ℕ) (wanted : ℕ) (k : ℕ → Outcome) → class_named h.program name ≡ Some wanted → k wanted ≡ if_there h name (class_named h.program name) k
chosen h name wanted k e = ap (λ o. if_there h name o k) (sym e)

lacking : (h : Here) (name : List ℕ) (k : ℕ → Outcome) → class_named h.program name ≡ None → unsupported h class_word name ≡ if_there h name (class_named h.program name) k
lacking h name k e = ap (λ o. if_there h name o k) (sym e)

abbrev casts : Here → Value → List Value → ℕ → Outcome
casts h v rest wanted = against h v wanted (λ fits. when fits (go h (v ∷ rest)) (raise h "java/lang/ClassCastException"))

pub cast_named : (h : Here) (name : List ℕ) (wanted : ℕ) (operands : List Value) → class_named h.program name ≡ Some wanted → cast_top h wanted operands ≡ check_cast h name operands
cast_named h name wanted [] e = chosen h name wanted (λ _. illegal h) e
cast_named h name wanted (NullValue ∷ rest) e = refl
cast_named h name wanted (TopValue ∷ rest) e = chosen h name wanted (casts h TopValue rest) e
cast_named h name wanted (IntValue n ∷ rest) e = chosen h name wanted (casts h (IntValue n) rest) e
cast_named h name wanted (LongValue n ∷ rest) e = chosen h name wanted (casts h (LongValue n) rest) e
cast_named h name wanted (RefValue r ∷ rest) e = chosen h name wanted (casts h (RefValue r) rest) e
cast_named h name wanted (TextValue units ∷ rest) e = chosen h name wanted (casts h (TextValue units) rest) e

pub cast_lacking : (h : Here) (i : ℕ) (operands : List Value) → class_named h.program (class_name h.pool i) ≡ None → without_class h i (go h (NullValue ∷ drop 1 operands)) operands ≡ check_cast h (class_name h.pool i) operands
cast_lacking h i [] e = lacking h (class_name h.pool i) (λ _. illegal h) e
cast_lacking h i (NullValue ∷ rest) e = refl
cast_lacking h i (TopValue ∷ rest) e = lacking h (class_name h.pool i) (casts h TopValue rest) e
cast_lacking h i (IntValue n ∷ rest) e = lacking h (class_name h.pool i) (casts h (IntValue n) rest) e
cast_lacking h i (LongValue n ∷ rest) e = lacking h (class_name h.pool i) (casts h (LongValue n) rest) e
cast_lacking h i (RefValue r ∷ rest) e = lacking h (class_name h.pool i) (casts h (RefValue r) rest) e
cast_lacking h i (TextValue units ∷ rest) e = lacking h (class_name h.pool i) (casts h (TextValue units) rest) e

abbrev tells : Here → Value → List Value → ℕ → Outcome
tells h v rest wanted = against h v wanted (λ fits. push h (int_of_bool fits) rest)

pub told_named : (h : Here) (name : List ℕ) (wanted : ℕ) (operands : List Value) → class_named h.program name ≡ Some wanted → told_top h wanted operands ≡ instance_of h name operands
told_named h name wanted [] e = chosen h name wanted (λ _. illegal h) e
told_named h name wanted (NullValue ∷ rest) e = refl
told_named h name wanted (TopValue ∷ rest) e = chosen h name wanted (tells h TopValue rest) e
told_named h name wanted (IntValue n ∷ rest) e = chosen h name wanted (tells h (IntValue n) rest) e
told_named h name wanted (LongValue n ∷ rest) e = chosen h name wanted (tells h (LongValue n) rest) e
told_named h name wanted (RefValue r ∷ rest) e = chosen h name wanted (tells h (RefValue r) rest) e
told_named h name wanted (TextValue units ∷ rest) e = chosen h name wanted (tells h (TextValue units) rest) e

pub told_lacking : (h : Here) (i : ℕ) (operands : List Value) → class_named h.program (class_name h.pool i) ≡ None → without_class h i (push h (int_of_bool false) (drop 1 operands)) operands ≡ instance_of h (class_name h.pool i) operands
told_lacking h i [] e = lacking h (class_name h.pool i) (λ _. illegal h) e
told_lacking h i (NullValue ∷ rest) e = refl
told_lacking h i (TopValue ∷ rest) e = lacking h (class_name h.pool i) (tells h TopValue rest) e
told_lacking h i (IntValue n ∷ rest) e = lacking h (class_name h.pool i) (tells h (IntValue n) rest) e
told_lacking h i (LongValue n ∷ rest) e = lacking h (class_name h.pool i) (tells h (LongValue n) rest) e
told_lacking h i (RefValue r ∷ rest) e = lacking h (class_name h.pool i) (tells h (RefValue r) rest) e
told_lacking h i (TextValue units ∷ rest) e = lacking h (class_name h.pool i) (tells h (TextValue units) rest) e
