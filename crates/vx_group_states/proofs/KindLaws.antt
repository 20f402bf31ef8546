-- A group that is divided by the kinds of answers.
use Rattle.std.proofs.Common.{◌≡◌, ◌≢◌, ℕ, ◌<◌, zero, suc, Bool, true, false, List, [], ◌∷◌, refl, sym, ◌∙◌, ap, subst, arith, drop, get_or, length}
use Rattle.std.specs.Prelude.{◌&&◌, Option, Some, None, is_some, unwrap_or}
use Rattle.std.proofs.lemmas.Bool.Decides.{nat_tests}
use Rattle.vx_space.specs.Sets.{Sets, Extends, IsLawful}
use Rattle.vx_space.proofs.Differences.{some_difference}
use Rattle.vx_cond.specs.declared.cond.Leaf.{Leaf}
use Rattle.vx_cond.specs.Leaves.{AreLeaves, IsLifted}
use Rattle.vx_cond.specs.Cond.{Conditional, IsCond, IsCondLifting, cond_at}
use Rattle.vx_cond.proofs.CondLaws.{IsCond-extends, cond_at-extends}
use Rattle.vx_cond.proofs.SideLaws.{cond_at-covers}
use Rattle.vx_frame.specs.Frame.{Shape}
use Rattle.vx_group.specs.Group.{GroupView, IsPartOf, path_of}
use Rattle.vx_group.proofs.GroupLaws.{IsGroup-extends, IsGroup-path_known}
use Rattle.vx_heap.specs.Heap.{HeapView, IsHeap, is_held, value_of}
use Rattle.vx_heap.proofs.HeapLaws.{is_held-extends, value_of-extends}
use Rattle.vx_java.specs.Machine.{State, go, push}
use Rattle.vx_java.specs.Machine.{Throw as ThrowOutcome}
use Rattle.vx_value.specs.declared.end.Stream.{Stream}
use Rattle.vx_value.specs.declared.slot.Slot.{Slot}
use Rattle.vx_group_states.specs.Answering.{AreHeld, AreKinds, IsKindHeld, IsReady, answer_at, answered, answered_as, answered_by, is_answer_held, is_message, kind_of, slot_by}
use Rattle.vx_group_states.specs.Answers.{answer_cmp}
use Rattle.vx_group_states.specs.Sites.{here}
use Rattle.vx_group_states.specs.Stands.{IsMessage, is_object, object_named}
use Rattle.vx_group_states.specs.declared.answer.Answer.{Answer}
use Rattle.vx_group_states.specs.declared.answer.Answer.TheVariants.{Illegal, Raise, Push, Jump, Pass, Give, Write, Exit, Throw}
use Rattle.vx_group_states.specs.declared.site.Site.{Site}
use Rattle.vx_group_states.proofs.EndingLaws.{HasPast-part}
use Rattle.vx_group_states.proofs.Gathering.{AreLeaves-of, Cover-answers, leaf_value}
use Rattle.vx_group_states.proofs.OutcomeStates.{object_named-extends}
use Rattle.vx_group_states.proofs.SettleLaws.{lifting_at, lifting_cond}
use Rattle.vx_group_states.proofs.StateLaws.{both_first, both_second}

scope_known : {S I : Type 0} (sets : Sets I) (answers : Conditional Answer S I) → IsCond answer_cmp sets answers → sets.is_known answers.scope ≡ true
unfolding IsCond
scope_known sets answers v = v.scope_known

pub IsReady-part : {S I : Type 0} (site : Site) {s0 s1 : Sets I} (set : List Bool → Bool) (group part : GroupView S I) (taken : ℕ) (answers : Conditional Answer S I) → Extends s0 s1 → IsReady site s0 group taken answers → ((c : List Bool) → set c ≡ true → s0.test (path_of group) c ≡ true) → IsPartOf s0 s1 set group part → IsReady site s1 part taken answers
unfolding IsPartOf
IsReady-part site {s0 = s0} {s1 = s1} set group part taken answers e r inside q =
    let depth : length part.top.stack.conds ≡ length group.top.stack.conds = ap (λ (s : Shape). s.part.depth) q.shape in
    record {
      is_group = q.is_group;
      past = HasPast-part site s0 s1 set group part q r.past;
      enough = omega (arith, depth, r.enough);
      few = omega (arith, depth, r.few);
      are_answers = IsCond-extends answer_cmp e answers r.are_answers;
      inside = record { inside = λ c t. e.test answers.scope c (scope_known s0 answers r.are_answers) ∙ r.inside.inside c (inside c (sym (q.path.test c) ∙ t)) };
    }

answer_at-extends : {S I : Type 0} {s0 s1 : Sets I} → Extends s0 s1 → (answers : Conditional Answer S I) → IsCond answer_cmp s0 answers → (c : List Bool) → answer_at s1 answers c ≡ answer_at s0 answers c
answer_at-extends e answers v c = ap (λ o. unwrap_or o Illegal) (cond_at-extends answer_cmp e answers v c)

-- the plain value of its slot
value_by-extends : {S I : Type 0} {s0 s1 : Sets I} → Extends s0 s1 → (answers : Conditional Answer S I) → IsCond answer_cmp s0 answers → (heap : HeapView S I) → IsHeap s0 heap → (c : List Bool) → value_of s1 heap c (slot_by (answer_at s1 answers c)) ≡ value_of s0 heap c (slot_by (answer_at s0 answers c))
value_by-extends {s0 = s0} {s1 = s1} e answers v heap h c = ap (λ a. value_of s1 heap c (slot_by a)) (answer_at-extends e answers v c) ∙ value_of-extends e heap h c (slot_by (answer_at s0 answers c))

-- what comes of an answer, by its kind and over a later space
answered_as-extends : {S I : Type 0} (site : Site) (taken : ℕ) {s0 s1 : Sets I} → Extends s0 s1 → (answers : Conditional Answer S I) → IsCond answer_cmp s0 answers → (heap : HeapView S I) → IsHeap s0 heap → (kind : Answer) (c : List Bool) (s : State) → answered_as site taken s1 kind answers heap c s ≡ answered_as site taken s0 kind answers heap c s
answered_as-extends site taken e answers v heap h Illegal c s = refl
answered_as-extends site taken e answers v heap h (Raise class message) c s = refl
answered_as-extends site taken e answers v heap h (Push slot) c s = ap (λ top. push (here site s) top (drop taken s.top.operands)) (value_by-extends e answers v heap h c)
answered_as-extends site taken e answers v heap h (Jump position) c s = refl
answered_as-extends site taken e answers v heap h Pass c s = refl
answered_as-extends site taken e answers v heap h (Give slot) c s = ap (λ top. go (here site s) (top ∷ drop taken s.top.operands)) (value_by-extends e answers v heap h c)
answered_as-extends site taken e answers v heap h (Write stream text) c s = refl
answered_as-extends site taken e answers v heap h (Exit code) c s = refl
answered_as-extends site taken {s0 = s0} {s1 = s1} e answers v heap h (Throw slot) c s = ap (λ r. ThrowOutcome r s) (ap (λ a. object_named s1 heap c (slot_by a)) (answer_at-extends e answers v c) ∙ object_named-extends e heap h c (slot_by (answer_at s0 answers c)))

by_kind : {S I : Type 0} (site : Site) (taken : ℕ) (sets : Sets I) (answers : Conditional Answer S I) (heap : HeapView S I) (c : List Bool) (s : State) (a : Answer) → answer_at sets answers c ≡ a → answered_as site taken sets (kind_of a) answers heap c s ≡ answered sets heap c (here site s) (drop taken s.top.operands) a
by_kind site taken sets answers heap c s Illegal e = refl
by_kind site taken sets answers heap c s (Raise class message) e = refl
by_kind site taken sets answers heap c s (Push slot) e = ap (λ a. push (here site s) (value_of sets heap c (slot_by a)) (drop taken s.top.operands)) e
by_kind site taken sets answers heap c s (Jump position) e = refl
by_kind site taken sets answers heap c s Pass e = refl
by_kind site taken sets answers heap c s (Give slot) e = ap (λ a. go (here site s) (value_of sets heap c (slot_by a) ∷ drop taken s.top.operands)) e
by_kind site taken sets answers heap c s (Write stream text) e = refl
by_kind site taken sets answers heap c s (Exit code) e = refl
by_kind site taken sets answers heap c s (Throw slot) e = ap (λ a. ThrowOutcome (object_named sets heap c (slot_by a)) s) e

pub some_same : {T : Type 0} (a b : T) → Some a ≡ Some b → a ≡ b
some_same a b e = cc

-- the value of a leaf is the kind of the answers in its condition
kind_here : {S I : Type 0} (sets : Sets I) (path : I) (answers : Conditional Answer S I) (kinds : List (Leaf Answer S I)) (i : ℕ) (x : Leaf Answer S I) → AreKinds sets path answers kinds → i < length kinds → x ≡ get_or kinds i x → (c : List Bool) → sets.test path c ≡ true → sets.test x.condition c ≡ true → kind_of (answer_at sets answers c) ≡ x.value
kind_here sets path answers kinds i x k l e c p t = some_same (kind_of (answer_at sets answers c)) x.value (sym (k.at c p) ∙ leaf_value answer_cmp sets kinds i x c k.are_leaves l e t)

pub kind_law : {S I : Type 0} (site : Site) (taken : ℕ) {s0 s2 : Sets I} → Extends s0 s2 → (path : I) (answers : Conditional Answer S I) (kinds : List (Leaf Answer S I)) (i : ℕ) (x : Leaf Answer S I) → IsCond answer_cmp s0 answers → AreKinds s0 path answers kinds → i < length kinds → x ≡ get_or kinds i x → ((c : List Bool) → s0.test x.condition c ≡ true → s0.test path c ≡ true) → (heap : HeapView S I) → IsHeap s0 heap → (c : List Bool) → s0.test x.condition c ≡ true → (s : State) → answered_as site taken s2 x.value answers heap c s ≡ answered_by site taken s0 answers heap c s
kind_law site taken {s0 = s0} e path answers kinds i x v k l at inside heap h c t s =
    let P : Answer → Type 0 = λ kind. answered_as site taken s0 kind answers heap c s ≡ answered_by site taken s0 answers heap c s in
    answered_as-extends site taken e answers v heap h x.value c s ∙ subst P (kind_here s0 path answers kinds i x k l at c (inside c t) t) (by_kind site taken s0 answers heap c s (answer_at s0 answers c) refl)

-- ---- what the answers name

message_known : {S I : Type 0} (heap : HeapView S I) (message : Option ℕ) → is_message heap message ≡ true → IsMessage heap message
message_known heap None h = tt
message_known heap (Some n) h = grind (arith, nat_tests)

raise_known : {S I : Type 0} (sets : Sets I) (heap : HeapView S I) (c : List Bool) (a : Answer) (class : _) (message : Option ℕ) → kind_of a ≡ Raise class message → is_answer_held sets heap c a ≡ true → IsMessage heap message
raise_known sets heap c Illegal class message e h = cc
raise_known sets heap c (Raise d m) class message e h =
    let same : m ≡ message = cc in
    let P : Option ℕ → Type 0 = λ o. IsMessage heap o in
    subst P same (message_known heap m h)
raise_known sets heap c (Push slot) class message e h = cc
raise_known sets heap c (Jump position) class message e h = cc
raise_known sets heap c Pass class message e h = cc
raise_known sets heap c (Give slot) class message e h = cc
raise_known sets heap c (Write stream text) class message e h = cc
raise_known sets heap c (Exit code) class message e h = cc
raise_known sets heap c (Throw slot) class message e h = cc

push_held : {S I : Type 0} (sets : Sets I) (heap : HeapView S I) (c : List Bool) (a : Answer) (slot : _) → kind_of a ≡ Push slot → is_answer_held sets heap c a ≡ true → is_held sets heap c (slot_by a) ≡ true
push_held sets heap c Illegal slot e h = cc
push_held sets heap c (Raise d m) slot e h = cc
push_held sets heap c (Push s) slot e h = h
push_held sets heap c (Jump position) slot e h = cc
push_held sets heap c Pass slot e h = cc
push_held sets heap c (Give s) slot e h = cc
push_held sets heap c (Write stream text) slot e h = cc
push_held sets heap c (Exit code) slot e h = cc
push_held sets heap c (Throw s) slot e h = cc

give_held : {S I : Type 0} (sets : Sets I) (heap : HeapView S I) (c : List Bool) (a : Answer) (slot : _) → kind_of a ≡ Give slot → is_answer_held sets heap c a ≡ true → is_held sets heap c (slot_by a) ≡ true
give_held sets heap c Illegal slot e h = cc
give_held sets heap c (Raise d m) slot e h = cc
give_held sets heap c (Push s) slot e h = cc
give_held sets heap c (Jump position) slot e h = cc
give_held sets heap c Pass slot e h = cc
give_held sets heap c (Give s) slot e h = h
give_held sets heap c (Write stream text) slot e h = cc
give_held sets heap c (Exit code) slot e h = cc
give_held sets heap c (Throw s) slot e h = cc

write_known : {S I : Type 0} (sets : Sets I) (heap : HeapView S I) (c : List Bool) (a : Answer) (stream : Stream) (text : ℕ) → kind_of a ≡ Write stream text → is_answer_held sets heap c a ≡ true → text < length heap.texts
write_known sets heap c Illegal stream text e h = cc
write_known sets heap c (Raise d m) stream text e h = cc
write_known sets heap c (Push s) stream text e h = cc
write_known sets heap c (Jump position) stream text e h = cc
write_known sets heap c Pass stream text e h = cc
write_known sets heap c (Give s) stream text e h = cc
write_known sets heap c (Write other n) stream text e h =
    let same : n ≡ text = cc in
    let P : ℕ → Type 0 = λ m. m < length heap.texts in
    subst P same (message_known heap (Some n) h)
write_known sets heap c (Exit code) stream text e h = cc
write_known sets heap c (Throw s) stream text e h = cc

throw_held : {S I : Type 0} (sets : Sets I) (heap : HeapView S I) (c : List Bool) (a : Answer) (slot : _) → kind_of a ≡ Throw slot → is_answer_held sets heap c a ≡ true → (is_object (slot_by a) ≡ true) × (is_held sets heap c (slot_by a) ≡ true)
throw_held sets heap c Illegal slot e h = cc
throw_held sets heap c (Raise d m) slot e h = cc
throw_held sets heap c (Push s) slot e h = cc
throw_held sets heap c (Jump position) slot e h = cc
throw_held sets heap c Pass slot e h = cc
throw_held sets heap c (Give s) slot e h = cc
throw_held sets heap c (Write stream text) slot e h = cc
throw_held sets heap c (Exit code) slot e h = cc
throw_held sets heap c (Throw s) slot e h = (both_first (is_object s) (is_held sets heap c s) h, both_second (is_object s) (is_held sets heap c s) h)

-- some configuration of a leaf
somewhere : {S I : Type 0} {sets : Sets I} → IsLawful sets → (kinds : List (Leaf Answer S I)) (i : ℕ) (x : Leaf Answer S I) → AreLeaves answer_cmp sets kinds → i < length kinds → x ≡ get_or kinds i x → (c : List Bool) × (sets.test x.condition c ≡ true)
somewhere {sets = sets} lawful kinds i x k l e =
    let facts = nonempty kinds i k l e in
    let found = some_difference lawful x.condition sets.never facts.0 lawful.never_known facts.1 in
    (found.0, differs (sets.test x.condition found.0) (sets.test sets.never found.0) (lawful.never_test found.0) found.1)
  where
    differs : (a b : Bool) → b ≡ false → a ≢ b → a ≡ true
    differs true b h n = refl
    differs false b h n = absurd (n (sym h))

    nonempty : (ks : List (Leaf Answer _ _)) (j : ℕ) → AreLeaves answer_cmp sets ks → j < length ks → x ≡ get_or ks j x → (sets.is_known x.condition ≡ true) × (x.condition ≢ sets.never)
    nonempty [] j h m g = absurd (omega arith)
    nonempty (y ∷ ys) zero h m g = rw g (h.0.known, h.0.nonempty)
    nonempty (y ∷ ys) (suc j) h m g = nonempty ys j h.1 (omega arith) g

pub kind_held : {S I : Type 0} {s0 s2 : Sets I} → IsLawful s0 → Extends s0 s2 → (path inner : I) (answers : Conditional Answer S I) (kinds : List (Leaf Answer S I)) (i : ℕ) (x : Leaf Answer S I) → IsCond answer_cmp s0 answers → AreKinds s0 path answers kinds → i < length kinds → x ≡ get_or kinds i x → ((c : List Bool) → s0.test x.condition c ≡ true → s0.test path c ≡ true) → ((c : List Bool) → s2.test inner c ≡ true → s0.test x.condition c ≡ true) → (heap : HeapView S I) → IsHeap s0 heap → AreHeld s0 heap path answers → IsKindHeld s2 heap inner x.value answers
kind_held {S = S} {I = I} {s0 = s0} {s2 = s2} lawful e path inner answers kinds i x v k l at inside within heap h held = here x.value refl
  where
    at_kind : (c : List Bool) → s0.test x.condition c ≡ true → kind_of (answer_at s0 answers c) ≡ x.value
    at_kind c t = kind_here s0 path answers kinds i x k l at c (inside c t) t

    thrown : (slot : Slot) → x.value ≡ Throw slot → (c : List Bool) → s2.test inner c ≡ true → (is_object (slot_by (answer_at s0 answers c)) ≡ true) × (is_held s0 heap c (slot_by (answer_at s0 answers c)) ≡ true)
    thrown slot f c t =
        let there = within c t in
        throw_held s0 heap c (answer_at s0 answers c) slot (at_kind c there ∙ f) (held.held c (inside c there))

    here : (kind : Answer) → x.value ≡ kind → IsKindHeld s2 heap inner kind answers
    here Illegal f = tt
    here (Raise class message) f =
        let some = somewhere lawful kinds i x k.are_leaves l at in
        raise_known s0 heap some.0 (answer_at s0 answers some.0) class message (at_kind some.0 some.1 ∙ f) (held.held some.0 (inside some.0 some.1))
    here (Push slot) f = record {
      held = λ c t.
          let there = within c t in
          ap (λ a. is_held s2 heap c (slot_by a)) (answer_at-extends e answers v c) ∙ is_held-extends e heap h c (slot_by (answer_at s0 answers c)) ∙ push_held s0 heap c (answer_at s0 answers c) slot (at_kind c there ∙ f) (held.held c (inside c there));
    }
    here (Jump position) f = tt
    here Pass f = tt
    here (Give slot) f = record {
      held = λ c t.
          let there = within c t in
          ap (λ a. is_held s2 heap c (slot_by a)) (answer_at-extends e answers v c) ∙ is_held-extends e heap h c (slot_by (answer_at s0 answers c)) ∙ give_held s0 heap c (answer_at s0 answers c) slot (at_kind c there ∙ f) (held.held c (inside c there));
    }
    here (Write stream text) f =
        let some = somewhere lawful kinds i x k.are_leaves l at in
        write_known s0 heap some.0 (answer_at s0 answers some.0) stream text (at_kind some.0 some.1 ∙ f) (held.held some.0 (inside some.0 some.1))
    here (Exit code) f = tt
    here (Throw slot) f = record {
      object = λ c t. ap (λ a. is_object (slot_by a)) (answer_at-extends e answers v c) ∙ (thrown slot f c t).0;
      held = λ c t. ap (λ a. is_held s2 heap c (slot_by a)) (answer_at-extends e answers v c) ∙ is_held-extends e heap h c (slot_by (answer_at s0 answers c)) ∙ (thrown slot f c t).1;
    }

-- ---- the kinds of answers

pub AreKinds-mapped : {S I : Type 0} {s0 s1 : Sets I} (R : Answer → Answer → Type 0) (path : I) (answers kinds : Conditional Answer S I) → Extends s0 s1 → ((a b : Answer) → R a b → b ≡ kind_of a) → IsCond answer_cmp s0 answers → answers.scope ≡ path → s0.is_known path ≡ true → IsCondLifting answer_cmp s1 R (cond_at s0 answers) kinds → kinds.scope ≡ answers.scope → AreKinds s1 path answers kinds.leaves
AreKinds-mapped {s0 = s0} {s1 = s1} R path answers kinds e law v s known l scope =
    let is_cond = lifting_cond answer_cmp s1 R (cond_at s0 answers) kinds l in
    record {
      are_leaves = AreLeaves-of answer_cmp s1 kinds is_cond;
      cover = Cover-answers answer_cmp s1 path kinds is_cond (scope ∙ s);
      at = λ c t. mapped (cond_at s0 answers c) (cond_at s1 kinds c) (cond_at-covers answer_cmp s0 answers v c ∙ ap (λ i. s0.test i c) s ∙ sym (e.test path c known) ∙ t) (lifting_at answer_cmp s1 R (cond_at s0 answers) kinds l c) ∙ ap (λ a. Some (kind_of a)) (sym (answer_at-extends e answers v c));
    }
  where
    mapped : (a b : Option Answer) → is_some a ≡ true → IsLifted R a b → b ≡ Some (kind_of (unwrap_or a Illegal))
    mapped None b t m = cc
    mapped (Some a) None t m = absurd m
    mapped (Some a) (Some b) t m = ap Some (law a b m)

pub answered_by-extends : {S I : Type 0} (site : Site) (taken : ℕ) {s0 s1 : Sets I} → Extends s0 s1 → (answers : Conditional Answer S I) → IsCond answer_cmp s0 answers → (heap : HeapView S I) → IsHeap s0 heap → (c : List Bool) (s : State) → answered_by site taken s1 answers heap c s ≡ answered_by site taken s0 answers heap c s
answered_by-extends site taken {s0 = s0} {s1 = s1} e answers v heap h c s =
    sym (by_kind site taken s1 answers heap c s (answer_at s1 answers c) refl)
    ∙ answered_as-extends site taken e answers v heap h (kind_of (answer_at s1 answers c)) c s
    ∙ ap (λ a. answered_as site taken s0 (kind_of a) answers heap c s) (answer_at-extends e answers v c)
    ∙ by_kind site taken s0 answers heap c s (answer_at s0 answers c) refl

pub AreHeld-extends : {S I : Type 0} {s0 s1 : Sets I} → Extends s0 s1 → (path : I) (answers : Conditional Answer S I) → s0.is_known path ≡ true → IsCond answer_cmp s0 answers → (heap : HeapView S I) → IsHeap s0 heap → AreHeld s0 heap path answers → AreHeld s1 heap path answers
AreHeld-extends {s0 = s0} {s1 = s1} e path answers known v heap h held = record { held = λ c t. ap (is_answer_held s1 heap c) (answer_at-extends e answers v c) ∙ same c (answer_at s0 answers c) ∙ held.held c (sym (e.test path c known) ∙ t) }
  where
    same : (c : List Bool) (a : Answer) → is_answer_held s1 heap c a ≡ is_answer_held s0 heap c a
    same c Illegal = refl
    same c (Raise class message) = refl
    same c (Push slot) = is_held-extends e heap h c slot
    same c (Jump position) = refl
    same c Pass = refl
    same c (Give slot) = is_held-extends e heap h c slot
    same c (Write stream text) = refl
    same c (Exit code) = refl
    same c (Throw slot) = ap (λ b. is_object slot && b) (is_held-extends e heap h c slot)

pub IsReady-later : {S I : Type 0} (site : Site) {s0 s1 : Sets I} (group : GroupView S I) (taken : ℕ) (answers : Conditional Answer S I) → Extends s0 s1 → IsReady site s0 group taken answers → IsReady site s1 group taken answers
unfolding IsCond
IsReady-later site {s0 = s0} group taken answers e r = record {
  is_group = IsGroup-extends e group r.is_group;
  past = r.past;
  enough = r.enough;
  few = r.few;
  are_answers = IsCond-extends answer_cmp e answers r.are_answers;
  inside = record { inside = λ c t. e.test answers.scope c r.are_answers.scope_known ∙ r.inside.inside c (sym (e.test (path_of group) c (IsGroup-path_known s0 group r.is_group)) ∙ t) };
}
