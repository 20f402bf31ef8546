-- From the answers of the configurations of a group, which were carried out, to the attempt.
use Rattle.std.proofs.Common.{◌≡◌, ℕ, Bool, true, List, ◌∷◌, refl, sym, ◌∙◌, ap, drop}
use Rattle.std.specs.Prelude.{Option}
use Rattle.vx_space.specs.Sets.{Sets, Extends}
use Rattle.vx_cond.specs.Cond.{Conditional}
use Rattle.vx_group.specs.declared.callers.Caller.{Caller}
use Rattle.vx_group.specs.Group.{GroupView, path_of}
use Rattle.vx_group.proofs.GroupLaws.{IsGroup-path_known}
use Rattle.vx_heap.specs.Heap.{HeapView, IsHeap}
use Rattle.vx_heap.proofs.HeapLaws.{value_of-extends}
use Rattle.vx_java.specs.Machine.{Here, State, Value, go, push}
use Rattle.vx_java.specs.Machine.{Outcome as PlainOutcome, Throw as ThrowOutcome}
use Rattle.vx_java.specs.declared.operation.Operation.{Operation}
use Rattle.vx_outcome.specs.declared.outcome.Outcome.{Outcome}
use Rattle.vx_group_states.specs.Answering.{AreHeld, answer_at, answered, answered_by, is_answer_held}
use Rattle.vx_group_states.specs.Sites.{GivesAt, here}
use Rattle.vx_group_states.specs.Stands.{StandsIn, state_at}
use Rattle.vx_group_states.specs.declared.answer.Answer.{Answer}
use Rattle.vx_group_states.specs.declared.answer.Answer.TheVariants.{Illegal, Jump, Push, Raise, Pass, Give, Write, Exit, Throw}
use Rattle.vx_group_states.specs.declared.site.Site.{Site}
use Rattle.vx_group_states.proofs.OutcomeStates.{object_named-extends}
use Rattle.vx_families.specs.Attempts.{AttemptsBy, IsGiven}
use Rattle.vx_families.specs.Texts.{HasMoreTexts}
use Rattle.vx_families.proofs.AttemptLaws.{AttemptsBy-texts}
use Rattle.vx_families.proofs.MoreTexts.{IsHeap-texts}

-- what comes of an answer over a later space
pub answered-extends : {S I : Type 0} {s0 s1 : Sets I} → Extends s0 s1 → (heap : HeapView S I) → IsHeap s0 heap → (c : List Bool) (h : Here) (rest : List Value) (answer : Answer) → answered s1 heap c h rest answer ≡ answered s0 heap c h rest answer
answered-extends e heap v c h rest Illegal = refl
answered-extends e heap v c h rest (Raise class message) = refl
answered-extends e heap v c h rest (Push slot) = ap (λ (top : Value). push h top rest) (value_of-extends e heap v c slot)
answered-extends e heap v c h rest (Jump position) = refl
answered-extends e heap v c h rest Pass = refl
answered-extends e heap v c h rest (Give slot) = ap (λ (top : Value). go h (top ∷ rest)) (value_of-extends e heap v c slot)
answered-extends e heap v c h rest (Write stream text) = refl
answered-extends e heap v c h rest (Exit code) = refl
answered-extends e heap v c h rest (Throw slot) = ap (λ r. ThrowOutcome r h.state) (object_named-extends e heap v c slot)

-- Texts may have been put. What each answer comes to, over the space in which the group stood, is what the row says.
pub AttemptsBy-answered : {S I : Type 0} (site : Site) (operation : Operation) (says : State → PlainOutcome) {s0 s1 s2 : Sets I} (before after : HeapView S I) (group : GroupView S I) (taken : ℕ) (answers : Conditional Answer S I) (by : List Bool → Answer) (outcomes : List (Outcome S I)) → HasMoreTexts before after → Extends s0 s1 → Extends s1 s2 → IsGiven site operation s0 before group → ((c : List Bool) → s0.test (path_of group) c ≡ true → answer_at s1 answers c ≡ by c) → ((c : List Bool) → s0.test (path_of group) c ≡ true → is_answer_held s1 after c (by c) ≡ true) → ((tree : List (Option (Caller S I))) → StandsIn site.program.now s0 before tree group → (c : List Bool) → s0.test (path_of group) c ≡ true → answered s0 after c (here site (state_at s0 before tree group c)) (drop taken (state_at s0 before tree group c).top.operands) (by c) ≡ says (state_at s0 before tree group c)) → ((heap : HeapView S I) → AreHeld s1 heap (path_of group) answers → GivesAt site.program.now (answered_by site taken s1 answers) s1 s2 group outcomes heap) → AttemptsBy site says s0 s2 before after group outcomes
AttemptsBy-answered site operation says {s0 = s0} {s1 = s1} before after group taken answers by outcomes m e f given at held row gives =
    let v = IsHeap-texts s0 before after m given.is_heap in
    let later : (c : List Bool) → s1.test (path_of group) c ≡ s0.test (path_of group) c = λ c. e.test (path_of group) c (IsGroup-path_known s0 group given.is_group) in
    AttemptsBy-texts site operation says before after group (answered_by site taken s1 answers) outcomes m e f given (λ tree s c t.
    let state = state_at s0 before tree group c in
    let rest = drop taken state.top.operands in
    ap (answered s1 after c (here site state) rest) (at c t) ∙ answered-extends e after v c (here site state) rest (by c) ∙ row tree s c t)
    (gives after (record { held = λ c t. ap (is_answer_held s1 after c) (at c (sym (later c) ∙ t)) ∙ held c (sym (later c) ∙ t) }))
