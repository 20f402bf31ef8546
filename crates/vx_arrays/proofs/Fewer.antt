-- Groups that have fewer operands than their instruction takes.
use Rattle.std.proofs.Common.{◌≡◌, ℕ, ◌<◌, List, sym, ◌∙◌, subst, map, length}
use Rattle.std.proofs.lemmas.List.{length-map}
use Rattle.vx_families.specs.Attempts.{AttemptsBy, IsGiven}
use Rattle.vx_families.proofs.AttemptLaws.{AttemptsBy-ended}
use Rattle.vx_frame.specs.declared.frame.Frame.{Frame}
use Rattle.vx_group.specs.Group.{GroupView}
use Rattle.vx_group_states.specs.Answering.{operands_at}
use Rattle.vx_group_states.specs.Sites.{Gives, here}
use Rattle.vx_group_states.specs.Stands.{state_at}
use Rattle.vx_group_states.specs.declared.site.Site.{Site}
use Rattle.vx_group_states.proofs.Operands.{length-operands}
use Rattle.vx_heap.specs.Heap.{HeapView, value_of}
use Rattle.vx_java.specs.Machine.{Here, Value, illegal, illegal_in}
use Rattle.vx_java.specs.Machine.{Outcome as PlainOutcome}
use Rattle.vx_java.specs.declared.operation.Operation.{Operation}
use Rattle.vx_outcome.specs.declared.outcome.Outcome.{Outcome}
use Rattle.vx_space.specs.Sets.{Sets}
use Rattle.vx_space.proofs.Spaces.{Extends-refl}

-- they end, as the frame that the group lent tells
pub few-attempts : {S I : Type 0} (site : Site) (operation : Operation) (says : Here → List Value → PlainOutcome) {sets : Sets I} (heap : HeapView S I) (group : GroupView S I) (top : Frame S I) (n taken : ℕ) (outcomes : List (Outcome S I)) → IsGiven site operation sets heap group → top ≡ group.top → n ≡ length top.stack.conds → n < taken → ((h : Here) (operands : List Value) → length operands < taken → illegal h ≡ says h operands) → Gives site.program.now (illegal_in site.program.now) sets sets group outcomes → AttemptsBy site (λ s. says (here site s) s.top.operands) sets sets heap heap group outcomes
few-attempts {S = S} {I = I} site operation says {sets = sets} heap group top n taken outcomes given same count few law gives =
    let F : Frame S I → Type 0 = λ t. n ≡ length t.stack.conds in
    let all : n ≡ length group.top.stack.conds = subst F same count in
    AttemptsBy-ended site operation (λ s. says (here site s) s.top.operands) heap group (illegal_in site.program.now) outcomes (Extends-refl sets) given (λ tree s c t.
    let N : ℕ → Type 0 = λ k. k < taken in
    let number : length (map (value_of sets heap c) (operands_at sets group.top.stack c)) ≡ length group.top.stack.conds = simp length-map (length-operands sets group.top.stack c) in
    law (here site (state_at sets heap tree group c)) (map (value_of sets heap c) (operands_at sets group.top.stack c)) (subst N (all ∙ sym number) few))
    gives
