-- Groups with fewer operands than a call takes off.
use Rattle.std.specs.Prelude.{None, Option, Some}
use Rattle.std.proofs.Common.{◌≡◌, ℕ, ◌<◌, Bool, List, refl, sym, ◌∙◌, ap, drop, arith, length}
use Rattle.vx_families.proofs.AttemptLaws.{AttemptsBy-ended}
use Rattle.vx_families.proofs.Given.{given_operands_held}
use Rattle.vx_families.specs.Attempts.{AttemptsBy, IsGiven}
use Rattle.vx_group.specs.Group.{GroupView}
use Rattle.vx_group_states.proofs.Operands.{length-operands}
use Rattle.vx_group_states.specs.Answering.{operands_at}
use Rattle.vx_group_states.specs.Sites.{Gives, here}
use Rattle.vx_group_states.specs.Stands.{state_at}
use Rattle.vx_group_states.specs.declared.site.Site.{Site}
use Rattle.vx_heap.specs.Heap.{HeapView}
use Rattle.vx_java.specs.Machine.{Here, illegal, illegal_in}
use Rattle.vx_java.specs.Natives.{native, native_of, no_native}
use Rattle.vx_java.specs.Returns.{instruction_size}
use Rattle.vx_java.specs.declared.operation.Operation.{Operation}
use Rattle.vx_link.specs.Parts.{method_at}
use Rattle.vx_outcome.specs.declared.outcome.Outcome.{Outcome}
use Rattle.vx_space.specs.Sets.{Extends, Sets}
use Rattle.vx_value.specs.declared.slot.Slot.{Slot}
use Rattle.vx_natives.specs.Arguments.{arguments_of, taken_by}
use Rattle.vx_natives.specs.Rows.{by_arguments}
use Rattle.vx_natives.proofs.NativeRows.{few_none, native_row}

-- all runs of the group end
pub few-attempts : {S I : Type 0} (site : Site) (operation : Operation) (m : ℕ) {s0 s1 : Sets I} (heap : HeapView S I) (group : GroupView S I) (outcomes : List (Outcome S I)) → Extends s0 s1 → IsGiven site operation s0 heap group → length group.top.stack.conds < taken_by (method_at site.program.now m) → Gives site.program.now (illegal_in site.program.now) s1 s1 group outcomes → AttemptsBy site (λ s. native site.program.now s m) s0 s1 heap heap group outcomes
few-attempts site operation m {s0 = s0} heap group outcomes e given few gives = AttemptsBy-ended site operation (λ s. native site.program.now s m) heap group (illegal_in site.program.now) outcomes e given (λ tree stands c t.
    let s = state_at s0 heap tree group c in
    let method = method_at site.program.now m in
    let operands = operands_at s0 group.top.stack c in
    let none = few_none site heap method operands (omega (arith, few, length-operands s0 group.top.stack c)) in
    sym (native_row s0 heap c site s m operands given.at_site.code (ap instruction_size given.at_site.found ∙ sym given.at_site.size) refl refl (given_operands_held site operation s0 heap group given c t)
    ∙ ap (by_arguments s0 heap c (native_of method.native) (here site s) (drop (taken_by method) operands)) none)) gives

nothing : {S I : Type 0} (sets : Sets I) (heap : HeapView S I) (c : List Bool) (h : Here) (rest : List Slot) (given : Option (List Slot)) → by_arguments sets heap c no_native h rest given ≡ illegal h
nothing sets heap c h rest None = refl
nothing sets heap c h rest (Some values) = refl

-- so it is where there is no native method of the number
pub missing-attempts : {S I : Type 0} (site : Site) (operation : Operation) (m : ℕ) {s0 s1 : Sets I} (heap : HeapView S I) (group : GroupView S I) (outcomes : List (Outcome S I)) → Extends s0 s1 → IsGiven site operation s0 heap group → no_native ≡ native_of (method_at site.program.now m).native → Gives site.program.now (illegal_in site.program.now) s1 s1 group outcomes → AttemptsBy site (λ s. native site.program.now s m) s0 s1 heap heap group outcomes
missing-attempts site operation m {s0 = s0} heap group outcomes e given none gives = AttemptsBy-ended site operation (λ s. native site.program.now s m) heap group (illegal_in site.program.now) outcomes e given (λ tree stands c t.
    let s = state_at s0 heap tree group c in
    let method = method_at site.program.now m in
    let operands = operands_at s0 group.top.stack c in
    let rest = drop (taken_by method) operands in
    let values = arguments_of site heap method operands in
    sym (native_row s0 heap c site s m operands given.at_site.code (ap instruction_size given.at_site.found ∙ sym given.at_site.size) refl refl (given_operands_held site operation s0 heap group given c t)
    ∙ ap (λ f. by_arguments s0 heap c f (here site s) rest values) (sym none)
    ∙ nothing s0 heap c (here site s) rest values)) gives
