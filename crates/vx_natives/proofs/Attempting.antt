-- From the answers to the calls of a native method, which were carried out, to the attempt.
use Rattle.std.proofs.Common.{◌≡◌, ℕ, Bool, true, List, refl, sym, ◌∙◌, ap, drop, map}
use Rattle.std.specs.Prelude.{None, Option, Some, if◌then◌else◌}
use Rattle.vx_cond.specs.Cond.{Conditional}
use Rattle.vx_families.specs.Attempts.{AttemptsBy, IsGiven}
use Rattle.vx_families.proofs.Given.{given_operands_held}
use Rattle.vx_group.specs.declared.callers.Caller.{Caller}
use Rattle.vx_group.specs.Group.{GroupView, path_of}
use Rattle.vx_group.proofs.CallerLaws.{Keeps-refl}
use Rattle.vx_group.proofs.GroupLaws.{IsGroup-path_known}
use Rattle.vx_group_states.proofs.AnswerLaws.{map_drop}
use Rattle.vx_group_states.proofs.GrownStates.{StandsIn-grown}
use Rattle.vx_group_states.specs.Answering.{AreHeld, answer_at, answered_by, operands_at}
use Rattle.vx_group_states.specs.Sites.{GivesAt, here}
use Rattle.vx_group_states.specs.Stands.{state_at}
use Rattle.vx_group_states.specs.declared.answer.Answer.{Answer}
use Rattle.vx_group_states.specs.declared.site.Site.{Site}
use Rattle.vx_families.proofs.ChangeLaws.{attempts_follow}
use Rattle.vx_families.specs.Changing.{changed_in, with_globals}
use Rattle.vx_heap.specs.Heap.{Globals, HeapView, globals_at, value_of}
use Rattle.vx_java.specs.Machine.{Here, Outcome, State}
use Rattle.vx_java.specs.Natives.{native, native_of}
use Rattle.vx_java.specs.Returns.{instruction_size}
use Rattle.vx_java.specs.Texts.{NativeMethod}
use Rattle.vx_java.specs.declared.operation.Operation.{Operation}
use Rattle.vx_link.specs.Parts.{method_at}
use Rattle.vx_link.specs.declared.program.LinkedMethod.{LinkedMethod}
use Rattle.vx_opcode.specs.Decode.{instruction_at}
use Rattle.vx_outcome.specs.declared.outcome.Outcome.{Outcome as SharedOutcome}
use Rattle.vx_space.specs.Sets.{Extends, Sets}
use Rattle.vx_value.specs.declared.slot.Slot.{Slot}
use Rattle.vx_natives.specs.Arguments.{arguments_of, taken_by}
use Rattle.vx_natives.specs.Doing.{IsKept, IsSaid, said_over}
use Rattle.vx_natives.specs.Rows.{by_arguments, said_given}
use Rattle.vx_natives.proofs.Keeping.{kept_change}
use Rattle.vx_natives.proofs.NativeRows.{native_row}

-- what is said of what a call is given
given_says : {S I : Type 0} (sets : Sets I) (heap : HeapView S I) (c : List Bool) (method : NativeMethod) (h : Here) (rest : List Slot) (given : Option (List Slot)) → said_given sets heap method given c h (map (value_of sets heap c) rest) ≡ by_arguments sets heap c method h rest given
given_says sets heap c method h rest None = refl
given_says sets heap c method h rest (Some values) = refl

-- The answer at each configuration comes to what is said of the call there, over a heap that changed in the path alone.
module _ {S I : Type 0} (site : Site) (operation : Operation) (m : ℕ) {s0 s1 s2 : Sets I} (before after : HeapView S I) (group : GroupView S I) (answers : Conditional Answer S I) (outcomes : List (SharedOutcome S I)) (given : IsGiven site operation s0 before group) (e : Extends s0 s1) (f : Extends s1 s2) (kept : IsKept s0 s1 before after (s0.test (path_of group))) (at : (c : List Bool) → s0.test (path_of group) c ≡ true → IsSaid site.program.now s1 after c (said_over site.program.now s0 before (said_given s0 before (native_of (method_at site.program.now m).native) (arguments_of site before (method_at site.program.now m) (operands_at s0 group.top.stack c))) c) (answer_at s1 answers c)) where
  abbrev method : LinkedMethod
  method = method_at site.program.now m

  size_is : instruction_size (instruction_at site.code.now.bytes group.top.position) ≡ site.size
  size_is = ap instruction_size given.at_site.found ∙ sym given.at_site.size

  abbrev change : List Bool → Globals → Globals
  change c _ = globals_at s1 after c

  abbrev there : List Bool → State → Outcome
  there c s = answered_by site (taken_by (method_at site.program.now m)) s1 answers after c s

  law : (tree : List (Option (Caller S I))) (c : List Bool) → s0.test (path_of group) c ≡ true → there c (with_globals (state_at s0 before tree group c) (changed_in (s0.test (path_of group)) change c (globals_at s0 before c))) ≡ native site.program.now (state_at s0 before tree group c) m
  law tree c t =
      let s = state_at s0 before tree group c in
      let operands = operands_at s0 group.top.stack c in
      let taken = taken_by method in
      let call = arguments_of site before method operands in
      let left : drop taken s.top.operands ≡ map (value_of s0 before c) (drop taken operands) = sym (map_drop (value_of s0 before c) taken operands) in
      ap (λ b. there c (with_globals s (if b then globals_at s1 after c else globals_at s0 before c))) t
      ∙ (at c t).at (here site s) (drop taken s.top.operands)
      ∙ ap (λ rest. said_given s0 before (native_of method.native) call c (here site s) rest) left
      ∙ given_says s0 before c (native_of method.native) (here site s) (drop taken operands) call
      ∙ sym (native_row s0 before c site s m operands given.at_site.code size_is refl refl (given_operands_held site operation s0 before group given c t))

  later : (c : List Bool) → s1.test (path_of group) c ≡ s0.test (path_of group) c
  later c = e.test (path_of group) c (IsGroup-path_known s0 group given.is_group)

  held : AreHeld s1 after (path_of group) answers
  held = record { held = λ c t. (at c (sym (later c) ∙ t)).held }

  pub native-attempts : ((heap : HeapView S I) → AreHeld s1 heap (path_of group) answers → GivesAt site.program.now (answered_by site (taken_by (method_at site.program.now m)) s1 answers) s1 s2 group outcomes heap) → AttemptsBy site (λ s. native site.program.now s m) s0 s2 before after group outcomes
  native-attempts gives = record {
    is_for = kept.keeps site.program.now given.is_for;
    attempts = λ tree stands.
        attempts_follow site.program.now (λ s. native site.program.now s m) there s0 s1 s2 before after (s0.test (path_of group)) change tree tree group outcomes given.is_heap stands e
        (kept_change s0 s1 before after (s0.test (path_of group)) kept)
        (λ c t. t) f (Keeps-refl tree)
        (law tree)
        (gives after held tree kept.is_heap (StandsIn-grown site.program.now e (Keeps-refl tree) before after given.is_heap kept.grows group stands));
  }
