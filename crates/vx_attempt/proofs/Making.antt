-- From what a family made of a group to the attempt, with native methods and beginnings carried out and exceptions thrown.
use Rattle.std.proofs.Common.{◌≡◌, ℕ, ◌<◌, ◌+◌, ◌≤◌, zero, suc, Bool, true, List, [], ◌∷◌, refl, sym, ◌∙◌, ap, length}
use Rattle.std.specs.List.{list_all}
use Rattle.std.specs.Prelude.{Ok, Err, Option, Some, None, ok_or}
use Rattle.vx_class.specs.declared.class_file.Code.{Code}
use Rattle.vx_space.specs.Sets.{Sets}
use Rattle.vx_frame.specs.declared.frame.Frame.{Frame}
use Rattle.vx_group.specs.declared.callers.Caller.{Caller}
use Rattle.vx_group.specs.Group.{GroupView, path_of}
use Rattle.vx_group.proofs.CallerLaws.{Keeps-refl}
use Rattle.vx_group.proofs.GroupLaws.{IsGroupIn-group, IsGroup-path_known}
use Rattle.vx_heap.specs.Heap.{HeapView}
use Rattle.vx_families.specs.Attempts.{IsAtSite, IsAttemptIn, IsGiven, row_by}
use Rattle.vx_families.specs.Bounds.{IsBounded, has_short_code}
use Rattle.vx_families.proofs.SiteRows.{row_there}
use Rattle.vx_java.specs.Machine.{Ended, State, illegal_in, place_at}
use Rattle.vx_java.specs.Operation.{operation_of}
use Rattle.vx_java.specs.Row.{row, row_if, row_in}
use Rattle.vx_java.specs.Step.{outcome_carried_out}
use Rattle.vx_java.specs.declared.operation.Operation.{Operation}
use Rattle.vx_link.specs.Parts.{method_at, no_method}
use Rattle.vx_link.specs.declared.program.LinkedMethod.{LinkedMethod}
use Rattle.vx_link.specs.declared.program.Program.{Program}
use Rattle.vx_list.specs.Places.{item_or}
use Rattle.vx_opcode.specs.Decode.{instruction_at}
use Rattle.vx_opcode.specs.declared.instruction.DecodeFault.{DecodeFault}
use Rattle.vx_opcode.specs.declared.instruction.Instruction.{Instruction}
use Rattle.vx_outcome.specs.declared.outcome.Outcome.{Outcome}
use Rattle.vx_outcome.specs.declared.outcome.Outcome.TheVariants as shared
use Rattle.vx_group_states.specs.Stands.{Attempts, state_at}
use Rattle.vx_group_states.specs.declared.site.Site.{Site}
use Rattle.vx_group_states.proofs.GrownStates.{Grows-refl}
use Rattle.vx_group_states.proofs.OutcomeStates.{CameTo-one}
use Rattle.vx_group_states.proofs.StateLaws.{both_first, both_second, top_held, top_shaped}
use Rattle.vx_value.specs.declared.end.End.TheVariants.{Illegal}
use Rattle.vx_standing.specs.Attempted.{IsAttempted, MayAttempt, attempted_row, carried_out_row, is_placed, thrown_out}
use Rattle.vx_attempt.specs.Carrying.{AreCarriedOut, MayCarryOut, MayThrow, NoneUncarried}
use Rattle.vx_attempt.proofs.Calls.{AreThere-outcomes, attempt_calls}
use Rattle.vx_attempt.proofs.Carrying.{Attempts-carried, Attempts-same}
use Rattle.vx_attempt.proofs.Uncarried.{carried_neither}
use Rattle.vx_families.proofs.ShortPools.{below}

-- ---- the instruction where it stands

-- the row at a state of the group
row_is : {S I : Type 0} (site : Site) (operation : Operation) (sets : Sets I) (heap : HeapView S I) (tree : List (Option (Caller S I))) (group : GroupView S I) → IsAtSite site operation group → (c : List Bool) → row site.program.now (state_at sets heap tree group c) ≡ row_by site operation (state_at sets heap tree group c)
row_is site operation sets heap tree group at c = row_there site operation (state_at sets heap tree group c) at.instruction at.code at.found at.size at.does

code_short : (methods : List LinkedMethod) (m : ℕ) → list_all (λ (m : LinkedMethod). has_short_code m.code) methods ≡ true → has_short_code (item_or methods m no_method).code ≡ true
code_short [] m h = refl
code_short (x ∷ xs) zero h = both_first (has_short_code x.code) (list_all (λ (m : LinkedMethod). has_short_code m.code) xs) h
code_short (x ∷ xs) (suc m) h = code_short xs m (both_second (has_short_code x.code) (list_all (λ (m : LinkedMethod). has_short_code m.code) xs) h)

pub code_is_short : (p : Program) (m : ℕ) (code : Code) → IsBounded p → (method_at p m).code ≡ Some code → length code.bytes < 65536
code_is_short p m code b e = below (length code.bytes) (sym (ap has_short_code e) ∙ code_short p.methods m b.codes)

-- what decoding finds
found_at : (o : Option Instruction) (i : Instruction) (fault : DecodeFault) → Ok i ≡ ok_or o fault → o ≡ Some i
found_at None i fault e = cc e
found_at (Some j) i fault e = let same : j ≡ i = cc e in ap Some same

missing_at : (o : Option Instruction) (found fault : DecodeFault) → Err found ≡ ok_or o fault → o ≡ None
missing_at None found fault e = refl
missing_at (Some j) found fault e = cc e

-- what a family is given where a group stands that may attempt
given_there : {S I : Type 0} (site : Site) (operation : Operation) (sets : Sets I) (heap : HeapView S I) (tree : List (Option (Caller S I))) (group : GroupView S I) → MayAttempt site.program.now sets heap tree group → IsAtSite site operation group → IsGiven site operation sets heap group
given_there site operation sets heap tree group may at =
    let p = site.program.now in
    record {
      bounded = may.bounded;
      at_site = at;
      is_heap = may.is_heap;
      is_for = may.is_for;
      is_group = IsGroupIn-group sets tree group may.stands.is_group;
      runs = may.stands.runs;
      held = top_held p sets heap tree group may.stands;
      shaped = top_shaped p sets heap tree group may.stands;
    }

-- the same, as decoding tells the instruction
pub given_at : {S I : Type 0} (site : Site) (operation : Operation) (sets : Sets I) (heap : HeapView S I) (tree : List (Option (Caller S I))) (group : GroupView S I) (instruction : Instruction) (fault : DecodeFault) (bytes : List ℕ) (top : Frame S I) → MayAttempt site.program.now sets heap tree group → (method_at site.program.now group.top.method.0).code ≡ Some site.code.now → bytes ≡ site.code.now.bytes → top ≡ group.top → Ok instruction ≡ ok_or (instruction_at bytes top.position) fault → top.position + instruction.length ≤ length bytes → site.size ≡ instruction.length → operation ≡ operation_of instruction → IsGiven site operation sets heap group
given_at site operation sets heap tree group instruction fault bytes top may code same is found within size does =
    given_there site operation sets heap tree group may (record {
      instruction = instruction;
      code = code;
      found = found_at (instruction_at site.code.now.bytes group.top.position) instruction fault (rw (same, is) at found);
      size = size;
      does = does;
      within = rw size (rw (same, is) at within);
      short = code_is_short site.program.now group.top.method.0 site.code.now may.bounded code;
    })

-- ---- the attempt

-- what an attempt came to before exceptions are thrown
attempted_so_far : {S I : Type 0} (site : Site) (operation : Operation) (s0 s1 s2 : Sets I) (before middle after : HeapView S I) (tree later last : List (Option (Caller S I))) (group : GroupView S I) (family carried : List (Outcome S I)) → IsAtSite site operation group → IsAttemptIn site operation s0 s1 before middle tree later group family → AreCarriedOut site.program.now (outcome_carried_out site.program.now) s1 s2 middle after later last family carried → Attempts site.program.now (carried_out_row site.program.now) s0 s2 before after tree last group carried
attempted_so_far site operation s0 s1 s2 before middle after tree later last group family carried at by k =
    let p = site.program.now in
    Attempts-same p (λ s. outcome_carried_out p (row_by site operation s)) (carried_out_row p) s0 s2 before after tree last group carried (λ c. ap (outcome_carried_out p) (sym (row_is site operation s0 before tree group at c)))
    (Attempts-carried p (outcome_carried_out p) (row_by site operation) s0 s1 s2 before middle after tree later last group family carried by.attempts k)

-- the outcomes of a family may be carried out
pub may_carry_out : {S I : Type 0} (site : Site) (operation : Operation) (s0 s1 : Sets I) (before middle : HeapView S I) (tree later : List (Option (Caller S I))) (group : GroupView S I) (family : List (Outcome S I)) → IsGiven site operation s0 before group → IsAttemptIn site operation s0 s1 before middle tree later group family → MayCarryOut site s1 middle later family
may_carry_out site operation s0 s1 before middle tree later group family given by = record {
  may = record {
    bounded = given.bounded;
    is_heap = by.attempts.is_heap;
    is_for = by.is_for;
    there = AreThere-outcomes site.program.now s0 s1 middle later group family by.attempts.came.continue;
  };
  at_calls = attempt_calls site operation s0 s1 before middle tree later group given.at_site family by;
}

-- what came of them may be thrown
pub may_throw : {S I : Type 0} (site : Site) (operation : Operation) (s0 s1 s2 : Sets I) (before middle after : HeapView S I) (tree later last : List (Option (Caller S I))) (group : GroupView S I) (family carried : List (Outcome S I)) → IsGiven site operation s0 before group → IsAttemptIn site operation s0 s1 before middle tree later group family → AreCarriedOut site.program.now (outcome_carried_out site.program.now) s1 s2 middle after later last family carried → MayThrow site.program.now s2 after last carried
may_throw site operation s0 s1 s2 before middle after tree later last group family carried given by k = record {
  bounded = given.bounded;
  is_heap = k.is_heap;
  is_for = k.is_for;
  there = AreThere-outcomes site.program.now s0 s2 after last group carried (attempted_so_far site operation s0 s1 s2 before middle after tree later last group family carried given.at_site by k).came.continue;
}

-- the family's outcomes, with native methods and beginnings carried out, and then with exceptions thrown
pub attempted : {S I : Type 0} (site : Site) (operation : Operation) (s0 s1 s2 s3 : Sets I) (h0 h1 h2 h3 : HeapView S I) (t0 t1 t2 t3 : List (Option (Caller S I))) (group : GroupView S I) (family carried made : List (Outcome S I)) → IsAtSite site operation group → IsAttemptIn site operation s0 s1 h0 h1 t0 t1 group family → AreCarriedOut site.program.now (outcome_carried_out site.program.now) s1 s2 h1 h2 t1 t2 family carried → AreCarriedOut site.program.now (thrown_out site.program.now) s2 s3 h2 h3 t2 t3 carried made → list_all is_placed made ≡ true → IsAttempted site.program.now s0 s3 h0 h3 t0 t3 group made
attempted site operation s0 s1 s2 s3 h0 h1 h2 h3 t0 t1 t2 t3 group family carried made at by k t placed =
    let p = site.program.now in
    record {
      is_for = t.is_for;
      attempts = Attempts-carried p (thrown_out p) (carried_out_row p) s0 s2 s3 h0 h2 h3 t0 t2 t3 group carried made (attempted_so_far site operation s0 s1 s2 h0 h1 h2 t0 t1 t2 group family carried at by k) t;
      placed = placed;
    }

-- ---- where no instruction stands

-- the runs end by the rule that is broken there
pub ended_there : {S I : Type 0} (p : Program) (sets : Sets I) (heap : HeapView S I) (tree : List (Option (Caller S I))) (group : GroupView S I) (condition : I) (place : List ℕ) (made : List (Outcome S I)) → MayAttempt p sets heap tree group → ((s : State) → s.top.method ≡ group.top.method.0 → s.top.position ≡ group.top.position → row p s ≡ illegal_in p s) → condition ≡ path_of group → place ≡ place_at p group.top.method.0 group.top.position → made ≡ shared.Ended condition (Illegal place) ∷ [] → IsAttempted p sets sets heap heap tree tree group made
ended_there p sets heap tree group condition place made may law inside spelled is =
    let known = IsGroup-path_known sets group (IsGroupIn-group sets tree group may.stands.is_group) in
    let ends : (c : List Bool) → Ended (Illegal place) ≡ attempted_row p (state_at sets heap tree group c) = λ c. ap (λ text. Ended (Illegal text)) spelled ∙ sym (ap (λ o. thrown_out p (outcome_carried_out p o)) (law (state_at sets heap tree group c) refl refl)) in
    rw is (record {
      is_for = may.is_for;
      attempts = record {
        is_heap = may.is_heap;
        grows = Grows-refl heap;
        keeps = Keeps-refl tree;
        came = CameTo-one p sets sets heap tree group (λ c. attempted_row p (state_at sets heap tree group c)) (sets.test (path_of group)) (shared.Ended condition (Illegal place)) (ap (λ i. sets.is_known i) inside ∙ known) (λ c. ap (λ i. sets.test i c) inside) (λ c t. ends c);
        outside = λ c t. refl;
      };
      placed = refl;
    })

-- a method without code
pub no_code : (p : Program) (method : ℕ) → (method_at p method).code ≡ None → (s : State) → s.top.method ≡ method → row p s ≡ illegal_in p s
no_code p method e s at = ap (λ m. row_in p s (method_at p m).code) at ∙ ap (row_in p s) e

-- behind the last instruction
pub no_instruction : {S I : Type 0} (p : Program) (group : GroupView S I) (code : Code) (found fault : DecodeFault) (bytes : List ℕ) (top : Frame S I) → (method_at p group.top.method.0).code ≡ Some code → bytes ≡ code.bytes → top ≡ group.top → Err found ≡ ok_or (instruction_at bytes top.position) fault → (s : State) → s.top.method ≡ group.top.method.0 → s.top.position ≡ group.top.position → row p s ≡ illegal_in p s
no_instruction p group code found fault bytes top e same is missing s at there =
    let none = missing_at (instruction_at code.bytes group.top.position) found fault (rw (same, is) at missing) in
    ap (λ m. row_in p s (method_at p m).code) at ∙ ap (row_in p s) e ∙ ap (λ n. row_if p s code (instruction_at code.bytes n)) there ∙ ap (row_if p s code) none

-- ---- what was carried out

-- none of what came of a family's outcomes is a native method or a beginning
pub none_uncarried : {S I : Type 0} (site : Site) (operation : Operation) (s0 s1 s2 : Sets I) (before middle after : HeapView S I) (tree later last : List (Option (Caller S I))) (group : GroupView S I) (family carried : List (Outcome S I)) → IsAtSite site operation group → IsAttemptIn site operation s0 s1 before middle tree later group family → AreCarriedOut site.program.now (outcome_carried_out site.program.now) s1 s2 middle after later last family carried → NoneUncarried site.program.now s2 after last carried
none_uncarried site operation s0 s1 s2 before middle after tree later last group family carried at by k u =
    let p = site.program.now in
    let there = u.comes s0 group (λ c. carried_out_row p (state_at s0 before tree group c)) (s0.test (path_of group)) (attempted_so_far site operation s0 s1 s2 before middle after tree later last group family carried at by k).came in
    cc (there.1, carried_neither p (row p (state_at s0 before tree group u.config)))
