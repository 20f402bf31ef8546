-- The outcomes of a family stand in its heap and its tree, and the native methods among them are left at the call.
use Rattle.std.proofs.Common.{◌≡◌, Bool, true, List, [], ◌∷◌, ◌&&◌, sym, ◌∙◌, ap, subst, not}
use Rattle.std.specs.Prelude.{◌≢◌, Option}
use Rattle.vx_space.specs.Sets.{Sets, Extends, IsLawful}
use Rattle.vx_cells.proofs.Somewhere.{somewhere_in}
use Rattle.vx_group.specs.declared.callers.Caller.{Caller}
use Rattle.vx_group.specs.Callers.{Keeps}
use Rattle.vx_group.specs.Group.{GroupView, path_of}
use Rattle.vx_group.proofs.GroupLaws.{IsGroupIn-group, IsGroup-path_known}
use Rattle.vx_heap.specs.Heap.{HeapView, IsHeap}
use Rattle.vx_families.specs.Attempts.{IsAtSite, IsAttemptIn, IsGiven, row_by}
use Rattle.vx_java.specs.Machine.{Outcome as PlainOutcome}
use Rattle.vx_java.specs.declared.operation.Operation.{Operation}
use Rattle.vx_link.specs.Parts.{method_at}
use Rattle.vx_link.specs.declared.program.Program.{Program}
use Rattle.vx_opcode.specs.Decode.{instruction_at}
use Rattle.vx_outcome.specs.Outcome.{condition_of}
use Rattle.vx_outcome.specs.declared.outcome.Outcome.{Outcome}
use Rattle.vx_outcome.specs.declared.outcome.Outcome.TheVariants as shared
use Rattle.vx_group_states.specs.Sites.{here}
use Rattle.vx_group_states.specs.Stands.{AreOutcomes, CameTo, Grows, IsOutcome, StandsIn, state_at}
use Rattle.vx_group_states.specs.declared.site.Site.{Site}
use Rattle.vx_group_states.proofs.GrownStates.{StandsIn-grown, message_known, text_known, thrown_held}
use Rattle.vx_group_states.proofs.StateLaws.{top_held, top_shaped}
use Rattle.vx_value.specs.declared.ids.MethodId.{MethodId}
use Rattle.vx_standing.specs.Attempted.{AreConditionsKnown}
use Rattle.vx_attempt.specs.Carrying.{AreAtCalls, AreThere, IsAtCall, IsThere, MayCarryOut}
use Rattle.vx_attempt.proofs.Carrying.{CameTo-rest, first_at}
use Rattle.vx_attempt.proofs.NativeRows.{StaysIn, row_stays}

-- ---- where outcomes stand

IsThere-outcome : {S I : Type 0} (p : Program) (old new : Sets I) (heap : HeapView S I) (tree : List (Option (Caller S I))) (group : GroupView S I) (x : Outcome S I) → IsOutcome p old new heap tree group x → IsThere p new heap tree x
IsThere-outcome p old new heap tree group (shared.Go at) h = h.stands
IsThere-outcome p old new heap tree group (shared.Raise at class message) h = (h.0.stands, h.1)
IsThere-outcome p old new heap tree group (shared.Throw at thrown) h = (h.0.stands, h.1)
IsThere-outcome p old new heap tree group (shared.Begin at class) h = h.stands
IsThere-outcome p old new heap tree group (shared.Native at method) h = h.stands
IsThere-outcome p old new heap tree group (shared.Write at stream text) h = (h.0.stands, h.1)
IsThere-outcome p old new heap tree group (shared.Ended condition end) h = h

pub AreThere-outcomes : {S I : Type 0} (p : Program) (old new : Sets I) (heap : HeapView S I) (tree : List (Option (Caller S I))) (group : GroupView S I) (xs : List (Outcome S I)) → AreOutcomes p old new heap tree group xs → AreThere p new heap tree xs
AreThere-outcomes p old new heap tree group [] h = tt
AreThere-outcomes p old new heap tree group (x ∷ xs) h = (IsThere-outcome p old new heap tree group x h.0, AreThere-outcomes p old new heap tree group xs h.1)

-- ---- the native methods of a family

-- a group at the same place of the same method stands at the same instruction
at_same_place : {S I : Type 0} (site : Site) (operation : Operation) (group at : GroupView S I) → at.top.method.0 ≡ group.top.method.0 → at.top.position ≡ group.top.position → IsAtSite site operation group → IsAtSite site operation at
at_same_place site operation group at method position h = record {
  instruction = h.instruction;
  code = ap (λ m. (method_at site.program.now m).code) method ∙ h.code;
  found = ap (instruction_at site.code.now.bytes) position ∙ h.found;
  size = h.size;
  does = h.does;
  within = rw position h.within;
  short = h.short;
}

module _ {S I : Type 0} (site : Site) (operation : Operation) (s0 s1 : Sets I) (before mid : HeapView S I) (tree later : List (Option (Caller S I))) (group : GroupView S I) (stands : IsAtSite site operation group) where
  -- what the row of the operation says of a configuration
  abbrev Says : List Bool → PlainOutcome
  Says c = row_by site operation (state_at s0 before tree group c)

  -- a native method was left with the frame on top with which the call was attempted
  at_call : (set : List Bool → Bool) (at : GroupView S I) (method : MethodId) (xs : List (Outcome S I)) → CameTo site.program.now s0 s1 mid later group Says set (shared.Native at method ∷ xs) → (c : List Bool) → s1.test (path_of at) c ≡ true → (operation : Operation) × IsAtSite site operation at
  at_call set at method xs h c t =
      let row = first_at site.program.now s0 s1 mid later group Says set (shared.Native at method) xs h c t in
      let state = state_at s0 before tree group c in
      let same : (state_at s1 mid later at c).top ≡ state.top = subst (StaysIn state) (sym row) (row_stays (here site state) operation) in
      (operation, at_same_place site operation group at (ap (λ f. f.method) same) (ap (λ f. f.position) same) stands)

  call_first : (set : List Bool → Bool) (x : Outcome S I) (xs : List (Outcome S I)) → CameTo site.program.now s0 s1 mid later group Says set (x ∷ xs) → IsAtCall site s1 x
  call_first set (shared.Native at method) xs h = at_call set at method xs h
  call_first set (shared.Go at) xs h = tt
  call_first set (shared.Raise at class message) xs h = tt
  call_first set (shared.Throw at thrown) xs h = tt
  call_first set (shared.Begin at class) xs h = tt
  call_first set (shared.Write at stream text) xs h = tt
  call_first set (shared.Ended condition end) xs h = tt

  calls_all : (set : List Bool → Bool) (xs : List (Outcome S I)) → CameTo site.program.now s0 s1 mid later group Says set xs → AreAtCalls site s1 xs
  calls_all set [] h = tt
  calls_all set (x ∷ xs) h = (call_first set x xs h, calls_all (λ c. set c && not (s1.test (condition_of x) c)) xs (CameTo-rest site.program.now s0 s1 mid later group Says set x xs h))

  pub attempt_calls : (outcomes : List (Outcome S I)) → IsAttemptIn site operation s0 s1 before mid tree later group outcomes → AreAtCalls site s1 outcomes
  attempt_calls outcomes a = calls_all (s0.test (path_of group)) outcomes a.attempts.came

-- ---- over a later space, a later heap and a later tree

module _ {S I : Type 0} (p : Program) {s0 s1 : Sets I} {t0 t1 : List (Option (Caller S I))} (e : Extends s0 s1) (k : Keeps t0 t1) (before after : HeapView S I) (v : IsHeap s0 before) (grows : Grows before after) where
  stands_later : (group : GroupView S I) → StandsIn p s0 before t0 group → StandsIn p s1 after t1 group
  stands_later group s = StandsIn-grown p e k before after v grows group s

  IsThere-grown : (x : Outcome S I) → IsThere p s0 before t0 x → IsThere p s1 after t1 x
  IsThere-grown (shared.Go group) h = stands_later group h
  IsThere-grown (shared.Raise group class message) h = (stands_later group h.0, message_known p e k before after v grows message h.1)
  IsThere-grown (shared.Throw group thrown) h = (stands_later group h.0, thrown_held p e k before after v grows group thrown h.0 h.1)
  IsThere-grown (shared.Begin group class) h = stands_later group h
  IsThere-grown (shared.Native group method) h = stands_later group h
  IsThere-grown (shared.Write group stream text) h = (stands_later group h.0, text_known p e k before after v grows text h.1)
  IsThere-grown (shared.Ended condition end) h = e.known condition h

  pub AreThere-grown : (xs : List (Outcome S I)) → AreThere p s0 before t0 xs → AreThere p s1 after t1 xs
  AreThere-grown [] h = tt
  AreThere-grown (x ∷ xs) h = (IsThere-grown x h.0, AreThere-grown xs h.1)

module _ {S I : Type 0} (site : Site) {s0 s1 : Sets I} (e : Extends s0 s1) (heap : HeapView S I) (tree : List (Option (Caller S I))) where
  IsAtCall-later : (x : Outcome S I) → IsThere site.program.now s0 heap tree x → IsAtCall site s0 x → IsAtCall site s1 x
  IsAtCall-later (shared.Native group method) s h = λ c t. h c (sym (e.test (path_of group) c (IsGroup-path_known s0 group (IsGroupIn-group s0 tree group s.is_group))) ∙ t)
  IsAtCall-later (shared.Go group) s h = tt
  IsAtCall-later (shared.Raise group class message) s h = tt
  IsAtCall-later (shared.Throw group thrown) s h = tt
  IsAtCall-later (shared.Begin group class) s h = tt
  IsAtCall-later (shared.Write group stream text) s h = tt
  IsAtCall-later (shared.Ended condition end) s h = tt

  pub AreAtCalls-later : (xs : List (Outcome S I)) → AreThere site.program.now s0 heap tree xs → AreAtCalls site s0 xs → AreAtCalls site s1 xs
  AreAtCalls-later [] s h = tt
  AreAtCalls-later (x ∷ xs) s h = (IsAtCall-later x s.0 h.0, AreAtCalls-later xs s.1 h.1)

-- ---- what is known of one of them

pub there_known : {S I : Type 0} (p : Program) (sets : Sets I) (heap : HeapView S I) (tree : List (Option (Caller S I))) (x : Outcome S I) → IsThere p sets heap tree x → sets.is_known (condition_of x) ≡ true
there_known p sets heap tree (shared.Go group) h = IsGroup-path_known sets group (IsGroupIn-group sets tree group h.is_group)
there_known p sets heap tree (shared.Raise group class message) h = IsGroup-path_known sets group (IsGroupIn-group sets tree group h.0.is_group)
there_known p sets heap tree (shared.Throw group thrown) h = IsGroup-path_known sets group (IsGroupIn-group sets tree group h.0.is_group)
there_known p sets heap tree (shared.Begin group class) h = IsGroup-path_known sets group (IsGroupIn-group sets tree group h.is_group)
there_known p sets heap tree (shared.Native group method) h = IsGroup-path_known sets group (IsGroupIn-group sets tree group h.is_group)
there_known p sets heap tree (shared.Write group stream text) h = IsGroup-path_known sets group (IsGroupIn-group sets tree group h.0.is_group)
there_known p sets heap tree (shared.Ended condition end) h = h

pub all_known : {S I : Type 0} (p : Program) (sets : Sets I) (heap : HeapView S I) (tree : List (Option (Caller S I))) (xs : List (Outcome S I)) → AreThere p sets heap tree xs → AreConditionsKnown sets xs
all_known p sets heap tree [] h = tt
all_known p sets heap tree (x ∷ xs) h = (there_known p sets heap tree x h.0, all_known p sets heap tree xs h.1)

-- some configuration comes to the native method, so its group stands at the call
pub some_call : {S I : Type 0} (site : Site) {sets : Sets I} → IsLawful sets → (heap : HeapView S I) (tree : List (Option (Caller S I))) (group : GroupView S I) (method : MethodId) → path_of group ≢ sets.never → MayCarryOut site sets heap tree (shared.Native group method ∷ []) → (operation : Operation) × IsGiven site operation sets heap group
some_call site {sets = sets} lawful heap tree group method some m =
    let stands = m.may.there.0 in
    let known = IsGroup-path_known sets group (IsGroupIn-group sets tree group stands.is_group) in
    let found = somewhere_in lawful (path_of group) known some in
    let call = m.at_calls.0 found.config found.inside in (
      call.0,
      record {
        bounded = m.may.bounded;
        at_site = call.1;
        is_heap = m.may.is_heap;
        is_for = m.may.is_for;
        is_group = IsGroupIn-group sets tree group stands.is_group;
        runs = stands.runs;
        held = top_held site.program.now sets heap tree group stands;
        shaped = top_shaped site.program.now sets heap tree group stands;
      },
    )
