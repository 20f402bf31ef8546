-- What comes of the parts of a group, each of one rise, and of the whole beginning.
use Rattle.std.proofs.Common.{◌≡◌, ℕ, ◌+◌, ◌<◌, ◌≤◌, ◌^◌, Bool, true, false, List, [], ◌∷◌, refl, sym, ◌∙◌, ap, subst, arith, length}
use Rattle.std.proofs.lemmas.Bool.{ltb-false}
use Rattle.std.proofs.lemmas.List.{length-map}
use Rattle.std.specs.Prelude.{Option, Some, None, if◌then◌else◌, is_some, reverse}
use Rattle.vx_cond.proofs.CondLaws.{cond_at-extends}
use Rattle.vx_cond.proofs.SideLaws.{cond_at-covers}
use Rattle.vx_cond.specs.Cond.{Conditional, IsCond, cond_at}
use Rattle.vx_cond.specs.Leaves.{value_at}
use Rattle.vx_frames.proofs.EnterLaws.{state_depth}
use Rattle.vx_frames.specs.Giving.{AttemptsAt, GivesIn}
use Rattle.vx_group.proofs.CallerLaws.{Keeps-refl}
use Rattle.vx_group.proofs.GroupLaws.{IsGroup-path_known, IsGroupIn-group}
use Rattle.vx_group.specs.declared.callers.Caller.{Caller}
use Rattle.vx_group.specs.Callers.{Keeps}
use Rattle.vx_group.specs.Group.{GroupView, IsGroupIn, depth_of, path_of}
use Rattle.vx_group_states.proofs.GrownStates.{Grows-refl, StandsIn-grown, state_at-grown}
use Rattle.vx_group_states.proofs.OutcomeStates.{CameTo-one, CameTo-same}
use Rattle.vx_group_states.specs.Stands.{CameTo, StandsIn, state_at}
use Rattle.vx_families.proofs.ChangeLaws.{attempts_follow, statics_change_in}
use Rattle.vx_families.specs.Changing.{IsChangedIn, changed_in, with_globals}
use Rattle.vx_heap.proofs.Written.{allowed_known}
use Rattle.vx_heap.specs.Heap.{Globals, HeapView, globals_at, inits_at}
use Rattle.vx_java.specs.Initialisation.{begin, with_frames}
use Rattle.vx_java.specs.Machine.{Go, Raise, State, depth, frame_bound, when}
use Rattle.vx_java.specs.Machine.{Outcome as PlainOutcome}
use Rattle.vx_link.specs.ClassNames.{core_class}
use Rattle.vx_link.specs.declared.program.Program.{Program}
use Rattle.vx_outcome.specs.declared.outcome.Outcome.{Outcome}
use Rattle.vx_outcome.specs.declared.outcome.Outcome.TheVariants as shared
use Rattle.vx_ready.proofs.Changes.{IsChanged-before}
use Rattle.vx_ready.specs.Changing.{IsChanged}
use Rattle.vx_ready.specs.Initialising.{numbers_of}
use Rattle.vx_space.proofs.Spaces.{Extends-refl, Extends-trans}
use Rattle.vx_space.specs.Sets.{Extends, Sets}
use Rattle.vx_value.specs.declared.ids.ClassId.{ClassId}
use Rattle.vx_init.proofs.BeginLaws.{begun_as}
use Rattle.vx_init.specs.Beginning.{IsBeginning, IsChainPushed}
use Rattle.vx_init.specs.Rises.{rise_cmp}
use Rattle.vx_init.specs.Rising.{begun_by, marked_by, marked_if, pushed, rise_of, rise_or_open, too_many}
use Rattle.vx_init.specs.declared.rise.Rise.{Rise}

-- ---- the part of one rise that goes on

module _ {S I : Type 0} (p : Program) (sets : Sets I) (tree : List (Option (Caller S I))) (group : GroupView S I) (classes many : List ℕ) (same : classes ≡ many) (heap : HeapView S I) where
  -- the test at each configuration is that of the group
  room : IsGroupIn sets tree group → (c : List Bool) → too_many (depth_of group) classes ≡ too_many (depth (state_at sets heap tree group c)) many
  room v c = λ i. too_many (sym (state_depth sets heap tree group c v) i) (same i)

  -- there would be too many frames
  pub full-gives : (later : List (Option (Caller S I))) (outcomes : List (Outcome S I)) → too_many (depth_of group) classes ≡ true → GivesIn p (λ _ _ s. Raise (core_class p "java/lang/StackOverflowError") None s) sets sets tree later group outcomes heap → GivesIn p (λ _ _. pushed p many) sets sets tree later group outcomes heap
  full-gives later outcomes full raised h s =
      CameTo-same p sets sets heap later group _ (λ c. pushed p many (state_at sets heap tree group c)) (sets.test (path_of group)) (sets.test (path_of group)) outcomes (λ c. refl) (λ c t.
      let state = state_at sets heap tree group c in
      ap (λ b. when b (Raise (core_class p "java/lang/StackOverflowError") None state) (Go (with_frames p state (reverse many)))) (sym full ∙ room s.is_group c)) (raised h s)

  -- the frames are pushed
  pub chain-gives : (later : List (Option (Caller S I))) (chain : List ClassId) (after : GroupView S I) (outcomes : List (Outcome S I)) → classes ≡ numbers_of chain → too_many (depth_of group) classes ≡ false → IsChainPushed p sets tree later group chain after → outcomes ≡ shared.Go after ∷ [] → GivesIn p (λ _ _. pushed p many) sets sets tree later group outcomes heap
  chain-gives later chain after outcomes numbers few e made h s =
      let what : List Bool → PlainOutcome = λ c. pushed p many (state_at sets heap tree group c) in
      let P : List (Outcome S I) → Type 0 = λ xs. CameTo p sets sets heap later group what (sets.test (path_of group)) xs in
      subst P (sym made) (CameTo-one p sets sets heap later group what (sets.test (path_of group)) (shared.Go after) (e.continues heap s) (λ c. ap (λ (cond : Conditional ℕ S I). sets.test cond.scope c) e.attempts) (λ c t.
      let state = state_at sets heap tree group c in
      ap Go (e.at heap c t ∙ ap (λ cs. with_frames p state (reverse cs)) (sym numbers ∙ same))
      ∙ ap (λ b. when b (Raise (core_class p "java/lang/StackOverflowError") None state) (Go (with_frames p state (reverse many)))) (sym few ∙ room s.is_group c)))

-- the part of a rise that is known
pub rise_gives : {S I : Type 0} (p : Program) (old new : Sets I) (tree later : List (Option (Caller S I))) (group : GroupView S I) (outcomes : List (Outcome S I)) (heap : HeapView S I) (class : ℕ) (rise known : Rise) → rise ≡ known → GivesIn p (λ _ _. begun_by p class known) old new tree later group outcomes heap → GivesIn p (λ _ _. begun_by p class rise) old new tree later group outcomes heap
rise_gives {S = S} {I = I} p old new tree later group outcomes heap class rise known e gives =
    let P : Rise → Type 0 = λ r. GivesIn {S = S} {I = I} p (λ _ _. begun_by p class r) old new tree later group outcomes heap in
    subst P (sym e) gives

-- a chain with few frames fits into the numbers of frames
pub few_fit : (frames : ℕ) (chain : List ClassId) → too_many frames (numbers_of chain) ≡ false → frames + length chain < 2 ^ 32
few_fit frames chain h =
    let most : frames + length (numbers_of chain) ≤ 1024 = ltb-false frame_bound (frames + length (numbers_of chain)) h in
    let same : length (numbers_of chain) ≡ length chain = simp length-map in
    omega (arith, most, same)

-- ---- the whole

not_marked : (p : Program) (class frames : ℕ) (o : Option Rise) (x : Globals) → is_some o ≡ false → marked_if p class frames o x ≡ x
not_marked p class frames None x h = refl
not_marked p class frames (Some rise) x h = cc h

module _ {S I : Type 0} (p : Program) (s0 s1 : Sets I) (before : HeapView S I) (tree : List (Option (Caller S I))) (group : GroupView S I) (class : ℕ) (rises : Conditional Rise S I) (b : IsBeginning p s0 before tree group) (e01 : Extends s0 s1) (v : IsCond rise_cmp s1 rises) (scope : rises.scope ≡ path_of group) where
  abbrev path : List Bool → Bool
  path = s0.test (path_of group)

  covered : (c : List Bool) → is_some (value_at s1 rises.leaves c) ≡ path c
  covered c = cond_at-covers rise_cmp s1 rises v c ∙ ap (λ id. s1.test id c) scope ∙ e01.test (path_of group) c (IsGroup-path_known s0 group (IsGroupIn-group s0 tree group b.stands.is_group))

  -- the conditions of the rises run
  pub rises_run : (c : List Bool) → is_some (value_at s1 rises.leaves c) ≡ true → s1.test before.allowed c ≡ true
  rises_run c t = e01.test before.allowed c (allowed_known s0 before b.is_heap) ∙ b.stands.runs.inside c (sym (covered c) ∙ t)

  module _ (s2 : Sets I) (after : HeapView S I) (frames : ℕ) (deep : frames ≡ depth_of group) (at : (c : List Bool) → path c ≡ true → cond_at s1 rises c ≡ Some (rise_of p (inits_at s0 before c) class)) (e12 : Extends s1 s2) (changed : IsChanged s1 s2 before after (λ c. marked_if p class frames (value_at s1 rises.leaves c))) where
    abbrev change : List Bool → Globals → Globals
    change c = marked_if p class frames (value_at s1 rises.leaves c)

    changed_inside : IsChangedIn s0 s2 before after path change
    changed_inside =
        let whole = IsChanged-before e01 before after change change b.is_heap (λ c. refl) changed in
        statics_change_in s0 s2 before after path change whole.is_heap whole.same whole.statics whole.inits whole.at (λ c t x. not_marked p class frames (value_at s1 rises.leaves c) x (covered c ∙ t))

    -- at one configuration
    law : (c : List Bool) → path c ≡ true → begun_by p class (rise_or_open (value_at s2 rises.leaves c)) (with_globals (state_at s0 before tree group c) (changed_in path change c (globals_at s0 before c))) ≡ begin p (state_at s0 before tree group c) class
    law c t =
        let state = state_at s0 before tree group c in
        let rise = rise_of p (inits_at s0 before c) class in
        let x = globals_at s0 before c in
        ap (λ o. begun_by p class (rise_or_open o) (with_globals state (changed_in path change c x))) (cond_at-extends rise_cmp e12 rises v c ∙ at c t)
        ∙ ap (λ w. begun_by p class rise (with_globals state (if w then change c x else x))) t
        ∙ ap (λ o. begun_by p class rise (with_globals state (marked_if p class frames o x))) (at c t)
        ∙ ap (λ n. begun_by p class rise (with_globals state (marked_by p class n rise x))) (deep ∙ sym (state_depth s0 before tree group c b.stands.is_group))
        ∙ sym (begun_as p state class)

    pub begun-attempts : (s3 : Sets I) (later : List (Option (Caller S I))) (outcomes : List (Outcome S I)) → Extends s2 s3 → Keeps tree later → GivesIn p (λ _ c. begun_by p class (rise_or_open (value_at s2 rises.leaves c))) s2 s3 tree later group outcomes after → AttemptsAt p (λ _ s. begin p s class) s0 s3 before after tree later group outcomes
    begun-attempts s3 later outcomes e23 keeps gives =
        let e02 = Extends-trans e01 e12 in
        let there : List Bool → State → PlainOutcome = λ c s. begun_by p class (rise_or_open (value_at s2 rises.leaves c)) s in
        let stands : StandsIn p s2 after tree group = StandsIn-grown p e02 (Keeps-refl tree) before after b.is_heap changed_inside.grows group b.stands in
        let same : (c : List Bool) → s2.test (path_of group) c ≡ true → there c (state_at s2 after tree group c) ≡ there c (state_at s2 after later group c) = λ c t. ap (there c) (sym (state_at-grown p (Extends-refl s2) keeps after after changed.is_heap (Grows-refl after) group stands c t refl)) in
        let came : CameTo p s2 s3 after later group (λ c. there c (state_at s2 after later group c)) (s2.test (path_of group)) outcomes = CameTo-same p s2 s3 after later group (λ c. there c (state_at s2 after tree group c)) (λ c. there c (state_at s2 after later group c)) (s2.test (path_of group)) (s2.test (path_of group)) outcomes (λ c. refl) same (gives changed.is_heap stands) in
        let whole = attempts_follow p (λ s. begin p s class) there s0 s2 s3 before after path change tree later group outcomes b.is_heap b.stands e02 changed_inside (λ c t. t) e23 keeps law came in
        record {
          is_heap = whole.is_heap;
          is_for = changed_inside.keeps p b.is_for;
          grows = whole.grows;
          keeps = whole.keeps;
          came = whole.came;
          outside = whole.outside;
        }
