-- What each configuration makes, in one set of configurations after another, and the attempt that comes of it.
use Rattle.std.proofs.Common.{◌≡◌, ◌<◌, ◌≤◌, ◌^◌, ◌∷◌, ℕ, Bool, true, false, List, refl, sym, ◌∙◌, ap, arith, drop, length, subst}
use Rattle.std.specs.Prelude.{Option, Some, ◌||◌, is_some, if◌then◌else◌, unwrap_or}
use Rattle.vx_cond.specs.Cond.{Conditional, IsCond, IsCondOf, cond_at}
use Rattle.vx_cond.specs.Leaves.{value_under}
use Rattle.vx_cond.proofs.CondLaws.{IsCond-extends, IsCond-of, cond_at-extends, cond_at-of}
use Rattle.vx_cond.proofs.SideLaws.{cond_at-covers}
use Rattle.vx_families.specs.Attempts.{AttemptsBy}
use Rattle.vx_group.specs.Group.{GroupView, IsGroup, path_of}
use Rattle.vx_group.specs.declared.callers.Caller.{Caller}
use Rattle.vx_group.proofs.CallerLaws.{Keeps-refl}
use Rattle.vx_group.proofs.GroupLaws.{IsGroup-extends, IsGroup-path_known}
use Rattle.vx_group_states.specs.Answering.{AreHeld, IsReady, answer_at, answered, answered_by, is_answer_held}
use Rattle.vx_group_states.specs.Answers.{answer_cmp}
use Rattle.vx_group_states.specs.Sites.{GivesAt, HasPast, here}
use Rattle.vx_group_states.specs.Stands.{state_at}
use Rattle.vx_group_states.specs.declared.answer.Answer.{Answer}
use Rattle.vx_group_states.specs.declared.answer.Answer.TheVariants.{Illegal}
use Rattle.vx_group_states.specs.declared.site.Site.{Site}
use Rattle.vx_group_states.proofs.GrownStates.{StandsIn-grown}
use Rattle.vx_families.specs.Changing.{with_globals}
use Rattle.vx_families.proofs.ChangeLaws.{attempts_follow, changed_later, unchanged}
use Rattle.vx_families.proofs.NameLaws.{name_stays}
use Rattle.vx_heap.specs.Changing.{Grows, IsChangedIn}
use Rattle.vx_heap.specs.Heap.{Globals, HeapView, IsHeap, IsHeapFor, globals_at}
use Rattle.vx_heap.proofs.Growing.{Grows-refl, Grows-trans, is_held-grown}
use Rattle.vx_heap.proofs.Known.{cond_known}
use Rattle.vx_java.specs.Machine.{Go, Outcome as PlainOutcome, State, Value, past, with_objects}
use Rattle.vx_java.specs.Machine.{Ref as RefValue}
use Rattle.vx_outcome.specs.declared.outcome.Outcome.{Outcome}
use Rattle.vx_space.specs.Sets.{Sets, Extends, IsLawful}
use Rattle.vx_value.specs.declared.slot.Slot.TheVariants.{Ref}
use Rattle.vx_cells.specs.Making.{AreAllMade, AreMade, Breaks, IsMadeInside, IsMakingAnswered, Making, Makes, Raises, made_row, with_made}

-- ---- what stays

answered_stays : {S I : Type 0} {s0 s1 : Sets I} → Extends s0 s1 → (before after : HeapView S I) → IsHeap s0 before → Grows before after → (c : List Bool) (number : ℕ) (m : Making) (a : Answer) → IsMakingAnswered s0 before c number m a → IsMakingAnswered s1 after c number m a
answered_stays e before after v k c number Breaks a h = h
answered_stays e before after v k c number (Raises class) a h = h
answered_stays e before after v k c number (Makes objects) a h = record {
  reference = h.reference;
  is = h.is;
  name = name_stays e before after v k c h.reference h.held ∙ h.name;
  held = is_held-grown e before after v k c (Ref h.reference) h.held;
}

-- ---- sets

module _ {S I : Type 0} (makes : List Bool → Making) where
  -- a set without configurations
  pub AreMade-none : (sets : Sets I) (heap : HeapView S I) (set : List Bool → Bool) (answers : Conditional Answer S I) → IsHeap sets heap → IsCond answer_cmp sets answers → ((c : List Bool) → set c ≡ false) → AreMade makes sets sets heap heap set answers answers
  AreMade-none sets heap set answers v w none = record {
    changed = unchanged sets heap set (λ c. with_made (makes c)) v (λ c t. absurd (both (set c) (none c) t));
    is_cond = w;
    scope = λ c. sym (or_false (sets.test answers.scope c)) ∙ ap (λ b. sets.test answers.scope c || b) (sym (none c));
    at = λ c t. absurd (both (set c) (none c) t);
    stay = λ c t. refl;
  }
    where
      both : (b : Bool) → b ≡ false → b ≡ true → ⊥
      both b f t = cc (f, t)

      or_false : (b : Bool) → (b || false) ≡ b
      or_false true = refl
      or_false false = refl

  -- over a later space
  pub AreMade-extends : {s0 s1 s2 : Sets I} → Extends s1 s2 → (before after : HeapView S I) (set : List Bool → Bool) (answers made : Conditional Answer S I) → AreMade makes s0 s1 before after set answers made → AreMade makes s0 s2 before after set answers made
  AreMade-extends {s0 = s0} {s1 = s1} {s2 = s2} e before after set answers made h = record {
    changed = changed_later e before after set (λ c. with_made (makes c)) h.changed;
    is_cond = IsCond-extends answer_cmp e made h.is_cond;
    scope = λ c. e.test made.scope c (cond_known answer_cmp s1 made h.is_cond).0 ∙ h.scope c;
    at = λ c t.
        let P : Answer → Type 0 = λ a. IsMakingAnswered s2 after c (length (globals_at s0 before c).objects) (makes c) a in
        subst P (sym (same c)) (answered_stays e after after h.changed.is_heap (Grows-refl after) c (length (globals_at s0 before c).objects) (makes c) (answer_at s1 made c) (h.at c t));
    stay = λ c t. same c ∙ h.stay c t;
  }
    where
      same : (c : List Bool) → answer_at s2 made c ≡ answer_at s1 made c
      same c = ap (λ o. unwrap_or o Illegal) (cond_at-extends answer_cmp e made h.is_cond c)

  -- one set after another, which has no configuration of it
  pub AreMade-then : (more : List Bool → Making) {s0 s1 s2 : Sets I} → Extends s1 s2 → (before middle after : HeapView S I) (first second set : List Bool → Bool) (answers made last : Conditional Answer S I) → ((c : List Bool) → second c ≡ true → first c ≡ false) → ((c : List Bool) → second c ≡ true → more c ≡ makes c) → ((c : List Bool) → set c ≡ (first c || second c)) → AreMade makes s0 s1 before middle first answers made → AreMade more s1 s2 middle after second made last → AreMade makes s0 s2 before after set answers last
  AreMade-then more {s0 = s0} {s1 = s1} {s2 = s2} e before middle after first second set answers made last apart agree union h k = record {
    changed = record {
      is_heap = k.changed.is_heap;
      grows = Grows-trans before middle after h.changed.grows k.changed.grows;
      keeps = λ q r. k.changed.keeps q (h.changed.keeps q r);
      inside = λ c t. inside c (first c) (second c) refl refl (sym (union c) ∙ t);
      outside = λ c t.
          let parts = neither (first c) (second c) (sym (union c) ∙ t) in
          k.changed.outside c parts.1 ∙ h.changed.outside c parts.0;
    };
    is_cond = k.is_cond;
    scope = λ c.
        k.scope c
        ∙ ap (λ b. b || second c) (h.scope c)
        ∙ grouped (s0.test answers.scope c) (first c) (second c)
        ∙ ap (λ b. s0.test answers.scope c || b) (sym (union c));
    at = λ c t. said c (first c) (second c) refl refl (sym (union c) ∙ t);
    stay = λ c t.
        let parts = neither (first c) (second c) (sym (union c) ∙ t) in
        k.stay c parts.1 ∙ h.stay c parts.0;
  }
    where
      neither : (a b : Bool) → (a || b) ≡ false → (a ≡ false) × (b ≡ false)
      neither false false q = (refl, refl)
      neither false true q = cc q
      neither true b q = cc q

      grouped : (a b d : Bool) → ((a || b) || d) ≡ (a || (b || d))
      grouped true b d = refl
      grouped false b d = refl

      inside : (c : List Bool) (a b : Bool) → first c ≡ a → second c ≡ b → (a || b) ≡ true → globals_at s2 after c ≡ with_made (makes c) (globals_at s0 before c)
      inside c a true q r t = k.changed.inside c r ∙ (λ j. with_made (agree c r j) (h.changed.outside c (apart c r) j))
      inside c true false q r t = k.changed.outside c r ∙ h.changed.inside c q
      inside c false false q r t = cc t

      said : (c : List Bool) (a b : Bool) → first c ≡ a → second c ≡ b → (a || b) ≡ true → IsMakingAnswered s2 after c (length (globals_at s0 before c).objects) (makes c) (answer_at s2 last c)
      said c a true q r t =
          let P : Globals → Type 0 = λ g. IsMakingAnswered s2 after c (length g.objects) (makes c) (answer_at s2 last c) in
          let Q : Making → Type 0 = λ l. IsMakingAnswered s2 after c (length (globals_at s1 middle c).objects) l (answer_at s2 last c) in
          subst P (h.changed.outside c (apart c r)) (subst Q (agree c r) (k.at c r))
      said c true false q r t =
          let P : Answer → Type 0 = λ a. IsMakingAnswered s2 after c (length (globals_at s0 before c).objects) (makes c) a in
          subst P (sym (k.stay c r)) (answered_stays e middle after h.changed.is_heap k.changed.grows c (length (globals_at s0 before c).objects) (makes c) (answer_at s1 made c) (h.at c q))
      said c false false q r t = cc t

  -- one answer in a condition
  pub AreMade-one : {s0 s1 s2 : Sets I} → Extends s0 s1 → Extends s1 s2 → (before after : HeapView S I) (condition : I) (answers made : Conditional Answer S I) (a : Answer) → IsCond answer_cmp s0 answers → s0.is_known condition ≡ true → IsMadeInside makes s0 s1 before after condition a → IsCondOf answer_cmp s2 (value_under s1 condition a (cond_at s1 answers)) made → AreMade makes s0 s2 before after (s0.test condition) answers made
  AreMade-one {s0 = s0} {s1 = s1} {s2 = s2} e f before after condition answers made a v k h m = record {
    changed = changed_later f before after (s0.test condition) (λ c. with_made (makes c)) h.changed;
    is_cond = is_cond;
    scope = λ c. sym (cond_at-covers answer_cmp s2 made is_cond c) ∙ ap is_some (value c) ∙ covered (s0.test condition c) (cond_at s0 answers c) (s0.test answers.scope c) (cond_at-covers answer_cmp s0 answers v c);
    at = λ c t.
        let P : Answer → Type 0 = λ x. IsMakingAnswered s2 after c (length (globals_at s0 before c).objects) (makes c) x in
        subst P (sym (there c t)) (answered_stays f after after h.changed.is_heap (Grows-refl after) c (length (globals_at s0 before c).objects) (makes c) a (h.at c t));
    stay = λ c t. ap (λ o. unwrap_or o Illegal) (value c ∙ ap (λ b. if b then Some a else cond_at s0 answers c) t);
  }
    where
      is_cond : IsCond answer_cmp s2 made
      is_cond = IsCond-of answer_cmp s2 (value_under s1 condition a (cond_at s1 answers)) made m

      value : (c : List Bool) → cond_at s2 made c ≡ (if s0.test condition c then Some a else cond_at s0 answers c)
      value c =
          cond_at-of answer_cmp s2 (value_under s1 condition a (cond_at s1 answers)) made c m
          ∙ (λ j. if e.test condition c k j then Some a else cond_at-extends answer_cmp e answers v c j)

      there : (c : List Bool) → s0.test condition c ≡ true → answer_at s2 made c ≡ a
      there c t = ap (λ o. unwrap_or o Illegal) (value c ∙ ap (λ b. if b then Some a else cond_at s0 answers c) t)

      covered : (b : Bool) (o : Option Answer) (x : Bool) → is_some o ≡ x → is_some (if b then Some a else o) ≡ (x || b)
      covered true o true q = refl
      covered true o false q = refl
      covered false o true q = q
      covered false o false q = q

  -- a scope in which no answers were before
  pub AreMade-all : {s0 s1 : Sets I} → IsLawful s0 → IsLawful s1 → Extends s0 s1 → (before after : HeapView S I) (path : I) (none made : Conditional Answer S I) → s0.is_known path ≡ true → none.scope ≡ s0.never → AreMade makes s0 s1 before after (s0.test path) none made → AreAllMade makes s0 s1 before after path made
  AreMade-all {s0 = s0} {s1 = s1} l0 l1 e before after path none made k n h = record {
    changed = h.changed;
    is_cond = h.is_cond;
    scope = l1.equal_sets made.scope path (cond_known answer_cmp s1 made h.is_cond).0 (e.known path k) (λ c. h.scope c ∙ ap (λ b. b || s0.test path c) (ap (λ i. s0.test i c) n ∙ l0.never_test c) ∙ sym (e.test path c k));
    at = h.at;
  }

-- nothing is made, and all have one answer
pub IsMadeInside-unmade : {S I : Type 0} (makes : List Bool → Making) (m : Making) (sets : Sets I) (heap : HeapView S I) (condition : I) (a : Answer) → IsHeap sets heap → ((g : Globals) → with_made m g ≡ g) → ((c : List Bool) → sets.test condition c ≡ true → makes c ≡ m) → ((c : List Bool) → IsMakingAnswered sets heap c (length (globals_at sets heap c).objects) m a) → IsMadeInside makes sets sets heap heap condition a
IsMadeInside-unmade makes m sets heap condition a v none is said = record {
  changed = unchanged sets heap (sets.test condition) (λ c. with_made (makes c)) v (λ c t. ap (λ n. with_made n (globals_at sets heap c)) (is c t) ∙ none (globals_at sets heap c));
  at = λ c t.
      let P : Making → Type 0 = λ n. IsMakingAnswered sets heap c (length (globals_at sets heap c).objects) n a in
      subst P (sym (is c t)) (said c);
}

-- ---- from what is made to the attempt

abbrev globals_of : State → Globals
globals_of s = record { objects = s.heap; statics = s.statics; inits = s.inits }

-- what comes of the answer over the later heap comes of what is made over the earlier one
made_answered : {S I : Type 0} (site : Site) (sets : Sets I) (heap : HeapView S I) (c : List Bool) (s : State) (rest : List Value) (m : Making) (a : Answer) → IsMakingAnswered sets heap c (length s.heap) m a → answered sets heap c (here site (with_globals s (with_made m (globals_of s)))) rest a ≡ made_row (here site s) rest m
made_answered site sets heap c s rest Breaks a h = ap (answered sets heap c (here site s) rest) h
made_answered site sets heap c s rest (Raises class) a h = ap (answered sets heap c (here site s) rest) h
made_answered site sets heap c s rest (Makes objects) a h =
    ap (answered sets heap c (here site (with_globals s (with_made (Makes objects) (globals_of s)))) rest) h.is
    ∙ ap (λ k. Go (past (here site s) (with_objects s (objects (length s.heap))) (RefValue k ∷ rest))) h.name

-- what it answers is there
making_held : {S I : Type 0} (sets : Sets I) (heap : HeapView S I) (c : List Bool) (number : ℕ) (m : Making) (a : Answer) → IsMakingAnswered sets heap c number m a → is_answer_held sets heap c a ≡ true
making_held sets heap c number Breaks a h = ap (is_answer_held sets heap c) h
making_held sets heap c number (Raises class) a h = ap (is_answer_held sets heap c) h
making_held sets heap c number (Makes objects) a h = ap (is_answer_held sets heap c) h.is ∙ h.held

-- a group whose heap changed inside its path, and for which a call then said what comes over the later heap
pub attempts_after : {S I : Type 0} (site : Site) (says : State → PlainOutcome) (there : HeapView S I → List Bool → State → PlainOutcome) {s0 s1 s2 : Sets I} (before after : HeapView S I) (change : List Bool → Globals → Globals) (group : GroupView S I) (outcomes : List (Outcome S I)) → IsHeap s0 before → IsHeapFor site.program.now before → Extends s0 s1 → Extends s1 s2 → IsChangedIn s0 s1 before after (s0.test (path_of group)) change → ((tree : List (Option (Caller S I))) (c : List Bool) → s0.test (path_of group) c ≡ true → there after c (with_globals (state_at s0 before tree group c) (change c (globals_at s0 before c))) ≡ says (state_at s0 before tree group c)) → GivesAt site.program.now there s1 s2 group outcomes after → AttemptsBy site says s0 s2 before after group outcomes
attempts_after site says there {s0 = s0} {s1 = s1} {s2 = s2} before after change group outcomes v is_for e f changed law gives =
    let p = site.program.now in
    record {
      is_for = changed.keeps p is_for;
      attempts = λ tree s. attempts_follow p says (there after) s0 s1 s2 before after (s0.test (path_of group)) change tree tree group outcomes v s e changed (λ c t. t) f (Keeps-refl tree)
          (λ c t. ap (λ b. there after c (with_globals (state_at s0 before tree group c) (if b then change c (globals_at s0 before c) else globals_at s0 before c))) t ∙ law tree c t)
          (gives tree changed.is_heap (StandsIn-grown p e (Keeps-refl tree) before after v changed.grows group s));
    }

module _ {S I : Type 0} (site : Site) (taken : ℕ) (makes : List Bool → Making) {s0 s1 : Sets I} (before after : HeapView S I) (group : GroupView S I) (answers : Conditional Answer S I) (alone : IsGroup s0 group) (e : Extends s0 s1) (made : AreAllMade makes s0 s1 before after (path_of group) answers) where
  -- the answers are ready to be carried out
  pub making-ready : HasPast site group → 0 < taken → taken ≤ length group.top.stack.conds → length group.top.stack.conds < 2 ^ 32 → IsReady site s1 group taken answers
  making-ready past some enough few = record {
    is_group = IsGroup-extends e group alone;
    past = past;
    enough = enough;
    few = omega (arith, some, few);
    are_answers = made.is_cond;
    inside = record { inside = λ c t. ap (λ i. s1.test i c) made.scope ∙ t };
  }

  -- and what comes of them is the attempt
  pub making-attempts : (says : State → PlainOutcome) {s2 : Sets I} (outcomes : List (Outcome S I)) → IsHeap s0 before → IsHeapFor site.program.now before → Extends s1 s2 → ((tree : List (Option (Caller S I))) (c : List Bool) → s0.test (path_of group) c ≡ true → made_row (here site (state_at s0 before tree group c)) (drop taken (state_at s0 before tree group c).top.operands) (makes c) ≡ says (state_at s0 before tree group c)) → ((heap : HeapView S I) → AreHeld s1 heap (path_of group) answers → GivesAt site.program.now (answered_by site taken s1 answers) s1 s2 group outcomes heap) → AttemptsBy site says s0 s2 before after group outcomes
  making-attempts says outcomes v is_for f row gives =
      attempts_after site says (answered_by site taken s1 answers) before after (λ c. with_made (makes c)) group outcomes v is_for e f made.changed
      (λ tree c t.
      let s = state_at s0 before tree group c in
      made_answered site s1 after c s (drop taken s.top.operands) (makes c) (answer_at s1 answers c) (made.at c t) ∙ row tree c t)
      (gives after (record {
        held = λ c t.
            let inside = sym (e.test (path_of group) c (IsGroup-path_known s0 group alone)) ∙ t in
            making_held s1 after c (length (globals_at s0 before c).objects) (makes c) (answer_at s1 answers c) (made.at c inside);
      }))
