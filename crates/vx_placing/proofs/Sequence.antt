-- Outcomes that take their places one after the other.
use Rattle.std.proofs.Common.{◌≡◌, ℕ, ◌≤◌, Bool, true, false, List, [], ◌∷◌, ◌++◌, refl, sym, ◌∙◌, ap, subst, append_assoc, append-nil}
use Rattle.std.specs.Prelude.{◌&&◌, not, is_some, option_map, Option, Some, None, if◌then◌else◌, unwrap_or}
use Rattle.std.specs.List.{list_all}
use Rattle.std.specs.Option.{option_or}
use Rattle.std.specs.Ordering.{nat_cmp}
use Rattle.vx_list.specs.Places.{item_or}
use Rattle.vx_space.specs.Sets.{Sets, Extends}
use Rattle.vx_space.proofs.Spaces.{Extends-refl, Extends-trans}
use Rattle.vx_cond.specs.Cond.{Conditional, IsCond}
use Rattle.vx_cond.specs.Leaves.{value_at}
use Rattle.vx_cond.proofs.CondLaws.{cond_at-extends}
use Rattle.vx_group.specs.declared.callers.Caller.{Caller}
use Rattle.vx_group.specs.Callers.{Keeps}
use Rattle.vx_group.specs.Group.{GroupView, path_of}
use Rattle.vx_group.proofs.CallerLaws.{Keeps-refl}
use Rattle.vx_group.proofs.GroupLaws.{IsGroupIn-group, IsGroup-path_known, attempts_at-extends}
use Rattle.vx_heap.specs.Heap.{HeapView, IsHeap}
use Rattle.vx_heap.proofs.HeapLaws.{globals_at-extends}
use Rattle.vx_findings.specs.Shared.{leaves_of}
use Rattle.vx_java.specs.Machine.{Go, Write, Outcome as PlainOutcome}
use Rattle.vx_java.specs.Step.{next}
use Rattle.vx_link.specs.declared.program.Program.{Program}
use Rattle.vx_outcome.specs.Outcome.{Divide, condition_of}
use Rattle.vx_outcome.specs.declared.outcome.Outcome.{Outcome}
use Rattle.vx_outcome.specs.declared.outcome.Outcome.TheVariants as shared
use Rattle.vx_group_states.specs.Stands.{StandsIn, outcome_at, state_at}
use Rattle.vx_group_states.proofs.GrownStates.{Grows-refl, StandsIn-grown, state_at-grown}
use Rattle.vx_group_states.proofs.StateLaws.{both_first, both_second}
use Rattle.vx_placing.specs.declared.round.Round.{Round}
use Rattle.vx_standing.specs.Attempted.{is_placed}
use Rattle.vx_placing.specs.Placing.{ArePlaceable, HasGoing, IsGoing, IsOutcomePlaced, IsPlaceable, IsUnderway, IsUnwritten, IsVacant, led_by, made_at, put_if, said_by, said_in}
use Rattle.vx_standing.specs.Waiting.{piece_after}
use Rattle.vx_placing.proofs.Putting.{IsPut-same, IsPut-then, IsVacant-put, then_put}

-- ---- over a later space

pub made_at-extends : {S I : Type 0} {old new : Sets I} → Extends old new → (attempts : Conditional ℕ S I) → IsCond nat_cmp old attempts → (c : List Bool) → made_at new attempts c ≡ made_at old attempts c
made_at-extends e attempts v c = ap (λ o. unwrap_or o 0) (cond_at-extends nat_cmp e attempts v c)

IsGoing-later : {S I : Type 0} (p : Program) {old new : Sets I} {t0 t1 : List (Option (Caller S I))} → Extends old new → Keeps t0 t1 → (heap : HeapView S I) → IsHeap old heap → (attempts : Conditional ℕ S I) → IsCond nat_cmp old attempts → (group : GroupView S I) → IsGoing p old heap t0 attempts group → IsGoing p new heap t1 attempts group
IsGoing-later p {old = old} {t0 = t0} e k heap v attempts a group h =
    let is_group = IsGroupIn-group old t0 group h.stands.is_group in
    record {
      stands = StandsIn-grown p e k heap heap v (Grows-refl heap) group h.stands;
      made = λ c t. attempts_at-extends e group is_group c ∙ h.made c (sym (e.test (path_of group) c (IsGroup-path_known old group is_group)) ∙ t) ∙ sym (made_at-extends e attempts a c);
    }

HasGoing-later : {S I : Type 0} (p : Program) {old new : Sets I} {t0 t1 : List (Option (Caller S I))} → Extends old new → Keeps t0 t1 → (heap : HeapView S I) → IsHeap old heap → (attempts : Conditional ℕ S I) → IsCond nat_cmp old attempts → (x : Outcome S I) → HasGoing p old heap t0 attempts x → HasGoing p new heap t1 attempts x
HasGoing-later p e k heap v attempts a (shared.Go group) h = IsGoing-later p e k heap v attempts a group h
HasGoing-later p e k heap v attempts a (shared.Raise group class message) h = tt
HasGoing-later p e k heap v attempts a (shared.Throw group thrown) h = tt
HasGoing-later p e k heap v attempts a (shared.Begin group class) h = tt
HasGoing-later p e k heap v attempts a (shared.Native group method) h = tt
HasGoing-later p e k heap v attempts a (shared.Write group stream text) h = (IsGoing-later p e k heap v attempts a group h.0, h.1)
HasGoing-later p e k heap v attempts a (shared.Ended condition end) h = tt

pub attempts_known : {S I : Type 0} (sets : Sets I) (attempts : Conditional ℕ S I) → IsCond nat_cmp sets attempts → sets.is_known attempts.scope ≡ true
unfolding IsCond
attempts_known sets attempts a = a.scope_known

-- over a later space and a later tree
pub IsPlaceable-later : {S I : Type 0} (p : Program) {old new : Sets I} {t0 t1 : List (Option (Caller S I))} → Extends old new → Keeps t0 t1 → (heap : HeapView S I) → IsHeap old heap → (attempts : Conditional ℕ S I) → IsCond nat_cmp old attempts → (x : Outcome S I) → IsPlaceable p old heap t0 attempts x → IsPlaceable p new heap t1 attempts x
IsPlaceable-later p {old = old} {new = new} e k heap v attempts a x h = record {
  known = e.known (condition_of x) h.known;
  inside = record { inside = λ c t. e.test attempts.scope c (attempts_known old attempts a) ∙ h.inside.inside c (sym (e.test (condition_of x) c h.known) ∙ t) };
  going = HasGoing-later p e k heap v attempts a x h.going;
}

state_later : {S I : Type 0} (p : Program) {old new : Sets I} {t0 t1 : List (Option (Caller S I))} → Extends old new → Keeps t0 t1 → (heap : HeapView S I) → IsHeap old heap → (group : GroupView S I) → StandsIn p old heap t0 group → (c : List Bool) → old.test (path_of group) c ≡ true → state_at new heap t1 group c ≡ state_at old heap t0 group c
state_later p e k heap v group s c t = state_at-grown p e k heap heap v (Grows-refl heap) group s c t (globals_at-extends e heap v c)

-- what an outcome says that takes its place
said_there : {S I : Type 0} (p : Program) {old new : Sets I} {t0 t1 : List (Option (Caller S I))} → Extends old new → Keeps t0 t1 → (heap : HeapView S I) → IsHeap old heap → (attempts : Conditional ℕ S I) (x : Outcome S I) → HasGoing p old heap t0 attempts x → is_placed x ≡ true → (c : List Bool) → old.test (condition_of x) c ≡ true → outcome_at new heap t1 c x ≡ outcome_at old heap t0 c x
said_there p e k heap v attempts (shared.Go group) h q c t = ap Go (state_later p e k heap v group h.stands c t)
said_there p e k heap v attempts (shared.Raise group class message) h q c t = cc q
said_there p e k heap v attempts (shared.Throw group thrown) h q c t = cc q
said_there p e k heap v attempts (shared.Begin group class) h q c t = cc q
said_there p e k heap v attempts (shared.Native group method) h q c t = cc q
said_there p e k heap v attempts (shared.Write group stream text) h q c t = ap (λ s. Write stream (item_or heap.texts text []) s) (state_later p e k heap v group h.0.stands c t)
said_there p e k heap v attempts (shared.Ended condition end) h q c t = refl

said_by-later : {S I : Type 0} (p : Program) {old new : Sets I} {t0 t1 : List (Option (Caller S I))} → Extends old new → Keeps t0 t1 → (heap : HeapView S I) → IsHeap old heap → (attempts : Conditional ℕ S I) (x : Outcome S I) → IsPlaceable p old heap t0 attempts x → is_placed x ≡ true → (c : List Bool) → said_by new heap t1 x c ≡ said_by old heap t0 x c
said_by-later {S = S} {I = I} p {old = old} {new = new} {t0 = t0} {t1 = t1} e k heap v attempts x h q c = cases (new.test (condition_of x) c) (old.test (condition_of x) c) (e.test (condition_of x) c h.known) (said_there p e k heap v attempts x h.going q c)
  where
    cases : (a b : Bool) → a ≡ b → (b ≡ true → outcome_at new heap t1 c x ≡ outcome_at old heap t0 c x) → (if a then Some (outcome_at new heap t1 c x) else None) ≡ (if b then Some (outcome_at old heap t0 c x) else None)
    cases true true r f = ap Some (f refl)
    cases true false r f = cc r
    cases false true r f = cc r
    cases false false r f = refl

-- ---- what outcomes say behind one another

said_in-append : {S I : Type 0} (sets : Sets I) (heap : HeapView S I) (tree : List (Option (Caller S I))) (xs : List (Outcome S I)) (y : Outcome S I) (c : List Bool) → said_in sets heap tree (xs ++ y ∷ []) c ≡ option_or (said_in sets heap tree xs c) (said_by sets heap tree y c)
said_in-append sets heap tree [] y c = refl
said_in-append {S = S} {I = I} sets heap tree (x ∷ xs) y c = cases (sets.test (condition_of x) c) (said_in-append sets heap tree xs y c)
  where
    cases : (b : Bool) → said_in sets heap tree (xs ++ y ∷ []) c ≡ option_or (said_in sets heap tree xs c) (said_by sets heap tree y c) → (if b then Some (outcome_at sets heap tree c x) else said_in sets heap tree (xs ++ y ∷ []) c) ≡ option_or (if b then Some (outcome_at sets heap tree c x) else said_in sets heap tree xs c) (said_by sets heap tree y c)
    cases true h = refl
    cases false h = h

pub Divide-same : {S I : Type 0} (sets : Sets I) (a b : List Bool → Bool) (xs : List (Outcome S I)) → ((c : List Bool) → a c ≡ b c) → Divide sets a xs → Divide sets b xs
Divide-same sets a b [] h d = λ c. sym (h c) ∙ d c
Divide-same sets a b (x ∷ xs) h d = (λ c t. sym (h c) ∙ d.0 c t, Divide-same sets (λ c. a c && not (sets.test (condition_of x) c)) (λ c. b c && not (sets.test (condition_of x) c)) xs (λ c. ap (λ v. v && not (sets.test (condition_of x) c)) (h c)) d.1)

-- ---- the loop

-- the configurations that wait for their place
abbrev pub not_yet : {S I : Type 0} → Sets I → HeapView S I → List (Option (Caller S I)) → (scope : I) → List (Outcome S I) → List Bool → Bool
not_yet sets heap tree scope done c = sets.test scope c && not (is_some (said_in sets heap tree done c))

-- some took their places, and the rest divides the other configurations
pub record IsPlacing {S I : Type 0} (p : Program) (start sets : Sets I) (heap : HeapView S I) (limit : ℕ) (attempts : Conditional ℕ S I) (before round : Round S I) (outcomes rest : List (Outcome S I)) : Type 0 where
  pub extends : Extends start sets
  pub done : List (Outcome S I)
  pub whole : outcomes ≡ done ++ rest
  pub divide : Divide start (not_yet start heap before.callers attempts.scope done) rest
  pub placeable : ArePlaceable p start heap before.callers attempts rest
  pub are_placed : list_all is_placed rest ≡ true
  pub placed : IsOutcomePlaced p start sets heap limit attempts (said_in start heap before.callers done) before round

pub IsPlacing-start : {S I : Type 0} (p : Program) (sets : Sets I) (heap : HeapView S I) (limit : ℕ) (attempts : Conditional ℕ S I) (round : Round S I) (outcomes : List (Outcome S I)) → IsUnderway p sets heap limit round → Divide sets (sets.test attempts.scope) outcomes → ArePlaceable p sets heap round.callers attempts outcomes → list_all is_placed outcomes ≡ true → IsPlacing p sets sets heap limit attempts round round outcomes outcomes
IsPlacing-start p sets heap limit attempts round outcomes u d h k = record {
  extends = Extends-refl sets;
  done = [];
  whole = refl;
  divide = Divide-same sets (sets.test attempts.scope) (not_yet sets heap round.callers attempts.scope []) outcomes (λ c. and_true (sets.test attempts.scope c)) d;
  placeable = h;
  are_placed = k;
  placed = record {
    put = record { underway = u; keeps = Keeps-refl round.callers; waits = λ c. refl; ends = λ c. refl; spent = λ c. refl };
    written = record { texts = λ c. refl };
  };
}
  where
    and_true : (b : Bool) → b ≡ (b && true)
    and_true true = refl
    and_true false = refl

-- ---- what the next outcome needs

next_free : {S I : Type 0} (p : Program) {s0 s : Sets I} (heap : HeapView S I) (limit : ℕ) (attempts : Conditional ℕ S I) (before round : Round S I) (outcomes xs : List (Outcome S I)) (x : Outcome S I) (k : IsPlacing p s0 s heap limit attempts before round outcomes (x ∷ xs)) → (c : List Bool) → s.test (condition_of x) c ≡ true → (s0.test attempts.scope c ≡ true) × (said_in s0 heap before.callers k.done c ≡ None)
next_free {S = S} {I = I} p {s0 = s0} {s = s} heap limit attempts before round outcomes xs x k c t =
    let inside = k.divide.0 c (sym (k.extends.test (condition_of x) c k.placeable.0.known) ∙ t) in
    (both_first (s0.test attempts.scope c) (not (is_some (said_in s0 heap before.callers k.done c))) inside, none (said_in s0 heap before.callers k.done c) (both_second (s0.test attempts.scope c) (not (is_some (said_in s0 heap before.callers k.done c))) inside))
  where
    none : (o : Option PlainOutcome) → not (is_some o) ≡ true → o ≡ None
    none None h = refl
    none (Some o) h = cc h

pub next_bound : {S I : Type 0} {s0 s : Sets I} → Extends s0 s → (limit : ℕ) (attempts : Conditional ℕ S I) → IsCond nat_cmp s0 attempts → ((c : List Bool) → s0.test attempts.scope c ≡ true → made_at s0 attempts c ≤ limit) → (c : List Bool) → s.test attempts.scope c ≡ true → made_at s attempts c ≤ limit
next_bound {s0 = s0} e limit attempts a b c t = subst (λ n. n ≤ limit) (sym (made_at-extends e attempts a c)) (b c (sym (e.test attempts.scope c (attempts_known s0 attempts a)) ∙ t))

pub next_vacant : {S I : Type 0} (p : Program) {s0 s : Sets I} (heap : HeapView S I) (limit : ℕ) (attempts : Conditional ℕ S I) (before round : Round S I) (outcomes xs : List (Outcome S I)) (x : Outcome S I) → IsVacant s0 before (s0.test attempts.scope) → IsPlacing p s0 s heap limit attempts before round outcomes (x ∷ xs) → IsVacant s round (s.test (condition_of x))
next_vacant p {s0 = s0} {s = s} heap limit attempts before round outcomes xs x n k =
    let free = next_free p heap limit attempts before round outcomes xs x k in
    let here : IsVacant s0 before (s.test (condition_of x)) = record { groups = λ c t. n.groups c (free c t).0; ends = λ c t. n.ends c (free c t).0; spent = λ c t. n.spent c (free c t).0 } in
    IsVacant-put p s0 s heap limit (made_at s0 attempts) (led_by p (said_in s0 heap before.callers k.done)) before round (s.test (condition_of x)) k.placed.put here (λ c t. ap (λ o. option_map (next p) o) (free c t).1)

pub next_unwritten : {S I : Type 0} (p : Program) {s0 s : Sets I} (heap : HeapView S I) (limit : ℕ) (attempts : Conditional ℕ S I) (before round : Round S I) (outcomes xs : List (Outcome S I)) (x : Outcome S I) → IsUnwritten s0 before (s0.test attempts.scope) → IsPlacing p s0 s heap limit attempts before round outcomes (x ∷ xs) → IsUnwritten s round (s.test (condition_of x))
next_unwritten p {s0 = s0} {s = s} heap limit attempts before round outcomes xs x n k =
    let free = next_free p heap limit attempts before round outcomes xs x k in
    record { texts = λ c t. k.placed.written.texts c ∙ ap (λ o. put_if piece_after o (value_at s0 (leaves_of before.texts.items) c)) (free c t).1 ∙ n.texts c (free c t).0 }

-- ---- one more

either : {A : Type 0} (a b : Option A) → (is_some b ≡ true → a ≡ None) → option_or b a ≡ option_or a b
either None None h = refl
either None (Some y) h = refl
either (Some x) None h = refl
either (Some x) (Some y) h = cc (h refl)

led_or : {A B : Type 0} (f : A → B) (a b : Option A) → option_or (option_map f a) (option_map f b) ≡ option_map f (option_or a b)
led_or f None b = refl
led_or f (Some x) b = refl

pub IsPlacing-step : {S I : Type 0} (p : Program) {s0 s s1 : Sets I} → (heap : HeapView S I) → IsHeap s0 heap → (limit : ℕ) (attempts : Conditional ℕ S I) → IsCond nat_cmp s0 attempts → (before round after : Round S I) (outcomes xs : List (Outcome S I)) (x : Outcome S I) → IsPlacing p s0 s heap limit attempts before round outcomes (x ∷ xs) → Extends s s1 → IsOutcomePlaced p s s1 heap limit attempts (said_by s heap round.callers x) round after → IsPlacing p s0 s1 heap limit attempts before after outcomes xs
IsPlacing-step {S = S} {I = I} p {s0 = s0} {s = s} {s1 = s1} heap v limit attempts a before round after outcomes xs x k e q =
    let there = said_by-later p k.extends k.placed.put.keeps heap v attempts x k.placeable.0 (both_first (is_placed x) (list_all is_placed xs) k.are_placed) in
    let one = IsPut-same p s s1 heap limit (made_at s attempts) (made_at s0 attempts) (led_by p (said_by s heap round.callers x)) (led_by p (said_by s0 heap before.callers x)) round after (λ c. ap (λ o. option_map (next p) o) (there c)) (λ c n h. made_at-extends k.extends attempts a c) q.put in
    let both = IsPut-then p s0 s s1 heap limit (made_at s0 attempts) (led_by p (said_in s0 heap before.callers k.done)) (led_by p (said_by s0 heap before.callers x)) before round after k.placed.put one in
    record {
      extends = Extends-trans k.extends e;
      done = k.done ++ x ∷ [];
      whole = k.whole ∙ sym (append_assoc k.done (x ∷ []) xs);
      divide = Divide-same s0 (λ c. not_yet s0 heap before.callers attempts.scope k.done c && not (s0.test (condition_of x) c)) (not_yet s0 heap before.callers attempts.scope (k.done ++ x ∷ [])) xs (λ c. left (s0.test attempts.scope c) (said_in s0 heap before.callers k.done c) (s0.test (condition_of x) c) (outcome_at s0 heap before.callers c x) ∙ sym (ap (λ o. s0.test attempts.scope c && not (is_some o)) (said_in-append s0 heap before.callers k.done x c))) k.divide.1;
      placeable = k.placeable.1;
      are_placed = both_second (is_placed x) (list_all is_placed xs) k.are_placed;
      placed = record {
        put = IsPut-same p s0 s1 heap limit (made_at s0 attempts) (made_at s0 attempts) (λ c. option_or (led_by p (said_by s0 heap before.callers x) c) (led_by p (said_in s0 heap before.callers k.done) c)) (led_by p (said_in s0 heap before.callers (k.done ++ x ∷ []))) before after
            (λ c. led_or (next p) (said_by s0 heap before.callers x c) (said_in s0 heap before.callers k.done c) ∙ ap (λ o. option_map (next p) o) (either (said_in s0 heap before.callers k.done c) (said_by s0 heap before.callers x c) (λ h. (next_free p heap limit attempts before round outcomes xs x k c (k.extends.test (condition_of x) c k.placeable.0.known ∙ holds (s0.test (condition_of x) c) (outcome_at s0 heap before.callers c x) h)).1) ∙ sym (said_in-append s0 heap before.callers k.done x c)))
            (λ c n h. refl) both;
        written = record {
          texts = λ c. q.written.texts c ∙ ap (λ o. put_if piece_after o (value_at s (leaves_of round.texts.items) c)) (there c) ∙ ap (λ o. put_if piece_after (said_by s0 heap before.callers x c) o) (k.placed.written.texts c)
              ∙ then_put piece_after (said_in s0 heap before.callers k.done c) (said_by s0 heap before.callers x c) (value_at s0 (leaves_of before.texts.items) c)
              ∙ ap (λ o. put_if piece_after o (value_at s0 (leaves_of before.texts.items) c)) (either (said_in s0 heap before.callers k.done c) (said_by s0 heap before.callers x c) (λ h. (next_free p heap limit attempts before round outcomes xs x k c (k.extends.test (condition_of x) c k.placeable.0.known ∙ holds (s0.test (condition_of x) c) (outcome_at s0 heap before.callers c x) h)).1) ∙ sym (said_in-append s0 heap before.callers k.done x c));
        };
      };
    }
  where
    holds : (b : Bool) (o : PlainOutcome) → is_some (if b then Some o else None) ≡ true → b ≡ true
    holds true o h = refl
    holds false o h = cc h

    left : (w : Bool) (o : Option PlainOutcome) (b : Bool) (y : PlainOutcome) → ((w && not (is_some o)) && not b) ≡ (w && not (is_some (option_or o (if b then Some y else None))))
    left true None true y = refl
    left true None false y = refl
    left true (Some z) b y = refl
    left false o b y = refl

pub IsPlacing-end : {S I : Type 0} (p : Program) (s0 s : Sets I) (heap : HeapView S I) (limit : ℕ) (attempts : Conditional ℕ S I) (before round : Round S I) (outcomes rest : List (Outcome S I)) → rest ≡ [] → IsPlacing p s0 s heap limit attempts before round outcomes rest → IsOutcomePlaced p s0 s heap limit attempts (said_in s0 heap before.callers outcomes) before round
IsPlacing-end {S = S} {I = I} p s0 s heap limit attempts before round outcomes rest e k =
    let P : List (Outcome S I) → Type 0 = λ xs. IsOutcomePlaced p s0 s heap limit attempts (said_in s0 heap before.callers xs) before round in
    subst P (sym (k.whole ∙ ap (λ xs. k.done ++ xs) e ∙ append-nil k.done)) k.placed
