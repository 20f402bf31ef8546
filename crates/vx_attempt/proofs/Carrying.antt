-- Outcomes that are carried out one after the other, whatever is made of each.
use Rattle.std.proofs.Common.{◌≡◌, ℕ, Bool, true, false, List, [], ◌∷◌, ◌++◌, ◌&&◌, ◌||◌, refl, sym, ◌∙◌, ap, not, length, arith}
use Rattle.std.specs.Prelude.{◌≢◌, Option, Some, if◌then◌else◌, unwrap_or}
use Rattle.std.specs.List.{list_all}
use Rattle.vx_space.specs.Sets.{Sets, Extends, IsLawful, IsKnown}
use Rattle.vx_space.proofs.Spaces.{Extends-refl, Extends-trans}
use Rattle.vx_frames.specs.Giving.{AttemptsAt}
use Rattle.vx_group.specs.declared.callers.Caller.{Caller}
use Rattle.vx_group.specs.Callers.{Keeps}
use Rattle.vx_group.specs.Group.{GroupView, path_of}
use Rattle.vx_group.proofs.CallerLaws.{Keeps-refl, Keeps-trans}
use Rattle.vx_heap.specs.Heap.{HeapView, IsHeap, IsHeapFor, globals_at}
use Rattle.vx_families.specs.Attempts.{AttemptsBy}
use Rattle.vx_java.specs.Machine.{State}
use Rattle.vx_java.specs.Machine.{Outcome as PlainOutcome}
use Rattle.vx_java.specs.Natives.{native}
use Rattle.vx_java.specs.Step.{outcome_carried_out}
use Rattle.vx_link.specs.declared.program.Program.{Program}
use Rattle.vx_outcome.specs.Outcome.{Divide, condition_of}
use Rattle.vx_outcome.specs.declared.outcome.Outcome.{Outcome}
use Rattle.vx_outcome.specs.declared.outcome.Outcome.TheVariants as shared
use Rattle.vx_group_states.specs.Stands.{Attempts, CameTo, Continues, Grows, IsOutcome, StandsIn, comes_to, outcome_at, state_at}
use Rattle.vx_group_states.specs.declared.site.Site.{Site}
use Rattle.vx_value.specs.declared.ids.MethodId.{MethodId}
use Rattle.vx_group_states.proofs.GrownStates.{CameTo-grown, Grows-refl, Grows-trans}
use Rattle.vx_group_states.proofs.OutcomeStates.{CameTo-append, CameTo-none, CameTo-one, CameTo-same, CameTo-through}
use Rattle.vx_cells.proofs.Somewhere.{somewhere_in}
use Rattle.vx_attempt.specs.Carrying.{AreCarriedOut, SomeUncarried, is_covered, is_uncarried}
use Rattle.vx_standing.specs.Attempted.{AreConditionsKnown, is_placed, thrown_out}

-- ---- the first outcome, and those behind it

taken : {T : Type 0} (b : Bool) (v w : T) (r : Option T) → b ≡ true → (if b then Some v else r) ≡ Some w → v ≡ w
taken true v w r e h = ap (λ o. unwrap_or o v) h
taken false v w r e h = cc e

passed : {T : Type 0} (b : Bool) (v : T) (r o : Option T) → b ≡ false → (if b then Some v else r) ≡ o → r ≡ o
passed true v r o e h = cc e
passed false v r o e h = h

outside_of : (a b : Bool) → (a && not b) ≡ true → (a ≡ true) × (b ≡ false)
outside_of true true h = cc h
outside_of true false h = (refl, refl)
outside_of false b h = cc h

inside_of : (a b : Bool) → (a && not b) ≡ false → a ≡ true → b ≡ true
inside_of true true h t = refl
inside_of true false h t = cc h
inside_of false b h t = cc t

module _ {S I : Type 0} (p : Program) (start new : Sets I) (heap : HeapView S I) (tree : List (Option (Caller S I))) (group : GroupView S I) (what : List Bool → PlainOutcome) (set : List Bool → Bool) (x : Outcome S I) (xs : List (Outcome S I)) (h : CameTo p start new heap tree group what set (x ∷ xs)) where
  pub first_at : (c : List Bool) → new.test (condition_of x) c ≡ true → outcome_at new heap tree c x ≡ what c
  first_at c t = taken (new.test (condition_of x) c) _ _ _ t (h.at c (h.divide.0 c t))

  CameTo-first : CameTo p start new heap tree group what (new.test (condition_of x)) (x ∷ [])
  CameTo-first = CameTo-one p start new heap tree group what (new.test (condition_of x)) x h.continue.0 (λ c. refl) first_at

  pub CameTo-rest : CameTo p start new heap tree group what (λ c. set c && not (new.test (condition_of x) c)) xs
  CameTo-rest = record {
    divide = h.divide.1;
    continue = h.continue.1;
    at = λ c t.
        let out = outside_of (set c) (new.test (condition_of x) c) t in
        passed (new.test (condition_of x) c) _ _ _ out.1 (h.at c out.0);
  }

-- the only outcome
pub only_at : {S I : Type 0} (p : Program) (start new : Sets I) (heap : HeapView S I) (tree : List (Option (Caller S I))) (group : GroupView S I) (what : List Bool → PlainOutcome) (set : List Bool → Bool) (x : Outcome S I) → CameTo p start new heap tree group what set (x ∷ []) → (c : List Bool) → (new.test (condition_of x) c ≡ set c) × (set c ≡ true → what c ≡ outcome_at new heap tree c x)
only_at p start new heap tree group what set x h c =
    (same_set (new.test (condition_of x) c) (set c) (h.divide.0 c) (h.divide.1 c), λ t. sym (first_at p start new heap tree group what set x [] h c (inside_of (set c) (new.test (condition_of x) c) (h.divide.1 c) t)))
  where
    same_set : (a b : Bool) → (a ≡ true → b ≡ true) → (b && not a) ≡ false → a ≡ b
    same_set true b f g = sym (f refl)
    same_set false true f g = cc g
    same_set false false f g = refl

-- what outcomes cover is in the set that they divide
pub covered_inside : {S I : Type 0} (sets : Sets I) (set : List Bool → Bool) (xs : List (Outcome S I)) → Divide sets set xs → (c : List Bool) → is_covered sets xs c ≡ true → set c ≡ true
covered_inside sets set [] d c t = cc t
covered_inside sets set (x ∷ xs) d c t = cases (sets.test (condition_of x) c) (d.0 c) t (covered_inside sets (λ c. set c && not (sets.test (condition_of x) c)) xs d.1 c)
  where
    cases : (b : Bool) → (b ≡ true → set c ≡ true) → (b || is_covered sets xs c) ≡ true → (is_covered sets xs c ≡ true → (set c && not (sets.test (condition_of x) c)) ≡ true) → set c ≡ true
    cases true f g h = f refl
    cases false f g h = (outside_of (set c) (sets.test (condition_of x) c) (h g)).0

pub not_covered : {S I : Type 0} (sets : Sets I) (set : List Bool → Bool) (xs : List (Outcome S I)) → Divide sets set xs → (c : List Bool) → set c ≡ false → is_covered sets xs c ≡ false
not_covered sets set xs d c f = cases (is_covered sets xs c) (covered_inside sets set xs d c)
  where
    cases : (b : Bool) → (b ≡ true → set c ≡ true) → b ≡ false
    cases true g = cc (f, g refl)
    cases false g = refl

-- ---- one outcome

-- nothing is made of it
abbrev pub IsPlain : {S I : Type 0} → (PlainOutcome → PlainOutcome) → Outcome S I → Type 0
IsPlain {S = S} {I = I} carry x = (sets : Sets I) (heap : HeapView S I) (tree : List (Option (Caller S I))) (c : List Bool) → carry (outcome_at sets heap tree c x) ≡ outcome_at sets heap tree c x

pub AreCarriedOut-plain : {S I : Type 0} (p : Program) (carry : PlainOutcome → PlainOutcome) (sets : Sets I) (heap : HeapView S I) (tree : List (Option (Caller S I))) (x : Outcome S I) → IsHeap sets heap → IsHeapFor p heap → IsPlain carry x → AreCarriedOut p carry sets sets heap heap tree tree (x ∷ []) (x ∷ [])
AreCarriedOut-plain p carry sets heap tree x v f plain = record {
  is_heap = v;
  is_for = f;
  grows = Grows-refl heap;
  keeps = Keeps-refl tree;
  came = λ start group what set h.
      let at = only_at p start sets heap tree group what set x h in
      CameTo-same p start sets heap tree group what (λ c. carry (what c)) set set (x ∷ []) (λ c. refl) (λ c t. (at c).1 t ∙ sym (plain sets heap tree c) ∙ ap carry (sym ((at c).1 t))) h;
  outside = λ c t. refl;
}

-- no configuration comes to it
pub AreCarriedOut-none : {S I : Type 0} (p : Program) (carry : PlainOutcome → PlainOutcome) {sets : Sets I} → IsLawful sets → (heap : HeapView S I) (tree : List (Option (Caller S I))) (x : Outcome S I) → IsHeap sets heap → IsHeapFor p heap → condition_of x ≡ sets.never → AreCarriedOut p carry sets sets heap heap tree tree (x ∷ []) []
AreCarriedOut-none p carry {sets = sets} lawful heap tree x v f e = record {
  is_heap = v;
  is_for = f;
  grows = Grows-refl heap;
  keeps = Keeps-refl tree;
  came = λ start group what set h. CameTo-none p start sets heap tree group (λ c. carry (what c)) set (λ c. sym (only_at p start sets heap tree group what set x h c).0 ∙ (ap (λ i. sets.test i c) e ∙ lawful.never_test c));
  outside = λ c t. refl;
}

-- its group makes an attempt of its own
pub AreCarriedOut-at : {S I : Type 0} (p : Program) (carry : PlainOutcome → PlainOutcome) (s0 s1 : Sets I) (before after : HeapView S I) (tree later : List (Option (Caller S I))) (says : List Bool → State → PlainOutcome) (x : Outcome S I) (at : GroupView S I) (made : List (Outcome S I)) → condition_of x ≡ path_of at → ((start : Sets I) (group : GroupView S I) → IsOutcome p start s0 before tree group x → Continues p start s0 before tree group at) → ((c : List Bool) → carry (outcome_at s0 before tree c x) ≡ says c (state_at s0 before tree at c)) → AttemptsAt p says s0 s1 before after tree later at made → AreCarriedOut p carry s0 s1 before after tree later (x ∷ []) made
AreCarriedOut-at p carry s0 s1 before after tree later says x at made same continues law a = record {
  is_heap = a.is_heap;
  is_for = a.is_for;
  grows = a.grows;
  keeps = a.keeps;
  came = λ start group what set h.
      let only = only_at p start s0 before tree group what set x h in
      CameTo-through p start s0 s1 after later group at (λ c. says c (state_at s0 before tree at c)) (λ c. carry (what c)) set made (continues start group h.continue.0) (λ c. ap (λ i. s0.test i c) (sym same) ∙ (only c).0) (λ c t. sym (law c) ∙ ap carry (sym ((only c).1 t))) a.came;
  outside = λ c t. a.outside c (ap (λ i. s0.test i c) (sym same) ∙ no_more (s0.test (condition_of x) c) t);
}
  where
    no_more : (b : Bool) → (b || false) ≡ false → b ≡ false
    no_more true h = cc h
    no_more false h = refl

-- a native method is carried out for the group that stands at its call
pub AreCarriedOut-native : {S I : Type 0} (site : Site) (s0 s1 : Sets I) (before after : HeapView S I) (tree : List (Option (Caller S I))) (group : GroupView S I) (method : MethodId) (made : List (Outcome S I)) → StandsIn site.program.now s0 before tree group → AttemptsBy site (λ s. native site.program.now s method.0) s0 s1 before after group made → AreCarriedOut site.program.now (outcome_carried_out site.program.now) s0 s1 before after tree tree (shared.Native group method ∷ []) made
AreCarriedOut-native site s0 s1 before after tree group method made stands by =
    let p = site.program.now in
    let a = by.attempts tree stands in
    AreCarriedOut-at p (outcome_carried_out p) s0 s1 before after tree tree (λ c s. native p s method.0) (shared.Native group method) group made refl (λ start at h. h) (λ c. refl) (record { is_heap = a.is_heap; is_for = by.is_for; grows = a.grows; keeps = a.keeps; came = a.came; outside = a.outside })

-- it is a native method or a beginning, and some configuration comes to it
pub SomeUncarried-one : {S I : Type 0} (p : Program) {sets : Sets I} → IsLawful sets → (heap : HeapView S I) (tree : List (Option (Caller S I))) (x : Outcome S I) → IsKnown sets (condition_of x) → condition_of x ≢ sets.never → ((c : List Bool) → is_uncarried (outcome_at sets heap tree c x) ≡ true) → SomeUncarried p sets heap tree (x ∷ [])
SomeUncarried-one p {sets = sets} lawful heap tree x known some is =
    let found = somewhere_in lawful (condition_of x) known some in
    record {
      config = found.config;
      comes = λ start group what set h.
          let at = only_at p start sets heap tree group what set x h found.config in
          let inside = sym at.0 ∙ found.inside in
          (inside, ap is_uncarried (at.1 inside) ∙ is found.config);
    }

-- ---- all of them

-- some of the outcomes wait, and what comes of the others is made
pub record IsHalf {S I : Type 0} (p : Program) (carry : PlainOutcome → PlainOutcome) (start new : Sets I) (heap : HeapView S I) (tree : List (Option (Caller S I))) (group : GroupView S I) (what : List Bool → PlainOutcome) (set : List Bool → Bool) (left made : List (Outcome S I)) : Type 0 where
  pub waiting : List Bool → Bool
  pub inside : (c : List Bool) → waiting c ≡ true → set c ≡ true
  pub waits : CameTo p start new heap tree group what waiting left
  pub came : CameTo p start new heap tree group (λ c. carry (what c)) (λ c. set c && not (waiting c)) made

pub record IsCarrying {S I : Type 0} (p : Program) (carry : PlainOutcome → PlainOutcome) (old new : Sets I) (before after : HeapView S I) (tree later : List (Option (Caller S I))) (items left made : List (Outcome S I)) : Type 0 where
  pub extends : Extends old new
  pub is_heap : IsHeap new after
  pub is_for : IsHeapFor p after
  pub grows : Grows before after
  pub keeps : Keeps tree later
  pub known : AreConditionsKnown old left
  pub among : (c : List Bool) → is_covered old left c ≡ true → is_covered old items c ≡ true
  pub outside : (c : List Bool) → is_covered old items c ≡ false → globals_at new after c ≡ globals_at old before c
  pub half : (start : Sets I) (group : GroupView S I) (what : List Bool → PlainOutcome) (set : List Bool → Bool) → CameTo p start old before tree group what set items → IsHalf p carry start new after later group what set left made

pub IsCarrying-start : {S I : Type 0} (p : Program) (carry : PlainOutcome → PlainOutcome) (sets : Sets I) (heap : HeapView S I) (tree : List (Option (Caller S I))) (items : List (Outcome S I)) → IsHeap sets heap → IsHeapFor p heap → AreConditionsKnown sets items → IsCarrying p carry sets sets heap heap tree tree items items []
IsCarrying-start p carry sets heap tree items v f known = record {
  extends = Extends-refl sets;
  is_heap = v;
  is_for = f;
  grows = Grows-refl heap;
  keeps = Keeps-refl tree;
  known = known;
  among = λ c t. t;
  outside = λ c t. refl;
  half = λ start group what set h. record {
    waiting = set;
    inside = λ c t. t;
    waits = h;
    came = CameTo-none p start sets heap tree group (λ c. carry (what c)) (λ c. set c && not (set c)) (λ c. none (set c));
  };
}
  where
    none : (b : Bool) → (b && not b) ≡ false
    none true = refl
    none false = refl

module _ {S I : Type 0} (p : Program) (carry : PlainOutcome → PlainOutcome) {s0 s1 : Sets I} (before now : HeapView S I) (tree there : List (Option (Caller S I))) (items : List (Outcome S I)) (x : Outcome S I) (left made : List (Outcome S I)) (l : IsCarrying p carry s0 s1 before now tree there items (x ∷ left) made) where
  pub next_known : IsKnown s1 (condition_of x)
  next_known = l.extends.known (condition_of x) l.known.0

  pub SomeUncarried-next : SomeUncarried p s1 now there (x ∷ []) → SomeUncarried p s0 before tree items
  SomeUncarried-next u = record {
    config = u.config;
    comes = λ start group what set h.
        let half = l.half start group what set h in
        let r = u.comes start group what (s1.test (condition_of x)) (CameTo-first p start s1 now there group what half.waiting x left half.waits) in
        (half.inside u.config (half.waits.divide.0 u.config r.0), r.1);
  }

  pub IsCarrying-step : {s2 : Sets I} (after : HeapView S I) (later : List (Option (Caller S I))) (some : List (Outcome S I)) → Extends s1 s2 → AreCarriedOut p carry s1 s2 now after there later (x ∷ []) some → IsCarrying p carry s0 s2 before after tree later items left (made ++ some)
  IsCarrying-step {s2 = s2} after later some e one = record {
    extends = Extends-trans l.extends e;
    is_heap = one.is_heap;
    is_for = one.is_for;
    grows = Grows-trans before now after l.grows one.grows;
    keeps = Keeps-trans l.keeps one.keeps;
    known = l.known.1;
    among = λ c t. l.among c (either (s0.test (condition_of x) c) (is_covered s0 left c) t);
    outside = λ c t. one.outside c (alone c (l.extends.test (condition_of x) c l.known.0 ∙ first_off (s0.test (condition_of x) c) (is_covered s0 left c) (is_covered s0 items c) (l.among c) t)) ∙ l.outside c t;
    half = λ start group what set h.
        let half = l.half start group what set h in
        let here = s1.test (condition_of x) in
        let carried : List Bool → PlainOutcome = λ c. carry (what c) in
        let rest = CameTo-rest p start s1 now there group what half.waiting x left half.waits in
        let first = one.came start group what here (CameTo-first p start s1 now there group what half.waiting x left half.waits) in
        let stays = λ (c : List Bool) (off : here c ≡ false). one.outside c (alone c off) in
        let done = CameTo-grown p e one.keeps now after l.is_heap one.grows start group carried (λ c. set c && not (half.waiting c)) made (λ c t. stays c (apart (set c) (half.waiting c) (here c) (half.waits.divide.0 c) t)) half.came in
        record {
          waiting = λ c. half.waiting c && not (here c);
          inside = λ c t. half.inside c (outside_of (half.waiting c) (here c) t).0;
          waits = CameTo-grown p e one.keeps now after l.is_heap one.grows start group what (λ c. half.waiting c && not (here c)) left (λ c t. stays c (outside_of (half.waiting c) (here c) t).1) rest;
          came = CameTo-same p start s2 after later group carried carried (λ c. (set c && not (half.waiting c)) || here c) (λ c. set c && not (half.waiting c && not (here c))) (made ++ some) (λ c. joined (set c) (half.waiting c) (here c) (half.waits.divide.0 c) (half.inside c)) (λ c t. refl) (CameTo-append p start s2 after later group carried (λ c. set c && not (half.waiting c)) here made some (λ c t. apart (set c) (half.waiting c) (here c) (half.waits.divide.0 c) t) done first);
        };
  }
    where
      either : (a b : Bool) → b ≡ true → (a || b) ≡ true
      either true b h = refl
      either false b h = h

      first_off : (a b w : Bool) → ((a || b) ≡ true → w ≡ true) → w ≡ false → a ≡ false
      first_off true b w f h = cc (h, f refl)
      first_off false b w f h = refl

      alone : (c : List Bool) → s1.test (condition_of x) c ≡ false → is_covered s1 (x ∷ []) c ≡ false
      alone c h = ap (λ b. b || false) h

      joined : (s w t : Bool) → (t ≡ true → w ≡ true) → (w ≡ true → s ≡ true) → ((s && not w) || t) ≡ (s && not (w && not t))
      joined s true true f g = rw (g refl) refl
      joined s true false f g = rw (g refl) refl
      joined s false true f g = cc (f refl)
      joined true false false f g = refl
      joined false false false f g = refl

      apart : (s w t : Bool) → (t ≡ true → w ≡ true) → (s && not w) ≡ true → t ≡ false
      apart s w false f h = refl
      apart s w true f h = cc (sym (outside_of s w h).1 ∙ f refl)

pub nothing_left : {A : Type 0} (xs : List A) (n : ℕ) → n ≡ length xs → n ≡ 0 → xs ≡ []
nothing_left [] n h k = refl
nothing_left (x ∷ xs) n h k = absurd (omega (arith, h, k))

pub IsCarrying-end : {S I : Type 0} (p : Program) (carry : PlainOutcome → PlainOutcome) {s0 s1 : Sets I} (before now : HeapView S I) (tree there : List (Option (Caller S I))) (items left made : List (Outcome S I)) → left ≡ [] → IsCarrying p carry s0 s1 before now tree there items left made → AreCarriedOut p carry s0 s1 before now tree there items made
IsCarrying-end p carry {s0 = s0} {s1 = s1} before now tree there items left made nothing k = record {
  is_heap = k.is_heap;
  is_for = k.is_for;
  grows = k.grows;
  keeps = k.keeps;
  came = λ start group what set h.
      let l : IsCarrying p carry s0 s1 before now tree there items [] made = rw nothing at k in
      let half = l.half start group what set h in
      CameTo-same p start s1 now there group (λ c. carry (what c)) (λ c. carry (what c)) (λ c. set c && not (half.waiting c)) set made (λ c. all_of (set c) (half.waiting c) (half.waits.divide c)) (λ c t. refl) half.came;
  outside = k.outside;
}
  where
    all_of : (a b : Bool) → b ≡ false → (a && not b) ≡ a
    all_of true b e = rw e refl
    all_of false b e = refl

-- ---- an attempt whose outcomes are carried out

pub Attempts-carried : {S I : Type 0} (p : Program) (carry : PlainOutcome → PlainOutcome) (says : State → PlainOutcome) (s0 s1 s2 : Sets I) (h0 h1 h2 : HeapView S I) (t0 t1 t2 : List (Option (Caller S I))) (group : GroupView S I) (items made : List (Outcome S I)) → Attempts p says s0 s1 h0 h1 t0 t1 group items → AreCarriedOut p carry s1 s2 h1 h2 t1 t2 items made → Attempts p (λ s. carry (says s)) s0 s2 h0 h2 t0 t2 group made
Attempts-carried p carry says s0 s1 s2 h0 h1 h2 t0 t1 t2 group items made a k = record {
  is_heap = k.is_heap;
  grows = Grows-trans h0 h1 h2 a.grows k.grows;
  keeps = Keeps-trans a.keeps k.keeps;
  came = k.came s0 group (λ c. says (state_at s0 h0 t0 group c)) (s0.test (path_of group)) a.came;
  outside = λ c t. k.outside c (not_covered s1 (s0.test (path_of group)) items a.came.divide c t) ∙ a.outside c t;
}

-- another function of the plain state that comes to the same at each of them
pub Attempts-same : {S I : Type 0} (p : Program) (says other : State → PlainOutcome) (old new : Sets I) (before after : HeapView S I) (tree later : List (Option (Caller S I))) (group : GroupView S I) (outcomes : List (Outcome S I)) → ((c : List Bool) → says (state_at old before tree group c) ≡ other (state_at old before tree group c)) → Attempts p says old new before after tree later group outcomes → Attempts p other old new before after tree later group outcomes
Attempts-same p says other old new before after tree later group outcomes e a = record {
  is_heap = a.is_heap;
  grows = a.grows;
  keeps = a.keeps;
  came = CameTo-same p old new after later group (λ c. says (state_at old before tree group c)) (λ c. other (state_at old before tree group c)) (old.test (path_of group)) (old.test (path_of group)) outcomes (λ c. refl) (λ c t. e c) a.came;
  outside = a.outside;
}

-- ---- outcomes of which nothing is made

abbrev pub ArePlain : {S I : Type 0} → (PlainOutcome → PlainOutcome) → List (Outcome S I) → Type 0
ArePlain carry [] = Unit {0}
ArePlain carry (x ∷ xs) = IsPlain carry x × ArePlain carry xs

plain_comes : {S I : Type 0} (carry : PlainOutcome → PlainOutcome) (sets : Sets I) (heap : HeapView S I) (tree : List (Option (Caller S I))) (c : List Bool) (items : List (Outcome S I)) (o : PlainOutcome) → ArePlain carry items → comes_to sets heap tree c items ≡ Some o → carry o ≡ o
plain_comes carry sets heap tree c [] o h e = cc e
plain_comes carry sets heap tree c (x ∷ xs) o h e = cases (sets.test (condition_of x) c) (outcome_at sets heap tree c x) (comes_to sets heap tree c xs) (h.0 sets heap tree c) (plain_comes carry sets heap tree c xs o h.1) e
  where
    cases : (b : Bool) (w : PlainOutcome) (r : Option PlainOutcome) → carry w ≡ w → (r ≡ Some o → carry o ≡ o) → (if b then Some w else r) ≡ Some o → carry o ≡ o
    cases true w r p f e =
        let same : w ≡ o = cc e in
        ap carry (sym same) ∙ p ∙ same
    cases false w r p f e = f e

pub AreCarriedOut-whole : {S I : Type 0} (p : Program) (carry : PlainOutcome → PlainOutcome) (sets : Sets I) (heap : HeapView S I) (tree : List (Option (Caller S I))) (items : List (Outcome S I)) → IsHeap sets heap → IsHeapFor p heap → ArePlain carry items → AreCarriedOut p carry sets sets heap heap tree tree items items
AreCarriedOut-whole p carry sets heap tree items v f plain = record {
  is_heap = v;
  is_for = f;
  grows = Grows-refl heap;
  keeps = Keeps-refl tree;
  came = λ start group what set h. CameTo-same p start sets heap tree group what (λ c. carry (what c)) set set items (λ c. refl) (λ c t. sym (plain_comes carry sets heap tree c items (what c) plain (h.at c t))) h;
  outside = λ c t. refl;
}

-- outcomes that take their places as they are
pub ArePlain-placed : {S I : Type 0} (carry : PlainOutcome → PlainOutcome) (items : List (Outcome S I)) → ((x : Outcome S I) → is_placed x ≡ true → IsPlain carry x) → list_all is_placed items ≡ true → ArePlain carry items
ArePlain-placed carry [] each h = tt
ArePlain-placed carry (x ∷ xs) each h =
    let parts = inside_of_both (is_placed x) (list_all is_placed xs) h in
    (each x parts.0, ArePlain-placed carry xs each parts.1)
  where
    inside_of_both : (a b : Bool) → (a && b) ≡ true → (a ≡ true) × (b ≡ true)
    inside_of_both true b h = (refl, h)
    inside_of_both false b h = cc h

pub IsPlain-carried : {S I : Type 0} (p : Program) (x : Outcome S I) → is_placed x ≡ true → IsPlain (outcome_carried_out p) x
IsPlain-carried p (shared.Go group) h = λ sets heap tree c. refl
IsPlain-carried p (shared.Raise group class message) h = absurd (cc h)
IsPlain-carried p (shared.Throw group thrown) h = absurd (cc h)
IsPlain-carried p (shared.Begin group class) h = absurd (cc h)
IsPlain-carried p (shared.Native group method) h = absurd (cc h)
IsPlain-carried p (shared.Write group stream text) h = λ sets heap tree c. refl
IsPlain-carried p (shared.Ended condition end) h = λ sets heap tree c. refl

pub IsPlain-thrown : {S I : Type 0} (p : Program) (x : Outcome S I) → is_placed x ≡ true → IsPlain (thrown_out p) x
IsPlain-thrown p (shared.Go group) h = λ sets heap tree c. refl
IsPlain-thrown p (shared.Raise group class message) h = absurd (cc h)
IsPlain-thrown p (shared.Throw group thrown) h = absurd (cc h)
IsPlain-thrown p (shared.Begin group class) h = absurd (cc h)
IsPlain-thrown p (shared.Native group method) h = absurd (cc h)
IsPlain-thrown p (shared.Write group stream text) h = λ sets heap tree c. refl
IsPlain-thrown p (shared.Ended condition end) h = λ sets heap tree c. refl
