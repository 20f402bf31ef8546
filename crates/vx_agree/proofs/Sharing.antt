-- Places that are added one after another, and beside those that wait.
use Rattle.std.proofs.Common.{◌≡◌, ◌⊎◌, ℕ, Bool, true, false, List, [], ◌∙◌, inl, inr}
use Rattle.vx_space.specs.Sets.{Sets, Extends}
use Rattle.vx_agree.specs.declared.reached.Reached.{Reached}
use Rattle.vx_agree.specs.Places.{AreKnownPlaces, IsAdded, is_covered}
use Rattle.vx_agree.specs.Taking.{IsShared}
use Rattle.vx_agree.proofs.Places.{both_or, covered-extends, each-extends, or_left, or_right}

pub IsAdded-trans : {I : Type 0} {s0 s1 s2 : Sets I} {c : List Bool} {v : ℕ → ℕ → Bool} {same before after here : Bool} {old mid new : List (Reached I)} → IsAdded s0 s1 c v same before old mid → IsAdded s1 s2 c v same after mid new → (here ≡ true → (before ≡ true) ⊎ (after ≡ true)) → IsAdded s0 s2 c v same here old new
IsAdded-trans p q f = record {
  each = λ h. q.each (p.each h);
  keeps = λ h. q.keeps (p.keeps h);
  adds = λ t e. elim (f t) [ inl a ↦ q.keeps (p.adds a e) | inr b ↦ q.adds b e ];
}

-- a later space adds nothing
pub IsAdded-later : {I : Type 0} {s0 s1 : Sets I} → Extends s0 s1 → (c : List Bool) (v : ℕ → ℕ → Bool) (same : Bool) (old : List (Reached I)) → AreKnownPlaces s0 old → IsAdded s0 s1 c v same false old old
IsAdded-later x c v same old k = record {
  each = λ h. each-extends x c v same old k h;
  keeps = λ h. covered-extends x old k c ∙ h;
  adds = λ t e. cc (t);
}

-- where the outputs differ, or nothing was to be added
pub IsShared-none : {I : Type 0} {s0 s1 : Sets I} → Extends s0 s1 → (c : List Bool) (done waiting : ℕ → ℕ → Bool) (same here : Bool) (old before : List (Reached I)) → AreKnownPlaces s0 old → AreKnownPlaces s0 before → (here ≡ true → same ≡ true → ⊥) → IsShared s0 s1 c done waiting same here old old before before
IsShared-none x c done waiting same here old before k kw n = record {
  each_done = λ h. each-extends x c done same old k h;
  each_waiting = λ h. each-extends x c waiting same before kw h;
  keeps_done = λ h. covered-extends x old k c ∙ h;
  keeps_waiting = λ h. covered-extends x before kw c ∙ h;
  adds = λ t e. absurd (n t e);
}

pub IsShared-done : {I : Type 0} {s0 s1 : Sets I} → Extends s0 s1 → (c : List Bool) (done waiting : ℕ → ℕ → Bool) (same here : Bool) (old new before : List (Reached I)) → AreKnownPlaces s0 before → IsAdded s0 s1 c done same here old new → IsShared s0 s1 c done waiting same here old new before before
IsShared-done {s1 = s1} x c done waiting same here old new before kw a = record {
  each_done = a.each;
  each_waiting = λ h. each-extends x c waiting same before kw h;
  keeps_done = a.keeps;
  keeps_waiting = λ h. covered-extends x before kw c ∙ h;
  adds = λ t e. or_left (is_covered s1 new c) (is_covered s1 before c) (a.adds t e);
}

pub IsShared-waiting : {I : Type 0} {s0 s1 : Sets I} → Extends s0 s1 → (c : List Bool) (done waiting : ℕ → ℕ → Bool) (same here : Bool) (old before after : List (Reached I)) → AreKnownPlaces s0 old → IsAdded s0 s1 c waiting same here before after → IsShared s0 s1 c done waiting same here old old before after
IsShared-waiting {s1 = s1} x c done waiting same here old before after k a = record {
  each_done = λ h. each-extends x c done same old k h;
  each_waiting = a.each;
  keeps_done = λ h. covered-extends x old k c ∙ h;
  keeps_waiting = a.keeps;
  adds = λ t e. or_right (is_covered s1 old c) (is_covered s1 after c) (a.adds t e);
}

pub IsShared-trans : {I : Type 0} {s0 s1 s2 : Sets I} {c : List Bool} {done waiting : ℕ → ℕ → Bool} {same first second here : Bool} {old mid new before half after : List (Reached I)} → IsShared s0 s1 c done waiting same first old mid before half → IsShared s1 s2 c done waiting same second mid new half after → (here ≡ true → (first ≡ true) ⊎ (second ≡ true)) → IsShared s0 s2 c done waiting same here old new before after
IsShared-trans {s1 = s1} {s2 = s2} {c = c} {mid = mid} {new = new} {half = half} {after = after} p q f = record {
  each_done = λ h. q.each_done (p.each_done h);
  each_waiting = λ h. q.each_waiting (p.each_waiting h);
  keeps_done = λ h. q.keeps_done (p.keeps_done h);
  keeps_waiting = λ h. q.keeps_waiting (p.keeps_waiting h);
  adds = λ t e. elim (f t) [
    | inl a ↦ elim (both_or (is_covered s1 mid c) (is_covered s1 half c) (p.adds a e)) [
      | inl m ↦ or_left (is_covered s2 new c) (is_covered s2 after c) (q.keeps_done m)
      | inr w ↦ or_right (is_covered s2 new c) (is_covered s2 after c) (q.keeps_waiting w)
    ]
    | inr b ↦ q.adds b e
  ];
}

-- what waited took more: it is done or waits again
pub IsShared-then : {I : Type 0} {s0 s1 s2 : Sets I} {c : List Bool} {done waiting later : ℕ → ℕ → Bool} {same here : Bool} {old mid new half after : List (Reached I)} → IsShared s0 s1 c done waiting same here old mid [] half → IsShared s1 s2 c done later same (is_covered s1 half c) mid new [] after → IsShared s0 s2 c done later same here old new [] after
IsShared-then {s1 = s1} {s2 = s2} {c = c} {mid = mid} {new = new} {half = half} {after = after} p q = record {
  each_done = λ h. q.each_done (p.each_done h);
  each_waiting = λ h. q.each_waiting tt;
  keeps_done = λ h. q.keeps_done (p.keeps_done h);
  keeps_waiting = λ h. cc (h);
  adds = λ t e. elim (both_or (is_covered s1 mid c) (is_covered s1 half c) (p.adds t e)) [
    | inl m ↦ or_left (is_covered s2 new c) (is_covered s2 after c) (q.keeps_done m)
    | inr w ↦ q.adds w e
  ];
}
