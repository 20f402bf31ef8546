-- What the handlers of the frame on top made of a flight.
use Rattle.std.proofs.Common.{◌≡◌, ℕ, Bool, true, false, List, refl, sym, ◌∙◌, ap}
use Rattle.std.specs.Prelude.{Option, None, ◌&&◌, is_none, is_some}
use Rattle.vx_space.specs.Sets.{Sets, Extends, IsLawful}
use Rattle.vx_space.proofs.Spaces.{Extends-trans}
use Rattle.vx_cond.specs.Cond.{Conditional, IsCond, IsCondLifting, IsCondOf, IsInside, cond_at}
use Rattle.vx_cond.specs.Leaves.{value_within}
use Rattle.vx_cond.specs.Slots.{or_top, slot_at}
use Rattle.vx_cond.proofs.CondLaws.{IsCond-extends, IsCond-of, cond_at-extends, cond_at-of}
use Rattle.vx_cond.proofs.SideLaws.{cond_at-covers}
use Rattle.vx_families.proofs.Tops.{lifted_one}
use Rattle.vx_frame.specs.Frame.{part_of}
use Rattle.vx_group.specs.Group.{GroupView, IsGroup, IsPartOf, path_of}
use Rattle.vx_group.proofs.GroupLaws.{IsGroup-path_known, IsPartOf-before, IsPartOf-extends, IsPartOf-set}
use Rattle.vx_group_states.specs.Stands.{IsThrown, state_at}
use Rattle.vx_group_states.proofs.AnswerLaws.{values_scope}
use Rattle.vx_group_states.proofs.Gathering.{IsPartOf-group}
use Rattle.vx_group_states.proofs.OutcomeStates.{CameTo-extends, CameTo-same}
use Rattle.vx_group_states.proofs.SettleLaws.{lifting_at}
use Rattle.vx_group_states.proofs.StateLaws.{Continues-same, both_first, state_at-extends}
use Rattle.vx_heap.proofs.HeapLaws.{IsHeap-extends}
use Rattle.vx_heap.proofs.Written.{within_there}
use Rattle.vx_heap.specs.Heap.{HeapView}
use Rattle.vx_java.specs.Machine.{Outcome as PlainOutcome}
use Rattle.vx_link.specs.declared.program.Program.{Program}
use Rattle.vx_outcome.specs.declared.outcome.Outcome.{Outcome}
use Rattle.vx_ready.specs.Initialising.{GivesWithin}
use Rattle.vx_value.specs.Slot.{slot_cmp}
use Rattle.vx_value.specs.declared.key.KeyPart.{KeyPart}
use Rattle.vx_value.specs.declared.slot.Slot.{Slot}
use Rattle.vx_throw.proofs.LandingLaws.{split-inside}
use Rattle.vx_throw.proofs.Within.{CameTo-within, objects_held, objects_inside, thrown_later}
use Rattle.vx_throw.specs.Flights.{IsHandled, handler_at, handler_in, landing, landing_from}
use Rattle.vx_throw.specs.Landings.{AreLanded, AreObjectsHeld, handler_by, handler_cmp}
use Rattle.vx_throw.specs.declared.handling.Flight.{Flight}

-- the handler at a configuration is that of the frame on top, for the object there
pub handlers_at : {S I : Type 0} (p : Program) (s0 s1 : Sets I) (heap : HeapView S I) (flight : Flight S I) (part : KeyPart) (R : Slot → Option ℕ → Type 0) (handlers : Conditional (Option ℕ) S I) → part ≡ part_of flight.group.top → ((slot : Slot) (handler : Option ℕ) → R slot handler → handler ≡ handler_at p heap part slot) → IsCond slot_cmp s0 flight.objects → IsCondLifting handler_cmp s1 R (cond_at s0 flight.objects) handlers → (c : List Bool) → s0.test flight.objects.scope c ≡ true → handler_by s1 handlers.leaves c ≡ handler_in p s0 heap flight c
handlers_at p s0 s1 heap flight part R handlers is law v l c t =
    lifted_one None R (handler_at p heap part) (cond_at s0 flight.objects c) (cond_at s1 handlers c) law (cond_at-covers slot_cmp s0 flight.objects v c ∙ t) (lifting_at handler_cmp s1 R (cond_at s0 flight.objects) handlers l c)
    ∙ ap (λ q. handler_at p heap q (slot_at s0 flight.objects c)) is

-- sets that agree inside a path
agree : (a b : Bool) (x y : Option ℕ) (f : Option ℕ → Bool) → b ≡ a → (a ≡ true → x ≡ y) → (b && f x) ≡ (a && f y)
agree true b x y f e h = rw e (ap f (h refl))
agree false b x y f e h = rw e refl

pub thrown_held : {S I : Type 0} (sets : Sets I) (heap : HeapView S I) (group : GroupView S I) (objects : Conditional Slot S I) → IsThrown sets heap group objects → AreObjectsHeld sets heap (path_of group) objects
thrown_held sets heap group objects f = record { object = f.object; held = f.held }

pub thrown_inside : {S I : Type 0} (sets : Sets I) (heap : HeapView S I) (group : GroupView S I) (objects : Conditional Slot S I) → IsThrown sets heap group objects → IsInside sets (path_of group) objects.scope
thrown_inside sets heap group objects f = record { inside = λ c t. ap (λ i. sets.test i c) f.scope ∙ t }

module _ {S I : Type 0} (p : Program) {s0 s1 s2 s3 : Sets I} (to1 : Extends s0 s1) (to2 : Extends s1 s2) (to3 : Extends s2 s3) (heap : HeapView S I) (before : Flight S I) (left : GroupView S I) (handler : List Bool → Option ℕ) (v : IsGroup s0 before.group) (thrown : IsThrown s0 heap before.group before.objects) (is : (c : List Bool) → s0.test before.objects.scope c ≡ true → handler c ≡ handler_in p s0 heap before c) where
  path_then : (c : List Bool) → s1.test (path_of before.group) c ≡ s0.test (path_of before.group) c
  path_then c = to1.test (path_of before.group) c (IsGroup-path_known s0 before.group v)

  is_there : (c : List Bool) → s0.test (path_of before.group) c ≡ true → handler c ≡ handler_in p s0 heap before c
  is_there c t = is c ((thrown_inside s0 heap before.group before.objects thrown).inside c t)

  same_set : (f : Option ℕ → Bool) (c : List Bool) → (s1.test (path_of before.group) c && f (handler c)) ≡ (s0.test (path_of before.group) c && f (handler_in p s0 heap before c))
  same_set f c = agree (s0.test (path_of before.group) c) (s1.test (path_of before.group) c) (handler c) (handler_in p s0 heap before c) f (path_then c) (is_there c)

  handled_left : IsPartOf s1 s2 (λ c. s1.test (path_of before.group) c && is_none (handler c)) before.group left → IsPartOf s0 s3 (λ c. s0.test (path_of before.group) c && is_none (handler_in p s0 heap before c)) before.group left
  handled_left q = IsPartOf-extends s0 to3 _ before.group left (IsPartOf-set s0 s2 _ _ before.group left (same_set is_none) (IsPartOf-before s2 to1 _ before.group left v q))

  handled_landed : (outcomes : List (Outcome S I)) → AreLanded s1 s2 before.group before.objects handler (λ c. s1.test (path_of before.group) c && is_some (handler c)) outcomes → GivesWithin p (landing_from s0 before.objects (handler_in p s0 heap before)) (λ c. s0.test (path_of before.group) c && is_some (handler_in p s0 heap before c)) s0 s3 before.group outcomes heap
  handled_landed outcomes m tree h s =
      let group = before.group in
      let objects = before.objects in
      let h1 = IsHeap-extends to1 heap h in
      let on = Continues-same p tree to1 heap h group s in
      let held = objects_held to1 heap h objects thrown.is_cond (path_of group) (path_of group) (λ c t. sym (path_then c) ∙ t) (thrown_held s0 heap group objects thrown) in
      let set : List Bool → Bool = λ c. s1.test (path_of group) c && is_some (handler c) in
      let there : List Bool → PlainOutcome = λ c. landing_from s1 objects handler heap c (state_at s1 heap tree group c) in
      let what : List Bool → PlainOutcome = λ c. landing_from s0 objects (handler_in p s0 heap before) heap c (state_at s0 heap tree group c) in
      let law : (c : List Bool) → set c ≡ true → there c ≡ what c = λ c t.
      let inside = sym (path_then c) ∙ both_first (s1.test (path_of group) c) (is_some (handler c)) t in
      λ j. landing (state_at-extends tree to1 heap h group s.is_group c j) (thrown_later to1 heap h objects thrown.is_cond c j) (is_there c inside j) in
      let came = CameTo-extends p s1 tree to3 heap (IsHeap-extends to2 heap h1) group there set outcomes (m.gives p heap held tree h1 on.stands) in
      CameTo-same p s0 s3 heap tree group what what set (λ c. s0.test (path_of group) c && is_some (handler_in p s0 heap before c)) outcomes (same_set is_some) (λ c t. refl) (CameTo-within p s0 s1 s3 heap tree group group there what set outcomes on law came)

  pub IsHandled-made : IsLawful s3 → (objects : Conditional Slot S I) (outcomes : List (Outcome S I)) → IsPartOf s1 s2 (λ c. s1.test (path_of before.group) c && is_none (handler c)) before.group left → AreLanded s1 s2 before.group before.objects handler (λ c. s1.test (path_of before.group) c && is_some (handler c)) outcomes → IsCondOf slot_cmp s3 (value_within s2 (path_of left) (cond_at s2 before.objects)) objects → IsHandled p s0 s3 heap before (record { group = left; objects = objects }) outcomes
  IsHandled-made lawful objects outcomes q m k =
      let to = Extends-trans to1 to2 in
      let known = IsGroup-path_known s2 left (IsPartOf-group s1 s2 _ before.group left q) in
      let inside : (c : List Bool) → s2.test (path_of left) c ≡ true → s0.test (path_of before.group) c ≡ true = λ c t. sym (path_then c) ∙ split-inside s1 s2 before.group left (λ c. is_none (handler c)) q c t in
      let here = objects_inside to before.objects thrown.is_cond (path_of before.group) (path_of left) (thrown_inside s0 heap before.group before.objects thrown) inside in
      record {
        left = handled_left q;
        objects = record {
          is_cond = IsCond-of slot_cmp s3 _ objects k;
          scope = values_scope slot_cmp lawful before.objects objects (path_of left) to3 known (IsCond-extends slot_cmp to before.objects thrown.is_cond) here k;
          at = λ c t. ap or_top (cond_at-of slot_cmp s3 _ objects c k ∙ within_there (s2.test (path_of left) c) (cond_at s2 before.objects c) (sym (to3.test (path_of left) c known) ∙ t) ∙ cond_at-extends slot_cmp to before.objects thrown.is_cond c);
        };
        landed = handled_landed outcomes m;
        placed = m.placed;
      }

-- what is left has a known path
pub left_known : {S I : Type 0} (p : Program) (s0 s1 : Sets I) (heap : HeapView S I) (before after : Flight S I) (outcomes : List (Outcome S I)) → IsHandled p s0 s1 heap before after outcomes → s1.is_known (path_of after.group) ≡ true
left_known p s0 s1 heap before after outcomes h = IsGroup-path_known s1 after.group (IsPartOf-group s0 s1 (λ c. s0.test (path_of before.group) c && is_none (handler_in p s0 heap before c)) before.group after.group h.left)
