-- What is thrown leaves the frame on top: a call changes nothing, and an initialisation has failed.
use Rattle.std.proofs.Common.{◌≡◌, ℕ, Bool, true, false, List, [], ◌∷◌, refl, sym, ◌∙◌, ap}
use Rattle.std.specs.Prelude.{◌≢◌, Option, if◌then◌else◌}
use Rattle.vx_cond.proofs.CondLaws.{IsCond-extends}
use Rattle.vx_cond.specs.Cond.{Conditional}
use Rattle.vx_cond.specs.Slots.{slot_at}
use Rattle.vx_group.proofs.GroupLaws.{IsGroup-path_known, IsGroupIn-group}
use Rattle.vx_group.specs.declared.callers.Caller.{Caller}
use Rattle.vx_group.specs.Group.{path_of}
use Rattle.vx_group_states.specs.Stands.{is_object, object_named}
use Rattle.vx_families.proofs.ChangeLaws.{changed_as, changes_in_one, statics_change_in, unchanged}
use Rattle.vx_heap.proofs.Growing.{is_held-grown}
use Rattle.vx_heap.specs.Changing.{IsChangedIn}
use Rattle.vx_heap.specs.Heap.{Globals, HeapView, globals_at, is_held}
use Rattle.vx_link.specs.Parts.{method_at}
use Rattle.vx_link.specs.declared.program.Program.{Program}
use Rattle.vx_ready.specs.Changing.{IsChanged}
use Rattle.vx_ready.specs.Initialising.{marked_at, with_state}
use Rattle.vx_space.specs.Sets.{Extends, Sets}
use Rattle.vx_value.specs.Slot.{slot_cmp}
use Rattle.vx_value.specs.declared.ids.ClassId.{ClassId}
use Rattle.vx_value.specs.declared.key.Kind.{Kind}
use Rattle.vx_value.specs.declared.key.Kind.TheVariants.{Call, Init, Wait}
use Rattle.vx_value.specs.declared.slot.InitState.{InitState}
use Rattle.vx_value.specs.declared.slot.InitState.TheVariants.{Failed}
use Rattle.vx_value.specs.declared.slot.Slot.{Slot}
use Rattle.vx_throw.proofs.Within.{named_later, slot_later}
use Rattle.vx_throw.specs.Flights.{IsFlight, thrown_at}
use Rattle.vx_throw.specs.Leaving.{AreWrapped, HasLeft, MayWrap, left_globals, left_object, wrapped, wrapped_object}
use Rattle.vx_throw.specs.declared.handling.Flight.{Flight}

-- the path of a flight is known
pub path_known : {S I : Type 0} (p : Program) (sets : Sets I) (heap : HeapView S I) (tree : List (Option (Caller S I))) (flight : Flight S I) → IsFlight p sets heap tree flight → sets.is_known (path_of flight.group) ≡ true
path_known p sets heap tree flight f = IsGroup-path_known sets flight.group (IsGroupIn-group sets tree flight.group f.stands.is_group)

-- ---- a call

call_leaves : (p : Program) (kind : Kind) (class r : ℕ) (g : Globals) → kind ≡ Call → left_globals p kind class r g ≡ g
call_leaves p Call class r g h = refl
call_leaves p Init class r g h = cc h
call_leaves p Wait class r g h = cc h

call_throws : (p : Program) (kind : Kind) (r : ℕ) (g : Globals) → kind ≡ Call → r ≡ left_object p kind r g
call_throws p Call r g h = refl
call_throws p Init r g h = cc h
call_throws p Wait r g h = cc h

pub HasLeft-call : {S I : Type 0} (p : Program) (sets : Sets I) (heap : HeapView S I) (tree : List (Option (Caller S I))) (flight : Flight S I) → IsFlight p sets heap tree flight → flight.group.top.kind ≡ Call → HasLeft p sets sets heap heap flight flight
HasLeft-call p sets heap tree flight f k = record {
  group = refl;
  changed = unchanged sets heap (sets.test (path_of flight.group)) (λ c. left_globals p flight.group.top.kind (method_at p flight.group.top.method.0).class.0 (thrown_at sets heap flight.objects c)) f.is_heap (λ c t. call_leaves p flight.group.top.kind (method_at p flight.group.top.method.0).class.0 (thrown_at sets heap flight.objects c) (globals_at sets heap c) k);
  thrown = f.thrown;
  object = λ c t. call_throws p flight.group.top.kind (thrown_at sets heap flight.objects c) (globals_at sets heap c) k;
}

-- ---- the class that failed

none_marked : (b : Bool) (state : InitState) (class : ℕ) (g : Globals) → b ≡ false → with_state state (if b then class ∷ [] else []) g ≡ g
none_marked b state class g h = rw h refl

one_marked : (b : Bool) (state : InitState) (class : ℕ) (g : Globals) → b ≡ true → with_state state (if b then class ∷ [] else []) g ≡ with_state state (class ∷ []) g
one_marked b state class g h = rw h refl

pub marked_inside : {S I : Type 0} {s0 s1 : Sets I} (before after : HeapView S I) (state : InitState) (class : ClassId) (path : I) → IsChanged s0 s1 before after (λ c. with_state state (marked_at {S = S} s0 (record { class = class; condition = path } ∷ []) c)) → IsChangedIn s0 s1 before after (s0.test path) (λ _. with_state state (class.0 ∷ []))
marked_inside {S = S} {s0 = s0} {s1 = s1} before after state class path changed =
    let change : List Bool → Globals → Globals = λ c. with_state state (marked_at {S = S} s0 (record { class = class; condition = path } ∷ []) c) in
    let made = statics_change_in s0 s1 before after (s0.test path) change changed.is_heap changed.same changed.statics changed.inits changed.at (λ c t g. none_marked (s0.test path c) state class.0 g t) in
    changed_as s0 s1 before after (s0.test path) change (λ _. with_state state (class.0 ∷ [])) (λ c t. one_marked (s0.test path c) state class.0 (globals_at s0 before c) t) made

-- ---- an initialisation

fails : (p : Program) (kind : Kind) (class r : ℕ) (g : Globals) → kind ≢ Call → wrapped p r (with_state Failed (class ∷ []) g) ≡ left_globals p kind class r g
fails p Call class r g h = absurd (h refl)
fails p Init class r g h = refl
fails p Wait class r g h = refl

failed_throws : (p : Program) (kind : Kind) (r : ℕ) (g : Globals) → kind ≢ Call → wrapped_object p r g ≡ left_object p kind r g
failed_throws p Call r g h = absurd (h refl)
failed_throws p Init r g h = refl
failed_throws p Wait r g h = refl

module _ {S I : Type 0} (p : Program) {s0 s1 : Sets I} (before marked : HeapView S I) (tree : List (Option (Caller S I))) (flight : Flight S I) (f : IsFlight p s0 before tree flight) (e01 : Extends s0 s1) (mark : IsChangedIn s0 s1 before marked (s0.test (path_of flight.group)) (λ _. with_state Failed ((method_at p flight.group.top.method.0).class.0 ∷ []))) where
  known : s0.is_known (path_of flight.group) ≡ true
  known = path_known p s0 before tree flight f

  slot_is : (c : List Bool) → slot_at s1 flight.objects c ≡ slot_at s0 flight.objects c
  slot_is c = slot_later e01 flight.objects f.thrown.is_cond c

  in_path : (c : List Bool) → s1.test flight.objects.scope c ≡ true → s0.test (path_of flight.group) c ≡ true
  in_path c t = sym (e01.test (path_of flight.group) c known) ∙ ap (λ i. s1.test i c) (sym f.thrown.scope) ∙ t

  -- what is thrown is there still
  pub may_wrap : MayWrap p s1 marked flight.objects
  may_wrap = record {
    classes = f.bounded.classes;
    is_heap = mark.is_heap;
    is_cond = IsCond-extends slot_cmp e01 flight.objects f.thrown.is_cond;
    held = record {
      object = λ c t. ap is_object (slot_is c) ∙ f.thrown.object c (in_path c t);
      held = λ c t. ap (is_held s1 marked c) (slot_is c) ∙ is_held-grown e01 before marked f.is_heap mark.grows c (slot_at s0 flight.objects c) (f.thrown.held c (in_path c t));
    };
  }

  object_is : (c : List Bool) → s0.test (path_of flight.group) c ≡ true → thrown_at s1 marked flight.objects c ≡ thrown_at s0 before flight.objects c
  object_is c t = ap (object_named s1 marked c) (slot_is c) ∙ named_later e01 before marked f.is_heap mark.grows c (slot_at s0 flight.objects c) (f.thrown.object c t) (f.thrown.held c t)

  pub HasLeft-failed : {s2 : Sets I} (after : HeapView S I) (objects : Conditional Slot S I) → flight.group.top.kind ≢ Call → Extends s1 s2 → AreWrapped p s1 s2 marked after flight.objects objects → HasLeft p s0 s2 before after flight (record { group = flight.group; objects = objects })
  HasLeft-failed {s2 = s2} after objects kind e12 w =
      let class = (method_at p flight.group.top.method.0).class.0 in
      let path : List Bool → Bool = s0.test (path_of flight.group) in
      let scope : (c : List Bool) → s1.test flight.objects.scope c ≡ path c = λ c. ap (λ i. s1.test i c) f.thrown.scope ∙ e01.test (path_of flight.group) c known in
      let later : (c : List Bool) → s2.test (path_of flight.group) c ≡ true → s2.test flight.objects.scope c ≡ true = λ c t. ap (λ i. s2.test i c) f.thrown.scope ∙ t in
      let both = changes_in_one before marked after path (s1.test flight.objects.scope) (λ _. with_state Failed (class ∷ [])) (λ c. wrapped p (thrown_at s1 marked flight.objects c)) scope mark w.changed in
      record {
        group = refl;
        changed = changed_as s0 s2 before after path (λ c g. wrapped p (thrown_at s1 marked flight.objects c) (with_state Failed (class ∷ []) g)) (λ c. left_globals p flight.group.top.kind class (thrown_at s0 before flight.objects c))
            (λ c t. ap (λ r. wrapped p r (with_state Failed (class ∷ []) (globals_at s0 before c))) (object_is c t) ∙ fails p flight.group.top.kind class (thrown_at s0 before flight.objects c) (globals_at s0 before c) kind)
            both;
        thrown = record {
          is_cond = w.is_cond;
          scope = w.scope ∙ f.thrown.scope;
          object = λ c t. w.held.object c (later c t);
          held = λ c t. w.held.held c (later c t);
        };
        object = λ c t.
            w.named c (scope c ∙ t)
            ∙ ap (wrapped_object p (thrown_at s1 marked flight.objects c)) (mark.inside c t)
            ∙ ap (λ r. wrapped_object p r (globals_at s0 before c)) (object_is c t)
            ∙ failed_throws p flight.group.top.kind (thrown_at s0 before flight.objects c) (globals_at s0 before c) kind;
      }
