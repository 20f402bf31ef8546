-- Marks in sets of configurations, one rise after the other.
use Rattle.std.proofs.Common.{◌≡◌, ℕ, ◌+◌, ◌<◌, ◌≤◌, Bool, true, false, List, [], refl, sym, ◌∙◌, ap, get_or, length, take}
use Rattle.std.proofs.lemmas.List.{take_all}
use Rattle.std.specs.Prelude.{Option, Some, None, if◌then◌else◌, is_some}
use Rattle.vx_cond.proofs.LeafLoops.{leaf_here, next_leaf}
use Rattle.vx_cond.specs.Cond.{IsInside}
use Rattle.vx_cond.specs.Leaves.{AreLeaves, value_at}
use Rattle.vx_cond.specs.declared.cond.Leaf.{Leaf}
use Rattle.vx_heap.proofs.Written.{allowed_known}
use Rattle.vx_heap.specs.Heap.{Globals, HeapView, IsHeap, globals_at}
use Rattle.vx_link.specs.declared.program.Program.{Program}
use Rattle.vx_ready.proofs.Changes.{IsChanged-allowed, IsChanged-before, IsChanged-none, IsChanged-trans}
use Rattle.vx_ready.specs.Changing.{IsChanged}
use Rattle.vx_ready.specs.Initialising.{with_state}
use Rattle.vx_space.proofs.Spaces.{Extends-refl, Extends-trans}
use Rattle.vx_space.specs.Sets.{Extends, Sets}
use Rattle.vx_value.specs.declared.slot.InitState.{InitState}
use Rattle.vx_value.specs.declared.slot.InitState.TheVariants.{Running}
use Rattle.vx_init.specs.Rises.{rise_cmp}
use Rattle.vx_init.specs.Rising.{marked_by, marked_if, running, too_many}
use Rattle.vx_init.specs.declared.rise.Rise.{Rise}

-- ---- one rise

-- told by another function that does the same
changed_so : {S I : Type 0} (old new : Sets I) (before after : HeapView S I) (f g : List Bool → Globals → Globals) → ((c : List Bool) (x : Globals) → f c x ≡ g c x) → IsChanged old new before after f → IsChanged old new before after g
changed_so old new before after f g same changed = record {
  is_heap = changed.is_heap;
  same = changed.same;
  statics = changed.statics;
  inits = changed.inits;
  at = λ c. changed.at c ∙ same c (globals_at old before c);
}

state_where : (b : Bool) (state : InitState) (classes many : List ℕ) (x : Globals) → classes ≡ many → with_state state (if b then classes else []) x ≡ (if b then with_state state many x else x)
state_where true state classes many x e = ap (λ cs. with_state state cs x) e
state_where false state classes many x e = refl

-- classes that got a state in a condition
pub marked_where : {S I : Type 0} (old new : Sets I) (before after : HeapView S I) (state : InitState) (condition : I) (classes many : List ℕ) → classes ≡ many → IsChanged old new before after (λ c. with_state state (if old.test condition c then classes else [])) → IsChanged old new before after (λ c x. if old.test condition c then with_state state many x else x)
marked_where old new before after state condition classes many e = changed_so old new before after _ _ (λ c x. state_where (old.test condition c) state classes many x e)

if_few : (b many : Bool) (x y : Globals) → many ≡ false → (if b then y else x) ≡ (if b then (if many then x else y) else x)
if_few b many x y h = rw h refl

-- where there is room for their frames they are in progress
pub running_where : {S I : Type 0} (old new : Sets I) (before after : HeapView S I) (frames : ℕ) (condition : I) (classes many : List ℕ) → classes ≡ many → too_many frames classes ≡ false → IsChanged old new before after (λ c. with_state Running (if old.test condition c then classes else [])) → IsChanged old new before after (λ c x. if old.test condition c then running frames many x else x)
running_where old new before after frames condition classes many e few changed =
    changed_so old new before after _ _ (λ c x. if_few (old.test condition c) (too_many frames many) x (with_state Running many x) (ap (too_many frames) (sym e) ∙ few))
    (marked_where old new before after Running condition classes many e changed)

same_both : (b : Bool) (x : Globals) → x ≡ (if b then x else x)
same_both true x = refl
same_both false x = refl

-- and nothing changes where there is none
pub unchanged_where : {S I : Type 0} (sets : Sets I) (heap : HeapView S I) (condition : I) (f : Globals → Globals) → IsHeap sets heap → ((x : Globals) → f x ≡ x) → IsChanged sets sets heap heap (λ c x. if sets.test condition c then f x else x)
unchanged_where sets heap condition f v same =
    changed_so sets sets heap heap (λ _ x. x) (λ c x. if sets.test condition c then f x else x) (λ c x. same_both (sets.test condition c) x ∙ ap (λ y. if sets.test condition c then y else x) (sym (same x))) (IsChanged-none (Extends-refl sets) heap v)

too_many_stay : (many : Bool) (x y : Globals) → many ≡ true → (if many then x else y) ≡ x
too_many_stay many x y h = rw h refl

pub full_where : {S I : Type 0} (sets : Sets I) (heap : HeapView S I) (frames : ℕ) (condition : I) (classes many : List ℕ) → classes ≡ many → too_many frames classes ≡ true → IsHeap sets heap → IsChanged sets sets heap heap (λ c x. if sets.test condition c then running frames many x else x)
full_where sets heap frames condition classes many e full v = unchanged_where sets heap condition (running frames many) v (λ x. too_many_stay (too_many frames many) x (with_state Running many x) (ap (too_many frames) (sym e) ∙ full))

-- the marks of a rise are those of the one that it is
pub rise_where : {S I : Type 0} (p : Program) (class frames : ℕ) (old new : Sets I) (before after : HeapView S I) (condition : I) (rise known : Rise) → rise ≡ known → IsChanged old new before after (λ c x. if old.test condition c then marked_by p class frames known x else x) → IsChanged old new before after (λ c x. if old.test condition c then marked_by p class frames rise x else x)
rise_where p class frames old new before after condition rise known e = changed_so old new before after _ _ (λ c x. ap (λ r. if old.test condition c then marked_by p class frames r x else x) (sym e))

-- ---- all rises

-- what the loop keeps: the marks of the rises so far are put
pub record AreMarked {S I : Type 0} (p : Program) (class frames : ℕ) (start sets : Sets I) (before heap : HeapView S I) (xs : List (Leaf Rise S I)) (i : ℕ) : Type 0 where
  pub extends : Extends start sets
  pub changed : IsChanged start sets before heap (λ c. marked_if p class frames (value_at start (take i xs) c))

pub AreMarked-start : {S I : Type 0} (p : Program) (class frames : ℕ) (sets : Sets I) (heap : HeapView S I) (xs : List (Leaf Rise S I)) → IsHeap sets heap → AreMarked p class frames sets sets heap heap xs 0
AreMarked-start p class frames sets heap xs v = record {
  extends = Extends-refl sets;
  changed = IsChanged-before (Extends-refl sets) heap heap (λ c g. g) (λ c. marked_if p class frames (value_at sets (take 0 xs) c)) v (λ c. refl) (IsChanged-none (Extends-refl sets) heap v);
}

marked_more : (p : Program) (class frames : ℕ) (a b : Bool) (o : Option Rise) (rise : Rise) (x : Globals) → a ≡ b → (b ≡ true → o ≡ None) → (if a then marked_by p class frames rise (marked_if p class frames o x) else marked_if p class frames o x) ≡ marked_if p class frames (if b then Some rise else o) x
marked_more p class frames true true o rise x e none = ap (λ q. marked_by p class frames rise (marked_if p class frames q x)) (none refl)
marked_more p class frames false false o rise x e none = refl
marked_more p class frames true false o rise x e none = cc e
marked_more p class frames false true o rise x e none = cc e

pub AreMarked-step : {S I : Type 0} (p : Program) (class frames : ℕ) (s0 s1 s2 : Sets I) (before middle after : HeapView S I) (xs : List (Leaf Rise S I)) (i : ℕ) (x : Leaf Rise S I) → AreLeaves rise_cmp s0 xs → i < length xs → x ≡ get_or xs i x → AreMarked p class frames s0 s1 before middle xs i → Extends s1 s2 → IsChanged s1 s2 middle after (λ c g. if s1.test x.condition c then marked_by p class frames x.value g else g) → AreMarked p class frames s0 s2 before after xs (i + 1)
AreMarked-step p class frames s0 s1 s2 before middle after xs i x leaves l e m f w =
    let next = next_leaf rise_cmp s0 xs i x leaves l e in
    let whole = IsChanged-trans before middle after (λ c. marked_if p class frames (value_at s0 (take i xs) c)) (λ c g. if s1.test x.condition c then marked_by p class frames x.value g else g) m.changed w in
    record {
      extends = Extends-trans m.extends f;
      changed = record {
        is_heap = whole.is_heap;
        same = whole.same;
        statics = whole.statics;
        inits = whole.inits;
        at = λ c.
            let g = globals_at s0 before c in
            whole.at c
            ∙ marked_more p class frames (s1.test x.condition c) (s0.test x.condition c) (value_at s0 (take i xs) c) x.value g (m.extends.test x.condition c next.known) (next.before.none c)
            ∙ ap (λ o. marked_if p class frames o g) (sym (next.more c));
      };
    }

pub AreMarked-end : {S I : Type 0} (p : Program) (class frames : ℕ) (s0 s1 : Sets I) (before after : HeapView S I) (xs : List (Leaf Rise S I)) (i : ℕ) → length xs ≤ i → AreMarked p class frames s0 s1 before after xs i → IsChanged s0 s1 before after (λ c. marked_if p class frames (value_at s0 xs c))
AreMarked-end p class frames s0 s1 before after xs i l m = record {
  is_heap = m.changed.is_heap;
  same = m.changed.same;
  statics = m.changed.statics;
  inits = m.changed.inits;
  at = λ c. m.changed.at c ∙ ap (λ ys. marked_if p class frames (value_at s0 ys c) (globals_at s0 before c)) (take_all i xs l);
}

some_of : {T : Type 0} (o : Option T) → (o ≡ None → ⊥) → is_some o ≡ true
some_of None f = absurd (f refl)
some_of (Some v) f = refl

-- the condition of a rise runs
pub rise_runs : {S I : Type 0} (p : Program) (class frames : ℕ) (s0 s1 : Sets I) (before middle : HeapView S I) (xs : List (Leaf Rise S I)) (i : ℕ) (x : Leaf Rise S I) → IsHeap s0 before → AreLeaves rise_cmp s0 xs → ((c : List Bool) → is_some (value_at s0 xs c) ≡ true → s0.test before.allowed c ≡ true) → i < length xs → x ≡ get_or xs i x → AreMarked p class frames s0 s1 before middle xs i → IsInside s1 x.condition middle.allowed
rise_runs p class frames s0 s1 before middle xs i x v leaves inside l e m =
    let next = next_leaf rise_cmp s0 xs i x leaves l e in
    record {
      inside = λ c t.
          let here : s0.test x.condition c ≡ true = sym (m.extends.test x.condition c next.known) ∙ t in
          ap (λ id. s1.test id c) (IsChanged-allowed s0 s1 before middle _ m.changed)
          ∙ m.extends.test before.allowed c (allowed_known s0 before v)
          ∙ inside c (some_of (value_at s0 xs c) (leaf_here s0 xs i x c l e here));
    }
