-- What a store to a static field makes of a heap.
use Rattle.std.proofs.Common.{◌≡◌, ℕ, ◌<◌, zero, suc, Bool, true, false, List, [], ◌∷◌, ◌&&◌, refl, sym, ◌∙◌, ap, arith, length}
use Rattle.std.specs.Prelude.{Option, Some, None, if◌then◌else◌}
use Rattle.vx_cond.specs.Cond.{Conditional}
use Rattle.vx_cond.specs.Slots.{slot_at}
use Rattle.vx_desc.specs.declared.java_type.JavaType.{JavaType}
use Rattle.vx_heap.specs.Heap.{Globals, HeapView, IsHeap, IsHeapFor, IsStaticWritten, are_held, globals_at, is_held, value_of}
use Rattle.vx_heap.proofs.HeapLaws.{globals_at-extends, is_held-extends, value_of-extends}
use Rattle.vx_java.specs.FirstObjects.{narrow_of_type, narrowed_value}
use Rattle.vx_java.specs.Machine.{Value}
use Rattle.vx_class.specs.Members.{STATIC}
use Rattle.vx_link.specs.Parts.{has, is_static_field, no_field}
use Rattle.vx_group_states.specs.declared.site.Site.{Site}
use Rattle.vx_link.specs.declared.program.LinkedField.{LinkedField}
use Rattle.vx_link.specs.declared.program.Program.{Program}
use Rattle.vx_list.specs.Places.{item_or}
use Rattle.vx_space.specs.Sets.{Extends, Sets}
use Rattle.vx_value.specs.declared.operation.Narrow.{Narrow}
use Rattle.vx_value.specs.declared.slot.Slot.{Slot}
use Rattle.vx_value.specs.declared.slot.Slot.TheVariants.{Top, Int, Long, Null, Ref, Text}
use Rattle.vx_ready.specs.Changing.{IsChanged}
use Rattle.vx_ready.specs.Running.{IsRunning}
use Rattle.vx_group.specs.Group.{GroupView}
use Rattle.vx_fields.specs.Statics.{stored}
use Rattle.vx_families.proofs.SlotSorts.{narrowed_plain}
use Rattle.vx_families.specs.Sorts.{narrowed_slot, top_of}
use Rattle.vx_ready.proofs.Changes.{IsChanged-none}

-- ---- slots

narrowed_held : {S I : Type 0} (sets : Sets I) (heap : HeapView S I) (c : List Bool) (to : Option Narrow) (slot : Slot) → is_held sets heap c (narrowed_slot to slot) ≡ is_held sets heap c slot
narrowed_held sets heap c None slot = refl
narrowed_held sets heap c (Some to) Top = refl
narrowed_held sets heap c (Some to) (Int n) = refl
narrowed_held sets heap c (Some to) (Long n) = refl
narrowed_held sets heap c (Some to) Null = refl
narrowed_held sets heap c (Some to) (Ref r) = refl
narrowed_held sets heap c (Some to) (Text n) = refl

-- ---- the field

static_there : (fields : List LinkedField) (f : ℕ) → has STATIC (item_or fields f no_field).flags ≡ true → f < length fields
static_there [] f h = cc
static_there (x ∷ xs) zero h = omega arith
static_there (x ∷ xs) (suc f) h = let rest : f < length xs = static_there xs f h in omega arith

-- a static field has a value
pub static_value_there : {S I : Type 0} (p : Program) (heap : HeapView S I) (f : ℕ) → IsHeapFor p heap → is_static_field p f ≡ true → f < length heap.statics
static_value_there p heap f h s =
    let there = static_there p.fields f s in
    omega (arith, h.static_count, there)

-- ---- the store

first_held : {S I : Type 0} (sets : Sets I) (heap : HeapView S I) (c : List Bool) (slots : List Slot) → are_held sets heap c slots ≡ true → is_held sets heap c (top_of slots) ≡ true
first_held sets heap c [] h = refl
first_held sets heap c (slot ∷ slots) h = first (is_held sets heap c slot) _ h
  where
    first : (a b : Bool) → (a && b) ≡ true → a ≡ true
    first true b h = refl
    first false b h = cc

-- what is stored names what is there
pub stored_held : {S I : Type 0} {s0 s1 : Sets I} → Extends s0 s1 → (heap : HeapView S I) → IsHeap s0 heap → (to : Option Narrow) (path : I) (value : Conditional Slot S I) (slots : List Bool → List Slot) → s0.is_known path ≡ true → value.scope ≡ path → ((c : List Bool) → s0.test path c ≡ true → slot_at s1 value c ≡ narrowed_slot to (top_of (slots c))) → ((c : List Bool) → s0.test path c ≡ true → are_held s0 heap c (slots c) ≡ true) → (c : List Bool) → s1.test value.scope c ≡ true → is_held s1 heap c (slot_at s1 value c) ≡ true
stored_held {s0 = s0} {s1 = s1} e heap v to path value slots k scope at held c t =
    let inside : s0.test path c ≡ true = sym (e.test path c k) ∙ ap (λ i. s1.test i c) (sym scope) ∙ t in
    is_held-extends e heap v c (slot_at s1 value c)
    ∙ ap (is_held s0 heap c) (at c inside)
    ∙ narrowed_held s0 heap c to (top_of (slots c))
    ∙ first_held s0 heap c (slots c) (held c inside)

-- a field that keeps its value
pub kept_is_changed : {S I : Type 0} {sets later : Sets I} (heap : HeapView S I) (path : I) (keeps : Bool) (field : ℕ) (values : List Bool → Value) → Extends sets later → IsHeap sets heap → keeps ≡ true → IsChanged sets later heap heap (λ c x. if sets.test path c then stored keeps field (values c) x else x)
kept_is_changed {sets = sets} heap path keeps field values e v k =
    let none = IsChanged-none e heap v in
    record {
      is_heap = none.is_heap;
      same = none.same;
      statics = none.statics;
      inits = none.inits;
      at = λ c. none.at c ∙ kept (sets.test path c) keeps (values c) (globals_at sets heap c) k;
    }
  where
    kept : (b keeps : Bool) (value : Value) (x : Globals) → keeps ≡ true → x ≡ (if b then stored keeps field value x else x)
    kept true true value x h = refl
    kept true false value x h = cc
    kept false keeps value x h = refl

-- a field that is written
pub written_is_changed : {S I : Type 0} {s0 s1 s2 : Sets I} (before after : HeapView S I) (path : I) (keeps : Bool) (field : ℕ) (type : JavaType) (value : Conditional Slot S I) (slots : List Bool → List Slot) → Extends s0 s1 → IsHeap s0 before → keeps ≡ false → s0.is_known path ≡ true → value.scope ≡ path → ((c : List Bool) → s0.test path c ≡ true → slot_at s1 value c ≡ narrowed_slot (narrow_of_type type) (top_of (slots c))) → IsStaticWritten s1 s2 before field value after → IsChanged s0 s2 before after (λ c x. if s0.test path c then stored keeps field (narrowed_value type (value_of s0 before c (top_of (slots c)))) x else x)
written_is_changed {S = S} {I = I} {s0 = s0} {s1 = s1} {s2 = s2} before after path keeps field type value slots e v k known scope at w = record {
  is_heap = w.is_heap;
  same = w.same ∙ (λ i. record before { statics = after.statics; inits = sym (ap (λ (h : HeapView S I). h.inits) w.same) i });
  statics = w.count;
  inits = ap (λ (h : HeapView S I). length h.inits) w.same;
  at = λ c. here c (s0.test path c) refl;
}
  where
    here : (c : List Bool) (b : Bool) → s0.test path c ≡ b → globals_at s2 after c ≡ (if b then stored keeps field (narrowed_value type (value_of s0 before c (top_of (slots c)))) (globals_at s0 before c) else globals_at s0 before c)
    here c true t =
        let value_is = value_of-extends e before v c (slot_at s1 value c) ∙ ap (value_of s0 before c) (at c t) ∙ narrowed_plain s0 before c (narrow_of_type type) (top_of (slots c)) in
        w.inside c (ap (λ i. s1.test i c) scope ∙ e.test path c known ∙ t)
        ∙ (λ i. stored false field (value_is i) (globals_at-extends e before v c i))
        ∙ ap (λ b. stored b field (narrowed_value type (value_of s0 before c (top_of (slots c)))) (globals_at s0 before c)) (sym k)
    here c false t = w.outside c (ap (λ i. s1.test i c) scope ∙ e.test path c known ∙ t) ∙ globals_at-extends e before v c

-- a static field has a value there
pub field_there : {S I : Type 0} (site : Site) (s0 sx s1 : Sets I) (before after : HeapView S I) (change : List Bool → Globals → Globals) (group : GroupView S I) (field : ℕ) → IsRunning site s0 before group → IsChanged sx s1 before after change → is_static_field site.program.now field ≡ true → field < length after.statics
field_there site s0 sx s1 before after change group field r changed h =
    let there = static_value_there site.program.now before field r.is_for h in
    omega (arith, changed.statics, there)
