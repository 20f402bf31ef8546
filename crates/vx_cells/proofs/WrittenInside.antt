-- One slot that is written to a cell in the configurations of a path.
use Rattle.std.proofs.Common.{◌≡◌, ℕ, ◌<◌, Bool, true, List, sym, ◌∙◌, ap, length, subst}
use Rattle.std.specs.Prelude.{Some, None, if◌then◌else◌}
use Rattle.vx_cells.proofs.WrittenThrough.{reference_held}
use Rattle.vx_cond.specs.Cond.{Conditional, IsCondOf, IsInside}
use Rattle.vx_cond.specs.Leaves.{value_within}
use Rattle.vx_cond.specs.Slots.{or_top, slot_at}
use Rattle.vx_cond.proofs.CondLaws.{cond_at-of}
use Rattle.vx_group_states.specs.Sites.{IsSomewhere}
use Rattle.vx_families.proofs.ChangeLaws.{changed_as}
use Rattle.vx_heap.specs.Changing.{IsCellWritten, IsChangedIn, IsValueHeld, with_cell_of}
use Rattle.vx_heap.specs.Heap.{HeapView, globals_at, is_held, name_at, object_in, value_of}
use Rattle.vx_space.specs.Sets.{Sets}
use Rattle.vx_value.specs.Slot.{slot_cmp}
use Rattle.vx_value.specs.declared.slot.Slot.{Slot}
use Rattle.vx_value.specs.declared.slot.Slot.TheVariants.{Ref}

module _ {S I : Type 0} (s0 : Sets I) (heap : HeapView S I) (reference : ℕ) (slot : Slot) (path : I) (value : Conditional Slot S I) where
  abbrev Held : Slot → Type 0
  Held s = (c : List Bool) → s0.test path c ≡ true → is_held s0 heap c s ≡ true

  pub object-within : IsSomewhere s0 path → Held (Ref reference) → reference < length heap.objects
  object-within some h = (reference_held s0 heap some.config reference (h some.config some.inside)).0

  pub object-inside : value.scope ≡ path → Held (Ref reference) → IsInside s0 value.scope (object_in heap reference).presence
  object-inside e h = record { inside = λ c t. (reference_held s0 heap c reference (h c (ap (λ i. s0.test i c) (sym e) ∙ t))).1 }

  -- the slot is the value at each configuration of the path
  slot_there : IsCondOf slot_cmp s0 (value_within s0 path (λ _. Some slot)) value → (c : List Bool) → s0.test path c ≡ true → slot_at s0 value c ≡ slot
  slot_there m c t = ap or_top (cond_at-of slot_cmp s0 (value_within s0 path (λ _. Some slot)) value c m ∙ ap (λ b. if b then Some slot else None) t)

  pub slot-held : value.scope ≡ path → IsCondOf slot_cmp s0 (value_within s0 path (λ _. Some slot)) value → Held slot → IsValueHeld s0 heap value
  slot-held e m h = record {
    held = λ c t.
        let here : s0.test path c ≡ true = ap (λ i. s0.test i c) (sym e) ∙ t in
        ap (is_held s0 heap c) (slot_there m c here) ∙ h c here;
  }

  pub slot-written : {s1 : Sets I} (after : HeapView S I) (cell : ℕ) → value.scope ≡ path → IsCondOf slot_cmp s0 (value_within s0 path (λ _. Some slot)) value → IsCellWritten s0 s1 heap reference cell value after → IsChangedIn s0 s1 heap after (s0.test path) (λ c. with_cell_of (name_at s0 heap.objects c reference) cell (value_of s0 heap c slot))
  slot-written {s1 = s1} after cell e m h =
      let P : (List Bool → Bool) → Type 0 = λ set. IsChangedIn s0 s1 heap after set (λ c. with_cell_of (name_at s0 heap.objects c reference) cell (value_of s0 heap c (slot_at s0 value c))) in
      changed_as s0 s1 heap after (s0.test path) (λ c. with_cell_of (name_at s0 heap.objects c reference) cell (value_of s0 heap c (slot_at s0 value c))) (λ c. with_cell_of (name_at s0 heap.objects c reference) cell (value_of s0 heap c slot))
      (λ c t. ap (λ s. with_cell_of (name_at s0 heap.objects c reference) cell (value_of s0 heap c s) (globals_at s0 heap c)) (slot_there m c t))
      (subst P (ap (λ i. s0.test i) e) h)
