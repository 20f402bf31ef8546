-- Operands of a group as conditional values, by their places from the top, and places that are made of them.
use Rattle.std.proofs.Common.{◌≡◌, ℕ, ◌+◌, suc, Bool, true, List, sym, ◌∙◌, ap, subst, length}
use Rattle.std.specs.Prelude.{Some, slice_get}
use Rattle.vx_families.proofs.Tops.{value_there}
use Rattle.vx_cells.specs.Through.{ArePlacesHeld, is_place_held, place_at}
use Rattle.vx_cells.specs.declared.place.Place.{Place}
use Rattle.vx_cond.specs.Cond.{Conditional, IsCond, cond_at}
use Rattle.vx_cond.specs.Slots.{slot_at}
use Rattle.vx_cond.specs.Row.{IsRow}
use Rattle.vx_cond.proofs.RowSteps.{IsRow-get}
use Rattle.vx_frame.specs.declared.frame.Frame.{Frame}
use Rattle.vx_frame.proofs.FrameLaws.{IsFrame-stack}
use Rattle.vx_group.specs.Group.{GroupView, IsGroup, path_of}
use Rattle.vx_group.proofs.GroupLaws.{IsGroup-path_known, IsGroup-top}
use Rattle.vx_group_states.specs.Answering.{operands_at}
use Rattle.vx_group_states.specs.declared.site.Site.{Site}
use Rattle.vx_group_states.proofs.Operands.{item_held, operand_there}
use Rattle.vx_group_states.proofs.SettleLaws.{stack_scope}
use Rattle.vx_heap.specs.Heap.{HeapView, IsHeap, is_held}
use Rattle.vx_list.specs.Places.{item_or}
use Rattle.vx_ready.specs.Running.{IsRunning}
use Rattle.vx_space.specs.Sets.{Extends, Sets}
use Rattle.vx_value.specs.Slot.{slot_cmp}
use Rattle.vx_value.specs.declared.slot.Slot.{Slot}
use Rattle.vx_value.specs.declared.slot.Slot.TheVariants.{Top}
use Rattle.vx_arrays.proofs.Placed.{place_held-extends}

-- an operand of a group, read off the frame that the group lent
module _ {S I : Type 0} (sets : Sets I) (group : GroupView S I) (top : Frame S I) (v : IsGroup sets group) (same : top ≡ group.top) (n i k : ℕ) (cond : Conditional Slot S I) (count : n ≡ length top.stack.conds) (e : Some cond ≡ slice_get top.stack.conds i) (l : k + suc i ≡ n) where
  got : IsCond slot_cmp sets cond × (cond.scope ≡ top.stack.scope)
  got = IsRow-get slot_cmp sets top.stack i cond (subst (λ (t : Frame S I). IsRow slot_cmp sets t.stack) (sym same) (IsFrame-stack sets group.top (IsGroup-top sets group v))) e

  pub operand_is_cond : IsCond slot_cmp sets cond
  operand_is_cond = got.0

  pub operand_scope : cond.scope ≡ path_of group
  operand_scope = got.1 ∙ ap (λ (t : Frame S I). t.stack.scope) same ∙ stack_scope sets group v

  pub operand_is : (c : List Bool) → slot_at sets cond c ≡ item_or (operands_at sets group.top.stack c) k Top
  operand_is c = sym (operand_there sets top.stack i k cond c e (l ∙ count)) ∙ ap (λ (t : Frame S I). item_or (operands_at sets t.stack c) k Top) same

  pub operand_value : (c : List Bool) → sets.test (path_of group) c ≡ true → cond_at sets cond c ≡ Some (item_or (operands_at sets group.top.stack c) k Top)
  operand_value c t = value_there Top slot_cmp sets cond c operand_is_cond (ap (λ j. sets.test j c) operand_scope ∙ t) ∙ ap Some (operand_is c)

-- places in the path of a group, told over the earlier space
pub places_held : {S I : Type 0} {s0 s1 : Sets I} → Extends s0 s1 → (heap : HeapView S I) → IsHeap s0 heap → (group : GroupView S I) → IsGroup s0 group → (places : Conditional Place S I) (f : List Bool → Place) → places.scope ≡ path_of group → ((c : List Bool) → s0.test (path_of group) c ≡ true → place_at s1 places c ≡ f c) → ((c : List Bool) → s0.test (path_of group) c ≡ true → is_place_held s0 heap c (f c) ≡ true) → ArePlacesHeld s1 heap places
places_held {s0 = s0} {s1 = s1} e heap v group alone places f scope at held = record {
  held = λ c t.
      let inside : s0.test (path_of group) c ≡ true = sym (e.test (path_of group) c (IsGroup-path_known s0 group alone)) ∙ ap (λ i. s1.test i c) (sym scope) ∙ t in
      ap (is_place_held s1 heap c) (at c inside) ∙ place_held-extends e heap v c (f c) ∙ held c inside;
}

-- an operand names what is there
pub operand_held : {S I : Type 0} (site : Site) (sets : Sets I) (heap : HeapView S I) (group : GroupView S I) (k : ℕ) → IsRunning site sets heap group → (c : List Bool) → sets.test (path_of group) c ≡ true → is_held sets heap c (item_or (operands_at sets group.top.stack c) k Top) ≡ true
operand_held site sets heap group k r c t = item_held sets heap c (operands_at sets group.top.stack c) k (r.held c t)
