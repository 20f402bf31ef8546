-- The places of fields, at each configuration of a group.
use Rattle.std.proofs.Common.{◌≡◌, ℕ, ◌+◌, Bool, true, false, List, [], ◌∷◌, refl, sym, ◌∙◌, ap, drop, if◌then◌else◌}
use Rattle.std.specs.Prelude.{Option, Some, None, is_some, nat_le, unwrap_or}
use Rattle.vx_cells.specs.Places.{place_cmp, place_if}
use Rattle.vx_cells.specs.Through.{ArePlacesHeld, is_place_held, place_at}
use Rattle.vx_cells.specs.declared.place.Place.{Place}
use Rattle.vx_cells.specs.declared.place.Place.TheVariants as place
use Rattle.vx_cond.specs.Cond.{Conditional, IsCond, IsCondLifting2, cond_at}
use Rattle.vx_cond.specs.Leaves.{IsLifted2}
use Rattle.vx_cond.specs.Slots.{slot_at}
use Rattle.vx_cond.proofs.CondLaws.{IsCond-extends, cond_at-extends}
use Rattle.vx_cond.proofs.SideLaws.{cond_at-covers}
use Rattle.vx_families.specs.Attempts.{IsGiven}
use Rattle.vx_families.proofs.Given.{IsGiven-extends, given_operands_held}
use Rattle.vx_families.proofs.Tops.{lifting2_at}
use Rattle.vx_families.specs.Sorts.{narrowed_slot, top_of}
use Rattle.vx_fields.proofs.Storing.{stored_held}
use Rattle.vx_group.specs.Group.{GroupView, path_of}
use Rattle.vx_group.proofs.GroupLaws.{IsGroup-path_known}
use Rattle.vx_group_states.specs.Answering.{operands_at}
use Rattle.vx_group_states.specs.Widths.{slots_size}
use Rattle.vx_group_states.specs.declared.site.Site.{Site}
use Rattle.vx_group_states.proofs.Operands.{item_held}
use Rattle.vx_heap.specs.Changing.{IsValueHeld}
use Rattle.vx_heap.specs.Heap.{HeapView, IsHeap, is_held}
use Rattle.vx_heap.proofs.HeapLaws.{is_held-extends}
use Rattle.vx_java.specs.declared.operation.Operation.{Operation}
use Rattle.vx_link.specs.declared.program.Program.{Program}
use Rattle.vx_list.specs.Places.{item_or}
use Rattle.vx_objects.specs.Answers.{field_place, is_instance}
use Rattle.vx_ready.specs.Running.{IsRunning}
use Rattle.vx_ready.proofs.Going.{operands_later}
use Rattle.vx_space.specs.Sets.{Extends, Sets}
use Rattle.vx_space.proofs.Spaces.{Extends-trans}
use Rattle.vx_value.specs.declared.operation.Narrow.{Narrow}
use Rattle.vx_value.specs.declared.slot.Slot.{Slot}
use Rattle.vx_value.specs.declared.slot.Slot.TheVariants.{Top, Int, Long, Null, Ref, Text}

pub first_is : (slots : List Slot) → item_or slots 0 Top ≡ top_of slots
first_is [] = refl
first_is (slot ∷ rest) = refl

-- the object of a field's place is there, if its slot is
pub field_held : {S I : Type 0} (sets : Sets I) (heap : HeapView S I) (c : List Bool) (p : Program) (named cell : ℕ) (slot : Slot) (b : Bool) → is_held sets heap c slot ≡ true → is_place_held sets heap c (place_if (field_place p heap named cell slot) b) ≡ true
field_held sets heap c p named cell slot false t = refl
field_held sets heap c p named cell Top true t = refl
field_held sets heap c p named cell (Int n) true t = refl
field_held sets heap c p named cell (Long n) true t = refl
field_held sets heap c p named cell Null true t = refl
field_held sets heap c p named cell (Text n) true t = refl
field_held sets heap c p named cell (Ref r) true t = cases (is_instance p heap named (Ref r))
  where
    cases : (b : Bool) → is_place_held sets heap c (if b then place.At r cell else place.Illegal) ≡ true
    cases true = t
    cases false = refl

lifted_pair : {T U V : Type 0} (none : V) (R : T → U → V → Type 0) (f : T → U → V) (a : Option T) (b : Option U) (o : Option V) (x : T) (y : U) → ((x : T) (y : U) (v : V) → R x y v → v ≡ f x y) → a ≡ Some x → b ≡ Some y → IsLifted2 R a b o → unwrap_or o none ≡ f x y
lifted_pair none R f None b o x y law e g l = cc
lifted_pair none R f (Some a) None o x y law e g l = cc
lifted_pair none R f (Some a) (Some b) None x y law e g l = absurd l
lifted_pair none R f (Some a) (Some b) (Some v) x y law e g l =
    let first : a ≡ x = cc in
    let second : b ≡ y = cc in
    law a b v l ∙ (λ i. f (first i) (second i))

some_there : {T : Type 0} (o : Option T) (d : T) → is_some o ≡ true → o ≡ Some (unwrap_or o d)
some_there None d h = cc h
some_there (Some x) d h = refl

-- ---- getfield

module _ {S I : Type 0} (site : Site) (s0 s1 s2 s3 : Sets I) (heap : HeapView S I) (group : GroupView S I) (named cell width : ℕ) (places : Conditional Place S I) (rooms : Conditional Bool S I) (within : Conditional Place S I) (running : IsRunning site s0 heap group) (e01 : Extends s0 s1) (valid : IsCond place_cmp s1 places) (scope : places.scope ≡ path_of group) (at : (c : List Bool) → s0.test (path_of group) c ≡ true → place_at s1 places c ≡ field_place site.program.now heap named cell (item_or (operands_at s0 group.top.stack c) 0 Top)) (e12 : Extends s1 s2) (room : (c : List Bool) → s1.test (path_of group) c ≡ true → cond_at s2 rooms c ≡ Some (nat_le (width + slots_size (drop 1 (operands_at s1 group.top.stack c))) site.code.now.max_stack)) (R : Place → Bool → Place → Type 0) (law : (p : Place) (b : Bool) (q : Place) → R p b q → q ≡ place_if p b) (e23 : Extends s2 s3) (lifting : IsCondLifting2 place_cmp s3 R (cond_at s2 places) (cond_at s2 rooms) within) where
  path_known : s0.is_known (path_of group) ≡ true
  path_known = IsGroup-path_known s0 group running.is_group

  pub read_at : (c : List Bool) → s0.test (path_of group) c ≡ true → place_at s3 within c ≡ place_if (field_place site.program.now heap named cell (item_or (operands_at s0 group.top.stack c) 0 Top)) (nat_le (width + slots_size (drop 1 (operands_at s0 group.top.stack c))) site.code.now.max_stack)
  read_at c t =
      let later : s1.test (path_of group) c ≡ true = e01.test (path_of group) c path_known ∙ t in
      let covered : is_some (cond_at s1 places c) ≡ true = cond_at-covers place_cmp s1 places valid c ∙ ap (λ i. s1.test i c) scope ∙ later in
      lifted_pair place.Illegal R place_if (cond_at s2 places c) (cond_at s2 rooms c) (cond_at s3 within c) _ _ law
      (cond_at-extends place_cmp e12 places valid c ∙ some_there (cond_at s1 places c) place.Illegal covered ∙ ap Some (at c t))
      (room c later ∙ ap (λ slots. Some (nat_le (width + slots_size (drop 1 slots)) site.code.now.max_stack)) (operands_later e01 group running.is_group c))
      (lifting2_at place_cmp s3 R (cond_at s2 places) (cond_at s2 rooms) within lifting c)

  pub read_held : within.scope ≡ path_of group → (c : List Bool) → s3.test within.scope c ≡ true → is_place_held s3 heap c (place_at s3 within c) ≡ true
  read_held same c t =
      let e03 = Extends-trans e01 (Extends-trans e12 e23) in
      let inside : s0.test (path_of group) c ≡ true = sym (e03.test (path_of group) c path_known) ∙ ap (λ i. s3.test i c) (sym same) ∙ t in
      let slot = item_or (operands_at s0 group.top.stack c) 0 Top in
      ap (is_place_held s3 heap c) (read_at c inside)
      ∙ field_held s3 heap c site.program.now named cell slot _ (is_held-extends e03 heap running.is_heap c slot ∙ item_held s0 heap c (operands_at s0 group.top.stack c) 0 (running.held c inside))

-- ---- putfield

pub written_held : {S I : Type 0} (site : Site) (s0 s1 : Sets I) (heap : HeapView S I) (group : GroupView S I) (named cell : ℕ) (fits : List Bool → Bool) (places : Conditional Place S I) → IsRunning site s0 heap group → Extends s0 s1 → places.scope ≡ path_of group → ((c : List Bool) → s0.test (path_of group) c ≡ true → place_at s1 places c ≡ place_if (field_place site.program.now heap named cell (item_or (operands_at s0 group.top.stack c) 1 Top)) (fits c)) → (c : List Bool) → s1.test places.scope c ≡ true → is_place_held s1 heap c (place_at s1 places c) ≡ true
written_held site s0 s1 heap group named cell fits places running e scope at c t =
    let inside : s0.test (path_of group) c ≡ true = sym (e.test (path_of group) c (IsGroup-path_known s0 group running.is_group)) ∙ ap (λ i. s1.test i c) (sym scope) ∙ t in
    let slot = item_or (operands_at s0 group.top.stack c) 1 Top in
    ap (is_place_held s1 heap c) (at c inside)
    ∙ field_held s1 heap c site.program.now named cell slot (fits c) (is_held-extends e heap running.is_heap c slot ∙ item_held s0 heap c (operands_at s0 group.top.stack c) 1 (running.held c inside))

-- objects of places are there over a later space
pub places_later : {S I : Type 0} {s0 s1 : Sets I} (heap : HeapView S I) (places : Conditional Place S I) → Extends s0 s1 → IsHeap s0 heap → IsCond place_cmp s0 places → ArePlacesHeld s0 heap places → ArePlacesHeld s1 heap places
places_later {S = S} {I = I} {s0 = s0} {s1 = s1} heap places e v valid held = record {
  held = λ c t.
      ap (λ o. is_place_held s1 heap c (unwrap_or o place.Illegal)) (cond_at-extends place_cmp e places valid c)
      ∙ later c (place_at s0 places c)
      ∙ held.held c (sym (cond_at-covers place_cmp s0 places valid c) ∙ ap is_some (sym (cond_at-extends place_cmp e places valid c)) ∙ cond_at-covers place_cmp s1 places (IsCond-extends place_cmp e places valid) c ∙ t);
}
  where
    later : (c : List Bool) (x : Place) → is_place_held s1 heap c x ≡ is_place_held s0 heap c x
    later c place.Illegal = refl
    later c place.Null = refl
    later c (place.Outside i) = refl
    later c place.Refused = refl
    later c (place.At r i) = is_held-extends e heap v c (Ref r)

-- the values of a store name what is there
pub values_held : {S I : Type 0} (site : Site) (operation : Operation) {s0 s1 s2 : Sets I} (heap : HeapView S I) (group : GroupView S I) (to : Option Narrow) (values : Conditional Slot S I) → IsGiven site operation s0 heap group → Extends s0 s1 → Extends s1 s2 → values.scope ≡ path_of group → ((c : List Bool) → s1.test (path_of group) c ≡ true → slot_at s2 values c ≡ narrowed_slot to (item_or (operands_at s1 group.top.stack c) 0 Top)) → IsValueHeld s2 heap values
values_held site operation {s0 = s0} {s1 = s1} heap group to values given e f scope at =
    let later = IsGiven-extends site operation heap group e given in
    record {
      held = stored_held f heap later.is_heap to (path_of group) values (operands_at s1 group.top.stack) (IsGroup-path_known s1 group later.is_group) scope
          (λ c t. at c t ∙ ap (narrowed_slot to) (first_is (operands_at s1 group.top.stack c)))
          (given_operands_held site operation s1 heap group later);
    }
