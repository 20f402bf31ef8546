-- Places and answers that are made of the operands of a group, at one configuration.
use Rattle.std.proofs.Common.{◌≡◌, ℕ, Bool, true, false, List, refl, ◌∙◌, ap, length, if◌then◌else◌}
use Rattle.std.proofs.lemmas.Bool.{lt-ltb}
use Rattle.std.specs.Prelude.{Option, None, Some, is_some, unwrap_or}
use Rattle.vx_cells.specs.Places.{place_cmp, place_if}
use Rattle.vx_cells.specs.Through.{IsAnswered, IsGivenFrom, IsPass, is_cell, is_place_held, place_at}
use Rattle.vx_cells.specs.declared.place.Place.{Place}
use Rattle.vx_cells.specs.declared.place.Place.TheVariants as place
use Rattle.vx_cond.specs.Cond.{Conditional, IsCond, cond_at}
use Rattle.vx_cond.proofs.SideLaws.{cond_at-covers}
use Rattle.vx_group_states.specs.Answering.{is_answer_held}
use Rattle.vx_group_states.specs.declared.answer.Answer.{Answer}
use Rattle.vx_heap.specs.Heap.{HeapView, is_held, object_in}
use Rattle.vx_heap.proofs.HeapLaws.{is_held-extends}
use Rattle.vx_heap.specs.Heap.{IsHeap}
use Rattle.vx_java.specs.Checks.{is_within}
use Rattle.vx_java.specs.declared.operation.Element.{Element}
use Rattle.vx_link.specs.declared.program.Program.{Program}
use Rattle.vx_space.specs.Sets.{Extends, Sets}
use Rattle.vx_value.specs.declared.slot.Slot.{Slot}
use Rattle.vx_value.specs.declared.slot.Slot.TheVariants.{Top, Int, Long, Null, Ref, Text}
use Rattle.vx_arrays.specs.Elements.{element_place, is_array_at, may_have, place_for, stored_place}

-- ---- outside of the scope there is no cell

none_there : (o : Option Place) → is_some o ≡ false → is_cell (unwrap_or o place.Illegal) ≡ false
none_there None h = refl
none_there (Some x) h = cc h

pub no_cell : {S I : Type 0} (sets : Sets I) (places : Conditional Place S I) (c : List Bool) → IsCond place_cmp sets places → sets.test places.scope c ≡ false → is_cell (place_at sets places c) ≡ false
no_cell sets places c v t = none_there (cond_at sets places c) (cond_at-covers place_cmp sets places v c ∙ t)

-- ---- places that are held

module _ {S I : Type 0} (sets : Sets I) (heap : HeapView S I) (c : List Bool) where
  held_if : (b : Bool) (x y : Place) → is_place_held sets heap c x ≡ true → is_place_held sets heap c y ≡ true → is_place_held sets heap c (if b then x else y) ≡ true
  held_if true x y h k = h
  held_if false x y h k = k

  -- the place where an element is, if the array is held
  pub element_held : (p : Program) (e : Element) (index array : Slot) → is_held sets heap c array ≡ true → is_place_held sets heap c (element_place p heap e index array) ≡ true
  element_held p e (Int i) (Ref r) h = held_if (is_array_at p heap e (Ref r)) _ place.Illegal (held_if (is_within i (object_in heap r).length) (place.At r _) (place.Outside i) h refl) refl
  element_held p e (Int i) Null h = refl
  element_held p e (Int i) Top h = refl
  element_held p e (Int i) (Int n) h = refl
  element_held p e (Int i) (Long n) h = refl
  element_held p e (Int i) (Text n) h = refl
  element_held p e Top array h = refl
  element_held p e (Long n) array h = refl
  element_held p e Null array h = refl
  element_held p e (Ref r) array h = refl
  element_held p e (Text n) array h = refl

  -- and where its value has room
  pub room_held : (x : Place) (b : Bool) → is_place_held sets heap c x ≡ true → is_place_held sets heap c (place_if x b) ≡ true
  room_held x true h = h
  room_held x false h = refl

  for_held : (p : Program) (e : Element) (v : Slot) (x : Place) → is_place_held sets heap c x ≡ true → is_place_held sets heap c (place_for p heap e v x) ≡ true
  for_held p e v place.Illegal h = refl
  for_held p e v place.Null h = refl
  for_held p e v (place.Outside i) h = refl
  for_held p e v place.Refused h = refl
  for_held p e v (place.At r i) h = held_if (may_have p heap e r v) (place.At r i) place.Refused h refl

  -- and where a value is stored
  pub stored_held : (p : Program) (e : Element) (v : Slot) (x : Place) → is_place_held sets heap c x ≡ true → is_place_held sets heap c (stored_place p heap e v x) ≡ true
  stored_held p e v x h = held_if _ (place_for p heap e v x) place.Illegal (for_held p e v x h) refl

  -- ---- answers that are held

  pub placed_held : (p : Program) (cell : ℕ → ℕ → Answer → Type 0) (x : Place) (a : Answer) → ((r i : ℕ) → cell r i a → is_answer_held sets heap c a ≡ true) → IsAnswered p heap cell x a → is_answer_held sets heap c a ≡ true
  placed_held p cell place.Illegal a law is = ap (is_answer_held sets heap c) is
  placed_held p cell place.Null a law is = ap (is_answer_held sets heap c) is
  placed_held p cell (place.Outside i) a law is = ap (is_answer_held sets heap c) is.is ∙ lt-ltb is.text (length heap.texts) is.number.known
  placed_held p cell place.Refused a law is = ap (is_answer_held sets heap c) is
  placed_held p cell (place.At r i) a law is = law r i is

  pub pass_held : (r i : ℕ) (a : Answer) → IsPass r i a → is_answer_held sets heap c a ≡ true
  pass_held r i a is = ap (is_answer_held sets heap c) is

-- over a later space
pub give_held : {S I : Type 0} {s0 s1 : Sets I} → Extends s0 s1 → (heap : HeapView S I) → IsHeap s0 heap → (c : List Bool) (r i : ℕ) (a : Answer) → IsGivenFrom s0 heap c r i a → is_answer_held s1 heap c a ≡ true
give_held {s1 = s1} e heap v c r i a is = ap (is_answer_held s1 heap c) is.is ∙ is_held-extends e heap v c is.slot ∙ is.held

pub place_held-extends : {S I : Type 0} {s0 s1 : Sets I} → Extends s0 s1 → (heap : HeapView S I) → IsHeap s0 heap → (c : List Bool) (x : Place) → is_place_held s1 heap c x ≡ is_place_held s0 heap c x
place_held-extends e heap v c place.Illegal = refl
place_held-extends e heap v c place.Null = refl
place_held-extends e heap v c (place.Outside i) = refl
place_held-extends e heap v c place.Refused = refl
place_held-extends e heap v c (place.At r i) = is_held-extends e heap v c (Ref r)
