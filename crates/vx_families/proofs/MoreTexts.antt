-- A heap to whose table texts were added: what stands in groups over it, and what families are given of it.
use Rattle.std.proofs.Common.{◌≡◌, ℕ, Bool, true, List, [], ◌∷◌, refl, sym, ◌∙◌, ap, subst, map, length}
use Rattle.std.proofs.lemmas.Bool.{lt-ltb, ltb-true}
use Rattle.std.specs.Prelude.{Option, Some}
use Rattle.std.specs.List.{list_all}
use Rattle.vx_value.specs.declared.slot.Slot.{Slot}
use Rattle.vx_value.specs.declared.slot.Slot.TheVariants.{Top, Int, Long, Null, Ref, Text}
use Rattle.vx_value.specs.Texts.{Extends as TextsExtend}
use Rattle.vx_space.specs.Sets.{Sets}
use Rattle.vx_frame.specs.Frame.{PlainFrame, frame_at}
use Rattle.vx_group.specs.declared.callers.Caller.{Caller}
use Rattle.vx_group.specs.Callers.{callers_of, frames_at}
use Rattle.vx_group.specs.Group.{GroupView, path_of, stack_of}
use Rattle.vx_heap.specs.Heap.{HeapView, IsHeap, IsHeapFor, IsTextPut, are_held, globals_at, is_held, value_of}
use Rattle.vx_heap.proofs.Growing.{Grows-more_texts}
use Rattle.vx_heap.proofs.MoreTexts.{KeepsPlain-texts}
use Rattle.vx_java.specs.Machine.{Text as TextValue}
use Rattle.vx_link.specs.declared.program.Program.{Program}
use Rattle.vx_group_states.specs.Stands.{Grows, IsMessage, StandsIn, frame_held, message_of, plain_frame, state_at, state_of}
use Rattle.vx_group_states.proofs.StateLaws.{both, both_first, both_second}
use Rattle.vx_families.specs.Texts.{HasMoreTexts}

-- what `put_text` does
pub HasMoreTexts-put : {S I : Type 0} (before after : HeapView S I) (units : List ℕ) (number : ℕ) → IsTextPut before units number after → HasMoreTexts before after
HasMoreTexts-put before after units number h = record { same = h.same; earlier = h.earlier }

pub HasMoreTexts-refl : {S I : Type 0} (heap : HeapView S I) → HasMoreTexts heap heap
HasMoreTexts-refl heap = record { same = refl; earlier = λ n h. record { known = h; text = refl } }

pub HasMoreTexts-trans : {S I : Type 0} (before between after : HeapView S I) → HasMoreTexts before between → HasMoreTexts between after → HasMoreTexts before after
HasMoreTexts-trans {S = S} {I = I} before between after f g = record {
  same = g.same ∙ (let with_texts : HeapView S I → HeapView S I = λ heap. record heap { texts = after.texts } in ap with_texts f.same);
  earlier = λ n h.
      let first = f.earlier n h in
      let later = g.earlier n first.known in
      record { known = later.known; text = later.text ∙ first.text };
}

-- the text that was put is the message of its number
pub put_message : {S I : Type 0} (before after : HeapView S I) (units : List ℕ) (number : ℕ) → IsTextPut before units number after → message_of after (Some number) ≡ Some units
put_message before after units number h = ap Some h.text.text

pub put_known : {S I : Type 0} (before after : HeapView S I) (units : List ℕ) (number : ℕ) → IsTextPut before units number after → IsMessage after (Some number)
put_known before after units number h = h.text.known

-- ---- plain frames

module _ {S I : Type 0} (heap : HeapView S I) (texts : List (List ℕ)) (more : TextsExtend heap.texts texts) (sets : Sets I) (c : List Bool) where
  held_more : (slot : Slot) → is_held sets heap c slot ≡ true → is_held sets (record heap { texts = texts }) c slot ≡ true
  held_more Top h = refl
  held_more (Int n) h = refl
  held_more (Long n) h = refl
  held_more Null h = refl
  held_more (Ref i) h = h
  held_more (Text n) h = lt-ltb n (length texts) (more n (ltb-true n (length heap.texts) h)).known

  value_more : (slot : Slot) → is_held sets heap c slot ≡ true → value_of sets (record heap { texts = texts }) c slot ≡ value_of sets heap c slot
  value_more Top h = refl
  value_more (Int n) h = refl
  value_more (Long n) h = refl
  value_more Null h = refl
  value_more (Ref i) h = refl
  value_more (Text n) h = ap TextValue (more n (ltb-true n (length heap.texts) h)).text

  are_held_more : (slots : List Slot) → are_held sets heap c slots ≡ true → are_held sets (record heap { texts = texts }) c slots ≡ true
  are_held_more [] h = refl
  are_held_more (slot ∷ slots) h = both _ _ (held_more slot (both_first (is_held sets heap c slot) _ h)) (are_held_more slots (both_second (is_held sets heap c slot) _ h))

  values_more : (slots : List Slot) → are_held sets heap c slots ≡ true → map (value_of sets (record heap { texts = texts }) c) slots ≡ map (value_of sets heap c) slots
  values_more [] h = refl
  values_more (slot ∷ slots) h = λ i. value_more slot (both_first (is_held sets heap c slot) _ h) i ∷ values_more slots (both_second (is_held sets heap c slot) _ h) i

  frame_held_more : (f : PlainFrame) → frame_held sets heap c f ≡ true → frame_held sets (record heap { texts = texts }) c f ≡ true
  frame_held_more f h = both _ _ (are_held_more f.locals (both_first (are_held sets heap c f.locals) _ h)) (are_held_more f.operands (both_second (are_held sets heap c f.locals) _ h))

  frame_more : (f : PlainFrame) → frame_held sets heap c f ≡ true → plain_frame sets (record heap { texts = texts }) c f ≡ plain_frame sets heap c f
  frame_more f h =
      let locals = values_more f.locals (both_first (are_held sets heap c f.locals) _ h) in
      let operands = values_more f.operands (both_second (are_held sets heap c f.locals) _ h) in
      λ i. record { kind = f.kind; method = f.method; position = f.position; locals = locals i; operands = operands i }

  frames_held_more : (fs : List PlainFrame) → list_all (frame_held sets heap c) fs ≡ true → list_all (frame_held sets (record heap { texts = texts }) c) fs ≡ true
  frames_held_more [] h = refl
  frames_held_more (f ∷ fs) h = both _ _ (frame_held_more f (both_first (frame_held sets heap c f) _ h)) (frames_held_more fs (both_second (frame_held sets heap c f) _ h))

  frames_more : (fs : List PlainFrame) → list_all (frame_held sets heap c) fs ≡ true → map (plain_frame sets (record heap { texts = texts }) c) fs ≡ map (plain_frame sets heap c) fs
  frames_more [] h = refl
  frames_more (f ∷ fs) h = λ i. frame_more f (both_first (frame_held sets heap c f) _ h) i ∷ frames_more fs (both_second (frame_held sets heap c f) _ h) i

-- ---- groups

stands_more : {S I : Type 0} (p : Program) (sets : Sets I) (heap : HeapView S I) (texts : List (List ℕ)) (tree : List (Option (Caller S I))) (group : GroupView S I) → TextsExtend heap.texts texts → StandsIn p sets heap tree group → StandsIn p sets (record heap { texts = texts }) tree group
stands_more p sets heap texts tree group more s = record {
  is_group = s.is_group;
  runs = s.runs;
  held = λ c t. frames_held_more heap texts more sets c (frames_at sets (stack_of tree group) c) (s.held c t);
  shaped = s.shaped;
}

state_more : {S I : Type 0} (p : Program) (sets : Sets I) (heap : HeapView S I) (texts : List (List ℕ)) (tree : List (Option (Caller S I))) (group : GroupView S I) → TextsExtend heap.texts texts → IsHeap sets heap → StandsIn p sets heap tree group → (c : List Bool) → sets.test (path_of group) c ≡ true → state_at sets (record heap { texts = texts }) tree group c ≡ state_at sets heap tree group c
state_more p sets heap texts tree group more v s c t =
    let globals : globals_at sets (record heap { texts = texts }) c ≡ globals_at sets heap c = (KeepsPlain-texts heap texts more sets v).1 c in
    let top = frame_more heap texts more sets c (frame_at sets group.top c) (both_first (frame_held sets heap c (frame_at sets group.top c)) _ (s.held c t)) in
    let callers = frames_more heap texts more sets c (frames_at sets (callers_of tree (length group.below) group.caller) c) (both_second (frame_held sets heap c (frame_at sets group.top c)) _ (s.held c t)) in
    λ i. state_of (globals i) (top i) (callers i)

-- a group stands over the later heap too
pub StandsIn-texts : {S I : Type 0} (p : Program) (sets : Sets I) (before after : HeapView S I) (tree : List (Option (Caller S I))) (group : GroupView S I) → HasMoreTexts before after → StandsIn p sets before tree group → StandsIn p sets after tree group
StandsIn-texts {S = S} {I = I} p sets before after tree group m s =
    let P : HeapView S I → Type 0 = λ heap. StandsIn p sets heap tree group in
    subst P (sym m.same) (stands_more p sets before after.texts tree group m.earlier s)

-- and the same state stands at each configuration
pub state_at-texts : {S I : Type 0} (p : Program) (sets : Sets I) (before after : HeapView S I) (tree : List (Option (Caller S I))) (group : GroupView S I) → HasMoreTexts before after → IsHeap sets before → StandsIn p sets before tree group → (c : List Bool) → sets.test (path_of group) c ≡ true → state_at sets after tree group c ≡ state_at sets before tree group c
state_at-texts {S = S} {I = I} p sets before after tree group m v s c t =
    let P : HeapView S I → Type 0 = λ heap. state_at sets heap tree group c ≡ state_at sets before tree group c in
    subst P (sym m.same) (state_more p sets before after.texts tree group m.earlier v s c t)

-- what a frame names is there in the later heap too
pub frame_held-texts : {S I : Type 0} (sets : Sets I) (before after : HeapView S I) → HasMoreTexts before after → (c : List Bool) (f : PlainFrame) → frame_held sets before c f ≡ true → frame_held sets after c f ≡ true
frame_held-texts {S = S} {I = I} sets before after m c f h =
    let P : HeapView S I → Type 0 = λ heap. frame_held sets heap c f ≡ true in
    subst P (sym m.same) (frame_held_more before after.texts m.earlier sets c f h)

-- ---- heaps

pub IsHeap-texts : {S I : Type 0} (sets : Sets I) (before after : HeapView S I) → HasMoreTexts before after → IsHeap sets before → IsHeap sets after
IsHeap-texts {S = S} {I = I} sets before after m v =
    let P : HeapView S I → Type 0 = λ heap. IsHeap sets heap in
    subst P (sym m.same) (KeepsPlain-texts before after.texts m.earlier sets v).0

pub globals_at-texts : {S I : Type 0} (sets : Sets I) (before after : HeapView S I) → HasMoreTexts before after → IsHeap sets before → (c : List Bool) → globals_at sets after c ≡ globals_at sets before c
globals_at-texts {S = S} {I = I} sets before after m v c =
    let P : HeapView S I → Type 0 = λ heap. globals_at sets heap c ≡ globals_at sets before c in
    subst P (sym m.same) ((KeepsPlain-texts before after.texts m.earlier sets v).1 c)

pub IsHeapFor-texts : {S I : Type 0} (p : Program) (before after : HeapView S I) → HasMoreTexts before after → IsHeapFor p before → IsHeapFor p after
IsHeapFor-texts {S = S} {I = I} p before after m v =
    let P : HeapView S I → Type 0 = λ heap. IsHeapFor p heap in
    subst P (sym m.same) (record { static_count = v.static_count; init_count = v.init_count; literals = v.literals; resolved = v.resolved; words = v.words; enough = v.enough; first = v.first })

pub Grows-texts : {S I : Type 0} (before after : HeapView S I) → HasMoreTexts before after → Grows before after
Grows-texts {S = S} {I = I} before after m =
    let P : HeapView S I → Type 0 = λ heap. Grows before heap in
    subst P (sym m.same) (Grows-more_texts before after.texts m.earlier)
