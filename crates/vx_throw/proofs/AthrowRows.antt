-- What athrow makes of a slot is what its row makes of the plain value.
use Rattle.std.proofs.Common.{◌≡◌, ℕ, ◌<◌, ◌≤◌, Bool, true, false, List, [], ◌∷◌, refl, ◌∙◌, ap, arith, drop, map, length, if◌then◌else◌}
use Rattle.std.specs.Prelude.{None, Option, Some}
use Rattle.vx_frames.proofs.ClassLaws.{class_there}
use Rattle.vx_group_states.specs.Answering.{answered, is_answer_held}
use Rattle.vx_group_states.specs.declared.answer.Answer.TheVariants as answer
use Rattle.vx_group_states.proofs.Operands.{item_held}
use Rattle.vx_heap.specs.Heap.{HeapView, are_held, class_at_slot, is_held, name_at, objects_at, value_of}
use Rattle.vx_java.specs.Machine.{Here, Raise, Throw, Value, illegal, no_object, when}
use Rattle.vx_java.specs.Objects.{throw_top}
use Rattle.vx_link.specs.Assignability.{assignable}
use Rattle.vx_link.specs.ClassNames.{core_class}
use Rattle.vx_link.specs.declared.program.Program.{Program}
use Rattle.vx_list.specs.Places.{item_or}
use Rattle.vx_space.specs.Sets.{Sets}
use Rattle.vx_value.specs.declared.ids.ClassId.{ClassId}
use Rattle.vx_value.specs.declared.slot.Slot.{Slot}
use Rattle.vx_value.specs.declared.slot.Slot.TheVariants.{Top, Int, Long, Null, Ref, Text}
use Rattle.vx_throw.specs.Thrown.{thrown, thrown_if}

one_thrown : {S I : Type 0} (sets : Sets I) (heap : HeapView S I) (c : List Bool) (h : Here) (rest : List Value) (throwable null : ClassId) (slot : Slot) → h.state.heap ≡ objects_at sets heap c → is_held sets heap c slot ≡ true → throwable.0 ≡ core_class h.program "java/lang/Throwable" → null.0 ≡ core_class h.program "java/lang/NullPointerException" → answered sets heap c h rest (thrown h.program heap throwable.0 null slot) ≡ throw_top h (value_of sets heap c slot ∷ rest)
one_thrown sets heap c h rest throwable null Top over t e f = refl
one_thrown sets heap c h rest throwable null (Int n) over t e f = refl
one_thrown sets heap c h rest throwable null (Long n) over t e f = refl
one_thrown sets heap c h rest throwable null Null over t e f = ap (λ k. Raise k None h.state) f
one_thrown sets heap c h rest throwable null (Ref r) over t e f =
    let name = name_at sets heap.objects c r in
    let class = (item_or h.state.heap name no_object).class in
    ap (λ (o : Option ClassId). answered sets heap c h rest (thrown_if h.program throwable.0 (Ref r) o)) (class_there sets heap c r h.state.heap over t)
    ∙ cases (assignable h.program class throwable.0)
    ∙ ap (λ k. when (assignable h.program class k) (Throw name h.state) (illegal h)) e
  where
    cases : (b : Bool) → answered sets heap c h rest (if b then answer.Throw (Ref r) else answer.Illegal) ≡ when b (Throw (name_at sets heap.objects c r) h.state) (illegal h)
    cases true = refl
    cases false = refl
one_thrown sets heap c h rest throwable null (Text n) over t e f = refl

pub thrown_row : {S I : Type 0} (sets : Sets I) (heap : HeapView S I) (c : List Bool) (h : Here) (throwable null : ClassId) (slots : List Slot) → h.state.heap ≡ objects_at sets heap c → throwable.0 ≡ core_class h.program "java/lang/Throwable" → null.0 ≡ core_class h.program "java/lang/NullPointerException" → 1 ≤ length slots → are_held sets heap c slots ≡ true → answered sets heap c h (drop 1 (map (value_of sets heap c) slots)) (thrown h.program heap throwable.0 null (item_or slots 0 Top)) ≡ throw_top h (map (value_of sets heap c) slots)
thrown_row sets heap c h throwable null [] over e f some held = absurd (omega (arith, some))
thrown_row sets heap c h throwable null (slot ∷ rest) over e f some held = one_thrown sets heap c h (map (value_of sets heap c) rest) throwable null slot over (item_held sets heap c (slot ∷ rest) 0 held) e f

pub thrown_none : (h : Here) (operands : List Value) → length operands < 1 → illegal h ≡ throw_top h operands
thrown_none h [] few = refl
thrown_none h (v ∷ rest) few = absurd (omega (arith, few))

pub thrown_held : {S I : Type 0} (sets : Sets I) (heap : HeapView S I) (c : List Bool) (p : Program) (throwable : ℕ) (null : ClassId) (slot : Slot) → is_held sets heap c slot ≡ true → is_answer_held sets heap c (thrown p heap throwable null slot) ≡ true
thrown_held sets heap c p throwable null Top t = refl
thrown_held sets heap c p throwable null (Int n) t = refl
thrown_held sets heap c p throwable null (Long n) t = refl
thrown_held sets heap c p throwable null Null t = refl
thrown_held sets heap c p throwable null (Ref r) t = of_class (class_at_slot heap (Ref r))
  where
    cases : (b : Bool) → is_answer_held sets heap c (if b then answer.Throw (Ref r) else answer.Illegal) ≡ true
    cases true = t
    cases false = refl

    of_class : (o : Option ClassId) → is_answer_held sets heap c (thrown_if p throwable (Ref r) o) ≡ true
    of_class None = refl
    of_class (Some class) = cases (assignable p class.0 throwable)
thrown_held sets heap c p throwable null (Text n) t = refl
