-- What instructions of objects make of slots is what their rows make of the plain values.
use Rattle.std.proofs.Common.{◌≡◌, ℕ, ℤ, ◌<◌, ◌≤◌, Bool, true, false, List, [], ◌∷◌, refl, sym, ◌∙◌, ap, arith, drop, map, length, if◌then◌else◌}
use Rattle.std.proofs.lemmas.Bool.{eq-eqb, eqb-true}
use Rattle.std.specs.Prelude.{◌↔◌, ◌==◌, ◌&&◌, None, not}
use Rattle.vx_arith.specs.Numbers.{branch_by}
use Rattle.vx_arith.specs.declared.spot.Spot.{Spot}
use Rattle.vx_arith.proofs.RowLaws.{IsSpotOf, branch_row}
use Rattle.vx_cells.proofs.ObjectClasses.{class_there}
use Rattle.vx_group_states.specs.Answering.{answered, is_answer_held}
use Rattle.vx_group_states.specs.declared.answer.Answer.TheVariants as answer
use Rattle.vx_group_states.proofs.Operands.{item_held}
use Rattle.vx_families.proofs.NameLaws.{names_tell}
use Rattle.vx_heap.specs.Heap.{HeapView, are_held, is_held, name_at, objects_at, value_of}
use Rattle.vx_java.specs.Checks.{is_of, same_bool, same_reference}
use Rattle.vx_java.specs.Jumps.{branch, if_same}
use Rattle.vx_java.specs.Machine.{Here, Raise, Value, go, illegal, no_object, push, raise, when}
use Rattle.vx_java.specs.Objects.{int_of_bool, monitor}
use Rattle.vx_java.specs.declared.operation.Sort.TheVariants.{Reference}
use Rattle.vx_link.specs.Assignability.{assignable}
use Rattle.vx_link.specs.ClassNames.{core_class}
use Rattle.vx_link.specs.declared.program.Program.{Program}
use Rattle.vx_list.specs.Places.{item_or}
use Rattle.vx_objects.specs.Answers.{cast, cast_top, compared, int_of, is_instance, is_reference, monitored, same_slots, told, told_top}
use Rattle.vx_space.specs.Sets.{Sets}
use Rattle.vx_value.specs.declared.ids.ClassId.{ClassId}
use Rattle.vx_value.specs.declared.slot.Slot.{Slot}
use Rattle.vx_value.specs.declared.slot.Slot.TheVariants.{Top, Int, Long, Null, Ref, Text}

-- ---- monitors

one_monitor : {S I : Type 0} (sets : Sets I) (heap : HeapView S I) (c : List Bool) (h : Here) (rest : List Value) (null : ClassId) (slot : Slot) → null.0 ≡ core_class h.program "java/lang/NullPointerException" → answered sets heap c h rest (monitored null slot) ≡ monitor h (value_of sets heap c slot ∷ rest)
one_monitor sets heap c h rest null Top e = refl
one_monitor sets heap c h rest null (Int n) e = refl
one_monitor sets heap c h rest null (Long n) e = refl
one_monitor sets heap c h rest null Null e = ap (λ k. Raise k None h.state) e
one_monitor sets heap c h rest null (Ref r) e = refl
one_monitor sets heap c h rest null (Text n) e = refl

pub monitor_row : {S I : Type 0} (sets : Sets I) (heap : HeapView S I) (c : List Bool) (h : Here) (null : ClassId) (slots : List Slot) → null.0 ≡ core_class h.program "java/lang/NullPointerException" → 1 ≤ length slots → answered sets heap c h (drop 1 (map (value_of sets heap c) slots)) (monitored null (item_or slots 0 Top)) ≡ monitor h (map (value_of sets heap c) slots)
monitor_row sets heap c h null [] e some = absurd (omega (arith, some))
monitor_row sets heap c h null (slot ∷ rest) e some = one_monitor sets heap c h (map (value_of sets heap c) rest) null slot e

pub monitor_none : (h : Here) (operands : List Value) → length operands < 1 → illegal h ≡ monitor h operands
monitor_none h [] few = refl
monitor_none h (v ∷ rest) few = absurd (omega (arith, few))

pub monitor_held : {S I : Type 0} (sets : Sets I) (heap : HeapView S I) (c : List Bool) (null : ClassId) (slot : Slot) → is_answer_held sets heap c (monitored null slot) ≡ true
monitor_held sets heap c null Top = refl
monitor_held sets heap c null (Int n) = refl
monitor_held sets heap c null (Long n) = refl
monitor_held sets heap c null Null = refl
monitor_held sets heap c null (Ref r) = refl
monitor_held sets heap c null (Text n) = refl

-- ---- references compared

both_true : (a b : Bool) → (a ≡ true → b ≡ true) → (b ≡ true → a ≡ true) → a ≡ b
both_true true b f g = sym (f refl)
both_true false true f g = g refl
both_true false false f g = refl

same_numbers : (a b m n : ℕ) → (a ≡ b) ↔ (m ≡ n) → (a == b) ≡ (m == n)
same_numbers a b m n e = both_true (a == b) (m == n) (λ t. eq-eqb m n (e.0 (eqb-true a b t))) (λ t. eq-eqb a b (e.1 (eqb-true m n t)))

-- two slots that are held are one reference where their values are
pub same_there : {S I : Type 0} (sets : Sets I) (heap : HeapView S I) (c : List Bool) (a b : Slot) → is_held sets heap c a ≡ true → is_held sets heap c b ≡ true → same_slots a b ≡ same_reference (value_of sets heap c a) (value_of sets heap c b)
same_there sets heap c (Ref a) (Ref b) h k = same_numbers a b (name_at sets heap.objects c a) (name_at sets heap.objects c b) (names_tell sets heap c a b h k)
same_there sets heap c (Ref a) Top h k = refl
same_there sets heap c (Ref a) (Int n) h k = refl
same_there sets heap c (Ref a) (Long n) h k = refl
same_there sets heap c (Ref a) Null h k = refl
same_there sets heap c (Ref a) (Text n) h k = refl
same_there sets heap c Null Top h k = refl
same_there sets heap c Null (Int n) h k = refl
same_there sets heap c Null (Long n) h k = refl
same_there sets heap c Null Null h k = refl
same_there sets heap c Null (Ref b) h k = refl
same_there sets heap c Null (Text n) h k = refl
same_there sets heap c Top b h k = refl
same_there sets heap c (Int n) b h k = refl
same_there sets heap c (Long n) b h k = refl
same_there sets heap c (Text n) b h k = refl

reference_there : {S I : Type 0} (sets : Sets I) (heap : HeapView S I) (c : List Bool) (slot : Slot) → is_reference slot ≡ is_of Reference (value_of sets heap c slot)
reference_there sets heap c Top = refl
reference_there sets heap c (Int n) = refl
reference_there sets heap c (Long n) = refl
reference_there sets heap c Null = refl
reference_there sets heap c (Ref r) = refl
reference_there sets heap c (Text n) = refl

wanted_same : (wanted b : Bool) → (if wanted then b else not b) ≡ same_bool wanted b
wanted_same true b = refl
wanted_same false b = refl

one_compared : {S I : Type 0} (sets : Sets I) (heap : HeapView S I) (c : List Bool) (h : Here) (spot : Spot) (rest : List Value) (wanted : Bool) (offset : ℤ) (upper lower : Slot) → IsSpotOf h spot → is_held sets heap c upper ≡ true → is_held sets heap c lower ≡ true → answered sets heap c h rest (compared spot wanted offset upper lower) ≡ if_same h wanted offset (value_of sets heap c upper ∷ value_of sets heap c lower ∷ rest)
one_compared sets heap c h spot rest wanted offset upper lower e up low =
    let same = wanted_same wanted (same_slots lower upper) ∙ ap (same_bool wanted) (same_there sets heap c lower upper low up) in
    chosen (is_reference upper) (is_reference lower)
    ∙ (λ i. when (reference_there sets heap c lower i && reference_there sets heap c upper i) (branch h (same i) offset rest) (illegal h))
  where
    taken : Bool
    taken = if wanted then same_slots lower upper else not (same_slots lower upper)

    chosen : (u l : Bool) → answered sets heap c h rest (if u then (if l then branch_by spot taken offset else answer.Illegal) else answer.Illegal) ≡ when (l && u) (branch h taken offset rest) (illegal h)
    chosen true true = branch_row sets heap c h spot rest taken offset e
    chosen true false = refl
    chosen false true = refl
    chosen false false = refl

pub compared_row : {S I : Type 0} (sets : Sets I) (heap : HeapView S I) (c : List Bool) (h : Here) (spot : Spot) (wanted : Bool) (offset : ℤ) (slots : List Slot) → IsSpotOf h spot → 2 ≤ length slots → are_held sets heap c slots ≡ true → answered sets heap c h (drop 2 (map (value_of sets heap c) slots)) (compared spot wanted offset (item_or slots 0 Top) (item_or slots 1 Top)) ≡ if_same h wanted offset (map (value_of sets heap c) slots)
compared_row sets heap c h spot wanted offset [] e some held = absurd (omega (arith, some))
compared_row sets heap c h spot wanted offset (upper ∷ []) e some held = absurd (omega (arith, some))
compared_row sets heap c h spot wanted offset (upper ∷ lower ∷ rest) e some held =
    one_compared sets heap c h spot (map (value_of sets heap c) rest) wanted offset upper lower e
    (item_held sets heap c (upper ∷ lower ∷ rest) 0 held)
    (item_held sets heap c (upper ∷ lower ∷ rest) 1 held)

pub compared_none : (h : Here) (wanted : Bool) (offset : ℤ) (operands : List Value) → length operands < 2 → illegal h ≡ if_same h wanted offset operands
compared_none h wanted offset [] few = refl
compared_none h wanted offset (v ∷ []) few = refl
compared_none h wanted offset (v ∷ w ∷ rest) few = absurd (omega (arith, few))

pub compared_held : {S I : Type 0} (sets : Sets I) (heap : HeapView S I) (c : List Bool) (spot : Spot) (wanted : Bool) (offset : ℤ) (upper lower : Slot) → is_answer_held sets heap c (compared spot wanted offset upper lower) ≡ true
compared_held sets heap c spot wanted offset upper lower = chosen (is_reference upper) (is_reference lower) (if wanted then same_slots lower upper else not (same_slots lower upper))
  where
    chosen : (u l taken : Bool) → is_answer_held sets heap c (if u then (if l then branch_by spot taken offset else answer.Illegal) else answer.Illegal) ≡ true
    chosen true true true = refl
    chosen true true false = refl
    chosen true false taken = refl
    chosen false l taken = refl

-- ---- casts of a class that is there

-- an object is of a class where the plain object of its name is
pub instance_is : {S I : Type 0} (sets : Sets I) (heap : HeapView S I) (c : List Bool) (h : Here) → h.state.heap ≡ objects_at sets heap c → (wanted r : ℕ) → is_held sets heap c (Ref r) ≡ true → is_instance h.program heap wanted (Ref r) ≡ assignable h.program (item_or h.state.heap (name_at sets heap.objects c r) no_object).class wanted
instance_is sets heap c h over wanted r t =
    class_there (λ class. assignable h.program class wanted) sets heap c r t
    ∙ ap (λ objects. assignable h.program (item_or objects (name_at sets heap.objects c r) no_object).class wanted) (sym over)

one_cast : {S I : Type 0} (sets : Sets I) (heap : HeapView S I) (c : List Bool) (h : Here) (rest : List Value) (wanted : ℕ) (refusal : ClassId) (slot : Slot) → h.state.heap ≡ objects_at sets heap c → is_held sets heap c slot ≡ true → refusal.0 ≡ core_class h.program "java/lang/ClassCastException" → answered sets heap c h rest (cast h.program heap wanted refusal slot) ≡ cast_top h wanted (value_of sets heap c slot ∷ rest)
one_cast sets heap c h rest wanted refusal Top over t e = refl
one_cast sets heap c h rest wanted refusal (Int k) over t e = refl
one_cast sets heap c h rest wanted refusal (Long k) over t e = refl
one_cast sets heap c h rest wanted refusal Null over t e = refl
one_cast sets heap c h rest wanted refusal (Ref r) over t e =
    cases (is_instance h.program heap wanted (Ref r))
    ∙ ap (λ b. when b (go h (value_of sets heap c (Ref r) ∷ rest)) (raise h "java/lang/ClassCastException")) (instance_is sets heap c h over wanted r t)
  where
    cases : (b : Bool) → answered sets heap c h rest (if b then answer.Give (Ref r) else answer.Raise refusal None) ≡ when b (go h (value_of sets heap c (Ref r) ∷ rest)) (raise h "java/lang/ClassCastException")
    cases true = refl
    cases false = ap (λ k. Raise k None h.state) e
one_cast sets heap c h rest wanted refusal (Text k) over t e = refl

pub cast_row : {S I : Type 0} (sets : Sets I) (heap : HeapView S I) (c : List Bool) (h : Here) (wanted : ℕ) (refusal : ClassId) (slots : List Slot) → h.state.heap ≡ objects_at sets heap c → refusal.0 ≡ core_class h.program "java/lang/ClassCastException" → 1 ≤ length slots → are_held sets heap c slots ≡ true → answered sets heap c h (drop 1 (map (value_of sets heap c) slots)) (cast h.program heap wanted refusal (item_or slots 0 Top)) ≡ cast_top h wanted (map (value_of sets heap c) slots)
cast_row sets heap c h wanted refusal [] over e some held = absurd (omega (arith, some))
cast_row sets heap c h wanted refusal (slot ∷ rest) over e some held = one_cast sets heap c h (map (value_of sets heap c) rest) wanted refusal slot over (item_held sets heap c (slot ∷ rest) 0 held) e

pub cast_none : (h : Here) (wanted : ℕ) (operands : List Value) → length operands < 1 → illegal h ≡ cast_top h wanted operands
cast_none h wanted [] few = refl
cast_none h wanted (v ∷ rest) few = absurd (omega (arith, few))

pub cast_held : {S I : Type 0} (sets : Sets I) (heap : HeapView S I) (c : List Bool) (p : Program) (wanted : ℕ) (refusal : ClassId) (slot : Slot) → is_held sets heap c slot ≡ true → is_answer_held sets heap c (cast p heap wanted refusal slot) ≡ true
cast_held sets heap c p wanted refusal Top t = refl
cast_held sets heap c p wanted refusal (Int n) t = refl
cast_held sets heap c p wanted refusal (Long n) t = refl
cast_held sets heap c p wanted refusal Null t = refl
cast_held sets heap c p wanted refusal (Ref r) t = cases (is_instance p heap wanted (Ref r))
  where
    cases : (b : Bool) → is_answer_held sets heap c (if b then answer.Give (Ref r) else answer.Raise refusal None) ≡ true
    cases true = t
    cases false = refl
cast_held sets heap c p wanted refusal (Text n) t = refl

one_told : {S I : Type 0} (sets : Sets I) (heap : HeapView S I) (c : List Bool) (h : Here) (rest : List Value) (wanted : ℕ) (slot : Slot) → h.state.heap ≡ objects_at sets heap c → is_held sets heap c slot ≡ true → answered sets heap c h rest (told h.program heap wanted slot) ≡ told_top h wanted (value_of sets heap c slot ∷ rest)
one_told sets heap c h rest wanted Top over t = refl
one_told sets heap c h rest wanted (Int k) over t = refl
one_told sets heap c h rest wanted (Long k) over t = refl
one_told sets heap c h rest wanted Null over t = refl
one_told sets heap c h rest wanted (Ref r) over t =
    cases (is_instance h.program heap wanted (Ref r))
    ∙ ap (λ b. push h (int_of_bool b) rest) (instance_is sets heap c h over wanted r t)
  where
    cases : (b : Bool) → answered sets heap c h rest (answer.Push (int_of b)) ≡ push h (int_of_bool b) rest
    cases true = refl
    cases false = refl
one_told sets heap c h rest wanted (Text k) over t = refl

pub told_row : {S I : Type 0} (sets : Sets I) (heap : HeapView S I) (c : List Bool) (h : Here) (wanted : ℕ) (slots : List Slot) → h.state.heap ≡ objects_at sets heap c → 1 ≤ length slots → are_held sets heap c slots ≡ true → answered sets heap c h (drop 1 (map (value_of sets heap c) slots)) (told h.program heap wanted (item_or slots 0 Top)) ≡ told_top h wanted (map (value_of sets heap c) slots)
told_row sets heap c h wanted [] over some held = absurd (omega (arith, some))
told_row sets heap c h wanted (slot ∷ rest) over some held = one_told sets heap c h (map (value_of sets heap c) rest) wanted slot over (item_held sets heap c (slot ∷ rest) 0 held)

pub told_none : (h : Here) (wanted : ℕ) (operands : List Value) → length operands < 1 → illegal h ≡ told_top h wanted operands
told_none h wanted [] few = refl
told_none h wanted (v ∷ rest) few = absurd (omega (arith, few))

pub told_held : {S I : Type 0} (sets : Sets I) (heap : HeapView S I) (c : List Bool) (p : Program) (wanted : ℕ) (slot : Slot) → is_answer_held sets heap c (told p heap wanted slot) ≡ true
told_held sets heap c p wanted Top = refl
told_held sets heap c p wanted (Int n) = refl
told_held sets heap c p wanted (Long n) = refl
told_held sets heap c p wanted Null = refl
told_held sets heap c p wanted (Ref r) = cases (is_instance p heap wanted (Ref r))
  where
    cases : (b : Bool) → is_answer_held sets heap c (answer.Push (int_of b)) ≡ true
    cases true = refl
    cases false = refl
told_held sets heap c p wanted (Text n) = refl
