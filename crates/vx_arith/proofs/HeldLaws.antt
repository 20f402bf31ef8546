-- What an instruction of numbers makes of its operands names what is there.
use Rattle.std.proofs.Common.{[], ◌∷◌, ◌∙◌, ap, length, ◌≡◌, ℤ, Bool, true, false, List, refl}
use Rattle.std.specs.Prelude.{Option, Some, None}
use Rattle.vx_value.specs.declared.slot.Slot.{Slot}
use Rattle.vx_value.specs.declared.slot.Slot.TheVariants.{Int, Long, Null, Ref}
use Rattle.vx_value.specs.Arithmetic.{int_op_of, long_op_of}
use Rattle.vx_space.specs.Sets.{Sets}
use Rattle.vx_heap.specs.Heap.{HeapView}
use Rattle.vx_java.specs.declared.operation.Operation.{Operation}
use Rattle.vx_java.specs.declared.operation.Operation.TheVariants.{IfInt, IfInts, IfNull, IntArithmetic, LongArithmetic, LongNegate, LongShift}
use Rattle.vx_link.specs.declared.program.Program.{Program}
use Rattle.std.proofs.lemmas.Bool.{lt-ltb}
use Rattle.vx_group_states.specs.Answering.{is_answer_held}
use Rattle.vx_group_states.specs.declared.answer.Answer.{Answer}
use Rattle.vx_group_states.specs.declared.answer.Answer.TheVariants.{Illegal}
use Rattle.vx_arith.specs.Numbers.{branch_by, int_or, long_or, of_int, of_ints, of_long, of_longs, of_mixed, of_one, of_reference, of_top, of_top_two, of_two}
use Rattle.vx_arith.specs.Raising.{IsByZero, IsForZero}
use Rattle.vx_arith.specs.declared.spot.Spot.{Spot}

branch_held : {S I : Type 0} (sets : Sets I) (heap : HeapView S I) (c : List Bool) (spot : Spot) (taken : Bool) (offset : ℤ) → is_answer_held sets heap c (branch_by spot taken offset) ≡ true
branch_held sets heap c spot true offset = refl
branch_held sets heap c spot false offset = refl

int_held : {S I : Type 0} (sets : Sets I) (heap : HeapView S I) (c : List Bool) (spot : Spot) (operation : Operation) (a : ℤ) → is_answer_held sets heap c (of_int spot operation a) ≡ true
int_held sets heap c spot (IfInt test offset) a = branch_held sets heap c spot _ offset
int_held sets heap c spot _ a = refl

long_held : {S I : Type 0} (sets : Sets I) (heap : HeapView S I) (c : List Bool) (operation : Operation) (a : ℤ) → is_answer_held sets heap c (of_long operation a) ≡ true
long_held sets heap c LongNegate a = refl
long_held sets heap c _ a = refl

reference_held : {S I : Type 0} (sets : Sets I) (heap : HeapView S I) (c : List Bool) (spot : Spot) (operation : Operation) (is_null : Bool) → is_answer_held sets heap c (of_reference spot operation is_null) ≡ true
reference_held sets heap c spot (IfNull wanted offset) true = branch_held sets heap c spot _ offset
reference_held sets heap c spot (IfNull wanted offset) false = branch_held sets heap c spot _ offset
reference_held sets heap c spot _ is_null = refl

pub one_held : {S I : Type 0} (sets : Sets I) (heap : HeapView S I) (c : List Bool) (spot : Spot) (operation : Operation) (slot : Slot) → is_answer_held sets heap c (of_one spot operation slot) ≡ true
one_held sets heap c spot operation (Int a) = int_held sets heap c spot operation a
one_held sets heap c spot operation (Long a) = long_held sets heap c operation a
one_held sets heap c spot operation Null = reference_held sets heap c spot operation true
one_held sets heap c spot operation (Ref r) = reference_held sets heap c spot operation false
one_held sets heap c spot operation _ = refl

int_or_held : {S I : Type 0} (sets : Sets I) (heap : HeapView S I) (c : List Bool) (by_zero : Answer) (n : Option ℤ) → is_answer_held sets heap c by_zero ≡ true → is_answer_held sets heap c (int_or by_zero n) ≡ true
int_or_held sets heap c by_zero (Some n) z = refl
int_or_held sets heap c by_zero None z = z

long_or_held : {S I : Type 0} (sets : Sets I) (heap : HeapView S I) (c : List Bool) (by_zero : Answer) (n : Option ℤ) → is_answer_held sets heap c by_zero ≡ true → is_answer_held sets heap c (long_or by_zero n) ≡ true
long_or_held sets heap c by_zero (Some n) z = refl
long_or_held sets heap c by_zero None z = z

ints_held : {S I : Type 0} (sets : Sets I) (heap : HeapView S I) (c : List Bool) (spot : Spot) (by_zero : Answer) (operation : Operation) (a b : ℤ) → is_answer_held sets heap c by_zero ≡ true → is_answer_held sets heap c (of_ints spot by_zero operation a b) ≡ true
ints_held sets heap c spot by_zero (IntArithmetic op) a b z = int_or_held sets heap c by_zero (int_op_of op a b) z
ints_held sets heap c spot by_zero (IfInts test offset) a b z = branch_held sets heap c spot _ offset
ints_held sets heap c spot by_zero _ a b z = refl

longs_held : {S I : Type 0} (sets : Sets I) (heap : HeapView S I) (c : List Bool) (by_zero : Answer) (operation : Operation) (a b : ℤ) → is_answer_held sets heap c by_zero ≡ true → is_answer_held sets heap c (of_longs by_zero operation a b) ≡ true
longs_held sets heap c by_zero (LongArithmetic op) a b z = long_or_held sets heap c by_zero (long_op_of op a b) z
longs_held sets heap c by_zero _ a b z = refl

mixed_held : {S I : Type 0} (sets : Sets I) (heap : HeapView S I) (c : List Bool) (operation : Operation) (a n : ℤ) → is_answer_held sets heap c (of_mixed operation a n) ≡ true
mixed_held sets heap c (LongShift op) a n = refl
mixed_held sets heap c _ a n = refl

pub two_held : {S I : Type 0} (sets : Sets I) (heap : HeapView S I) (c : List Bool) (spot : Spot) (by_zero : Answer) (operation : Operation) (upper lower : Slot) → is_answer_held sets heap c by_zero ≡ true → is_answer_held sets heap c (of_two spot by_zero operation upper lower) ≡ true
two_held sets heap c spot by_zero operation (Int b) (Int a) z = ints_held sets heap c spot by_zero operation a b z
two_held sets heap c spot by_zero operation (Long b) (Long a) z = longs_held sets heap c by_zero operation a b z
two_held sets heap c spot by_zero operation (Int n) (Long a) z = mixed_held sets heap c operation a n
two_held sets heap c spot by_zero operation _ _ z = refl

-- ---- the operands that stand there

pub top_held : {S I : Type 0} (sets : Sets I) (heap : HeapView S I) (c : List Bool) (spot : Spot) (operation : Operation) (operands : List Slot) → is_answer_held sets heap c (of_top spot operation operands) ≡ true
top_held sets heap c spot operation [] = refl
top_held sets heap c spot operation (operand ∷ rest) = one_held sets heap c spot operation operand

pub top_two_held : {S I : Type 0} (sets : Sets I) (heap : HeapView S I) (c : List Bool) (spot : Spot) (by_zero : Answer) (operation : Operation) (operands : List Slot) → is_answer_held sets heap c by_zero ≡ true → is_answer_held sets heap c (of_top_two spot by_zero operation operands) ≡ true
top_two_held sets heap c spot by_zero operation [] z = refl
top_two_held sets heap c spot by_zero operation (upper ∷ []) z = refl
top_two_held sets heap c spot by_zero operation (upper ∷ lower ∷ rest) z = two_held sets heap c spot by_zero operation upper lower z

-- ---- what comes of a zero divisor

pub zero_held : {S I : Type 0} (sets : Sets I) (heap : HeapView S I) (c : List Bool) (p : Program) (divides : Bool) (by_zero : Answer) → IsForZero divides p heap by_zero → is_answer_held sets heap c by_zero ≡ true
zero_held sets heap c p true by_zero z = ap (is_answer_held sets heap c) z.is ∙ lt-ltb z.message (length heap.texts) z.text.known
zero_held sets heap c p false by_zero z = ap (is_answer_held sets heap c) z

pub zero_raises : {S I : Type 0} (heap : HeapView S I) (p : Program) (divides : Bool) (by_zero : Answer) → IsForZero divides p heap by_zero → divides ≡ true → IsByZero p heap by_zero
zero_raises heap p true by_zero z t = z
zero_raises heap p false by_zero z t = cc

pub divides_zero : {S I : Type 0} (heap : HeapView S I) (p : Program) (divides : Bool) (by_zero : Answer) → divides ≡ true → IsByZero p heap by_zero → IsForZero divides p heap by_zero
divides_zero heap p true by_zero t z = z
divides_zero heap p false by_zero t z = cc

pub passes_zero : {S I : Type 0} (heap : HeapView S I) (p : Program) (divides : Bool) → divides ≡ false → IsForZero divides p heap Illegal
passes_zero heap p true t = cc
passes_zero heap p false t = refl
