-- What an instruction makes of plain operands is its row.
use Rattle.std.proofs.Common.{drop, map, length, [], ◌<◌, arith, ◌≡◌, ℕ, ◌+◌, zero, suc, ℤ, pos, ◌+ℤ◌, Bool, true, false, List, ◌∷◌, refl, ◌∙◌, ap, not}
use Rattle.std.specs.Prelude.{Option, Some, None, codes}
use Rattle.vx_value.specs.Arithmetic.{int_op_of, long_op_of, natural, same_int}
use Rattle.vx_value.specs.declared.operation.IntOp.TheVariants.{Div, Rem}
use Rattle.vx_value.specs.declared.slot.Slot.{Slot}
use Rattle.vx_value.specs.declared.slot.Slot.TheVariants.{Int, Long, Null, Ref}
use Rattle.vx_space.specs.Sets.{Sets}
use Rattle.vx_heap.specs.Heap.{HeapView, value_of}
use Rattle.vx_java.specs.Jumps.{branch, jump, pair_of}
use Rattle.vx_java.specs.Calculation.{int_result, long_result}
use Rattle.vx_java.specs.Machine.{Int as IntValue}
use Rattle.vx_java.specs.Machine.{Go, Here, Raise, Value, at_position, illegal, raise_with}
use Rattle.vx_java.specs.Row.{row_of}
use Rattle.vx_java.specs.declared.operation.Operation.{Operation}
use Rattle.vx_java.specs.declared.operation.Operation.TheVariants.{IfInt, IfInts, IfNull, IntArithmetic, IntNarrow, IntNegate, IntShift, IntToLong, LongArithmetic, LongCompare, LongNegate, LongShift, LongToInt, SwitchLookup, SwitchTable}
use Rattle.vx_opcode.specs.Numbers.{s4}
use Rattle.vx_group_states.specs.Answering.{answered}
use Rattle.vx_group_states.specs.declared.answer.Answer.{Answer}
use Rattle.vx_arith.specs.Family.{divides, takes_one, takes_two}
use Rattle.vx_arith.specs.Numbers.{branch_by, int_or, jump_by, long_or, of_one, of_top, of_top_two, of_two}
use Rattle.vx_arith.specs.Raising.{IsByZero}
use Rattle.vx_switches.specs.Switches.{pair_jump, table_jump}
use Rattle.vx_arith.specs.declared.spot.Spot.{Spot}

-- the spot is that of the instruction
pub record IsSpotOf (h : Here) (spot : Spot) : Type 0 where
  pub code : spot.code.now ≡ h.code.bytes
  pub position : spot.position ≡ h.state.top.position
  pub size : spot.size ≡ h.size

pub jump_row : {S I : Type 0} (sets : Sets I) (heap : HeapView S I) (c : List Bool) (h : Here) (spot : Spot) (rest : List Value) (offset : ℤ) → IsSpotOf h spot → answered sets heap c h rest (jump_by spot offset) ≡ jump h offset rest
jump_row sets heap c h spot rest offset e = ap (λ (n : ℕ). Go (at_position h.state (natural (pos n +ℤ offset)) rest)) e.position

pub branch_row : {S I : Type 0} (sets : Sets I) (heap : HeapView S I) (c : List Bool) (h : Here) (spot : Spot) (rest : List Value) (taken : Bool) (offset : ℤ) → IsSpotOf h spot → answered sets heap c h rest (branch_by spot taken offset) ≡ branch h taken offset rest
branch_row sets heap c h spot rest true offset e = jump_row sets heap c h spot rest offset e
branch_row sets heap c h spot rest false offset e = λ i. Go (at_position h.state (e.position i + e.size i) rest)

pair_row : (h : Here) (key fallback : ℤ) (pairs first : ℕ) → pair_jump h.code.bytes key fallback pairs first ≡ pair_of h key fallback pairs first
pair_row h key fallback zero first = refl
pair_row h key fallback (suc pairs) first =
    ap (λ (other : ℤ). elim (same_int (s4 h.code.bytes first) key) as (λ _. ℤ) [ true ↦ s4 h.code.bytes (first + 4) | false ↦ other ]) (pair_row h key fallback pairs (first + 8))

pub one_row : {S I : Type 0} (sets : Sets I) (heap : HeapView S I) (c : List Bool) (h : Here) (spot : Spot) (rest : List Value) (operation : Operation) (slot : Slot) → IsSpotOf h spot → takes_one operation ≡ true → answered sets heap c h rest (of_one spot operation slot) ≡ row_of h operation (value_of sets heap c slot ∷ rest)
one_row sets heap c h spot rest (IfInt test offset) (Int a) e t = branch_row sets heap c h spot rest _ offset e
one_row sets heap c h spot rest (IfNull wanted offset) Null e t = branch_row sets heap c h spot rest wanted offset e
one_row sets heap c h spot rest (IfNull wanted offset) (Ref r) e t = branch_row sets heap c h spot rest (not wanted) offset e
one_row sets heap c h spot rest (SwitchTable fallback low high first) (Int key) e t =
    jump_row sets heap c h spot rest _ e ∙ ap (λ (code : List ℕ). jump h (table_jump code fallback low high first key) rest) e.code
one_row sets heap c h spot rest (SwitchLookup fallback pairs first) (Int key) e t =
    jump_row sets heap c h spot rest _ e ∙ ap (λ (code : List ℕ). jump h (pair_jump code key fallback pairs first) rest) e.code ∙ ap (λ (offset : ℤ). jump h offset rest) (pair_row h key fallback pairs first)
one_row sets heap c h spot rest (IfInt test offset) _ e t = refl
one_row sets heap c h spot rest (IfNull wanted offset) _ e t = refl
one_row sets heap c h spot rest (SwitchTable fallback low high first) _ e t = refl
one_row sets heap c h spot rest (SwitchLookup fallback pairs first) _ e t = refl
one_row sets heap c h spot rest IntNegate (Int a) e t = refl
one_row sets heap c h spot rest IntNegate _ e t = refl
one_row sets heap c h spot rest IntToLong (Int a) e t = refl
one_row sets heap c h spot rest IntToLong _ e t = refl
one_row sets heap c h spot rest (IntNarrow to) (Int a) e t = refl
one_row sets heap c h spot rest (IntNarrow to) _ e t = refl
one_row sets heap c h spot rest LongNegate (Long a) e t = refl
one_row sets heap c h spot rest LongNegate _ e t = refl
one_row sets heap c h spot rest LongToInt (Long a) e t = refl
one_row sets heap c h spot rest LongToInt _ e t = refl
one_row sets heap c h spot rest _ slot e t = cc

zero_row : {S I : Type 0} (sets : Sets I) (heap : HeapView S I) (c : List Bool) (h : Here) (rest : List Value) (by_zero : Answer) → IsByZero h.program heap by_zero → answered sets heap c h rest by_zero ≡ raise_with h "java/lang/ArithmeticException" (codes "/ by zero")
zero_row sets heap c h rest by_zero z = ap (answered sets heap c h rest) z.is ∙ (λ i. Raise (z.named i) (Some (z.text.text i)) h.state)

int_row : {S I : Type 0} (sets : Sets I) (heap : HeapView S I) (c : List Bool) (h : Here) (rest : List Value) (by_zero : Answer) (n : Option ℤ) → IsByZero h.program heap by_zero → answered sets heap c h rest (int_or by_zero n) ≡ int_result h rest n
int_row sets heap c h rest by_zero (Some n) z = refl
int_row sets heap c h rest by_zero None z = zero_row sets heap c h rest by_zero z

long_row : {S I : Type 0} (sets : Sets I) (heap : HeapView S I) (c : List Bool) (h : Here) (rest : List Value) (by_zero : Answer) (n : Option ℤ) → IsByZero h.program heap by_zero → answered sets heap c h rest (long_or by_zero n) ≡ long_result h rest n
long_row sets heap c h rest by_zero (Some n) z = refl
long_row sets heap c h rest by_zero None z = zero_row sets heap c h rest by_zero z

pub two_row : {S I : Type 0} (sets : Sets I) (heap : HeapView S I) (c : List Bool) (h : Here) (spot : Spot) (rest : List Value) (by_zero : Answer) (operation : Operation) (upper lower : Slot) → IsSpotOf h spot → (divides operation ≡ true → IsByZero h.program heap by_zero) → takes_two operation ≡ true → answered sets heap c h rest (of_two spot by_zero operation upper lower) ≡ row_of h operation (value_of sets heap c upper ∷ value_of sets heap c lower ∷ rest)
two_row sets heap c h spot rest by_zero (IntArithmetic Div) (Int b) (Int a) e z t = int_row sets heap c h rest by_zero (int_op_of Div a b) (z refl)
two_row sets heap c h spot rest by_zero (IntArithmetic Rem) (Int b) (Int a) e z t = int_row sets heap c h rest by_zero (int_op_of Rem a b) (z refl)
two_row sets heap c h spot rest by_zero (LongArithmetic Div) (Long b) (Long a) e z t = long_row sets heap c h rest by_zero (long_op_of Div a b) (z refl)
two_row sets heap c h spot rest by_zero (LongArithmetic Rem) (Long b) (Long a) e z t = long_row sets heap c h rest by_zero (long_op_of Rem a b) (z refl)
two_row sets heap c h spot rest by_zero (IfInts test offset) (Int b) (Int a) e z t = branch_row sets heap c h spot rest _ offset e
two_row sets heap c h spot rest by_zero (IfInts test offset) (Int b) (Long a) e z t = refl
two_row sets heap c h spot rest by_zero (IfInts test offset) (Long b) (Long a) e z t = refl
two_row sets heap c h spot rest by_zero (IfInts test offset) _ _ e z t = refl
two_row sets heap c h spot rest by_zero (IntArithmetic _) (Int b) (Int a) e z t = refl
two_row sets heap c h spot rest by_zero (IntArithmetic _) (Int b) (Long a) e z t = refl
two_row sets heap c h spot rest by_zero (IntArithmetic _) (Long b) (Long a) e z t = refl
two_row sets heap c h spot rest by_zero (IntArithmetic _) _ _ e z t = refl
two_row sets heap c h spot rest by_zero (LongArithmetic _) (Int b) (Int a) e z t = refl
two_row sets heap c h spot rest by_zero (LongArithmetic _) (Int b) (Long a) e z t = refl
two_row sets heap c h spot rest by_zero (LongArithmetic _) (Long b) (Long a) e z t = refl
two_row sets heap c h spot rest by_zero (LongArithmetic _) _ _ e z t = refl
two_row sets heap c h spot rest by_zero (IntShift op) (Int b) (Int a) e z t = refl
two_row sets heap c h spot rest by_zero (IntShift op) (Int b) (Long a) e z t = refl
two_row sets heap c h spot rest by_zero (IntShift op) (Long b) (Long a) e z t = refl
two_row sets heap c h spot rest by_zero (IntShift op) _ _ e z t = refl
two_row sets heap c h spot rest by_zero (LongShift op) (Int b) (Int a) e z t = refl
two_row sets heap c h spot rest by_zero (LongShift op) (Int b) (Long a) e z t = refl
two_row sets heap c h spot rest by_zero (LongShift op) (Long b) (Long a) e z t = refl
two_row sets heap c h spot rest by_zero (LongShift op) _ _ e z t = refl
two_row sets heap c h spot rest by_zero LongCompare (Int b) (Int a) e z t = refl
two_row sets heap c h spot rest by_zero LongCompare (Int b) (Long a) e z t = refl
two_row sets heap c h spot rest by_zero LongCompare (Long b) (Long a) e z t = refl
two_row sets heap c h spot rest by_zero LongCompare _ _ e z t = refl
two_row sets heap c h spot rest by_zero _ upper lower e z t = cc

-- ---- the operands that stand there

pub top_row : {S I : Type 0} (sets : Sets I) (heap : HeapView S I) (c : List Bool) (h : Here) (spot : Spot) (operation : Operation) (operands : List Slot) → IsSpotOf h spot → takes_one operation ≡ true → 0 < length operands → answered sets heap c h (drop 1 (map (value_of sets heap c) operands)) (of_top spot operation operands) ≡ row_of h operation (map (value_of sets heap c) operands)
top_row sets heap c h spot operation [] e t some = absurd (omega arith)
top_row sets heap c h spot operation (operand ∷ rest) e t some = one_row sets heap c h spot (map (value_of sets heap c) rest) operation operand e t

pub top_two_row : {S I : Type 0} (sets : Sets I) (heap : HeapView S I) (c : List Bool) (h : Here) (spot : Spot) (by_zero : Answer) (operation : Operation) (operands : List Slot) → IsSpotOf h spot → (divides operation ≡ true → IsByZero h.program heap by_zero) → takes_two operation ≡ true → 1 < length operands → answered sets heap c h (drop 2 (map (value_of sets heap c) operands)) (of_top_two spot by_zero operation operands) ≡ row_of h operation (map (value_of sets heap c) operands)
top_two_row sets heap c h spot by_zero operation [] e z t some = absurd (omega arith)
top_two_row sets heap c h spot by_zero operation (upper ∷ []) e z t some = absurd (omega arith)
top_two_row sets heap c h spot by_zero operation (upper ∷ lower ∷ rest) e z t some = two_row sets heap c h spot (map (value_of sets heap c) rest) by_zero operation upper lower e z t

-- ---- too few operands

pub none_row : (h : Here) (operation : Operation) (operands : List Value) → takes_one operation ≡ true → length operands < 1 → illegal h ≡ row_of h operation operands
none_row h operation (v ∷ vs) t few = absurd (omega arith)
none_row h IntNegate [] t few = refl
none_row h LongNegate [] t few = refl
none_row h IntToLong [] t few = refl
none_row h LongToInt [] t few = refl
none_row h (IntNarrow to) [] t few = refl
none_row h (IfInt test offset) [] t few = refl
none_row h (IfNull wanted offset) [] t few = refl
none_row h (SwitchTable fallback low high first) [] t few = refl
none_row h (SwitchLookup fallback pairs first) [] t few = refl
none_row h _ [] t few = cc

pub few_row : (h : Here) (operation : Operation) (operands : List Value) → takes_two operation ≡ true → length operands < 2 → illegal h ≡ row_of h operation operands
few_row h operation (v ∷ w ∷ vs) t few = absurd (omega arith)
few_row h (IntArithmetic op) [] t few = refl
few_row h (IntArithmetic op) (IntValue b ∷ []) t few = refl
few_row h (IntArithmetic op) (_ ∷ []) t few = refl
few_row h (LongArithmetic op) [] t few = refl
few_row h (LongArithmetic op) (IntValue b ∷ []) t few = refl
few_row h (LongArithmetic op) (_ ∷ []) t few = refl
few_row h (IntShift op) [] t few = refl
few_row h (IntShift op) (IntValue b ∷ []) t few = refl
few_row h (IntShift op) (_ ∷ []) t few = refl
few_row h (LongShift op) [] t few = refl
few_row h (LongShift op) (IntValue b ∷ []) t few = refl
few_row h (LongShift op) (_ ∷ []) t few = refl
few_row h LongCompare [] t few = refl
few_row h LongCompare (IntValue b ∷ []) t few = refl
few_row h LongCompare (_ ∷ []) t few = refl
few_row h (IfInts test offset) [] t few = refl
few_row h (IfInts test offset) (IntValue b ∷ []) t few = refl
few_row h (IfInts test offset) (_ ∷ []) t few = refl
few_row h _ operands t few = cc
