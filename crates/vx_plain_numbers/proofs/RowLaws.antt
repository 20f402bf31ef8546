-- What an instruction makes of plain operands is its row.
use Rattle.std.proofs.Common.{◌≡◌, ℕ, ◌+◌, ◌&&◌, ◌==◌, zero, suc, ℤ, Bool, true, false, List, [], ◌∷◌, drop, refl, sym, ◌∙◌, ap, not}
use Rattle.std.specs.Prelude.{None, Option, Some, slice_get}
use Rattle.vx_java.specs.Calculation.{int_result, long_result}
use Rattle.vx_java.specs.Checks.{is_of, same_bool}
use Rattle.vx_java.specs.Jumps.{branch, if_same, jump, pair_of}
use Rattle.vx_java.specs.Machine as machine
use Rattle.vx_java.specs.Machine.{Here, illegal, when}
use Rattle.vx_java.specs.Row.{row_of}
use Rattle.vx_java.specs.declared.operation.Operation.{Operation}
use Rattle.vx_java.specs.declared.operation.Operation.TheVariants.{IfInt, IfInts, IfNull, IntArithmetic, IntNarrow, IntNegate, IntShift, IntToLong, LongArithmetic, LongCompare, LongNegate, LongShift, LongToInt, SwitchLookup, SwitchTable}
use Rattle.vx_java.specs.declared.operation.Sort.TheVariants.{Reference}
use Rattle.vx_opcode.specs.Numbers.{s4}
use Rattle.vx_plain.specs.Views.{value_of}
use Rattle.vx_plain.specs.declared.value.Value.{Value}
use Rattle.vx_plain.specs.declared.value.Value.TheVariants.{Int, Long, Null, Ref, Top}
use Rattle.vx_plain_here.proofs.Operands.{no_top, top, top_alone, top_two}
use Rattle.vx_plain_numbers.specs.Family.{takes_one, takes_two}
use Rattle.vx_plain_numbers.specs.Numbers.{answered, are_one, branch_by, int_or, long_or, of_one, of_same, of_two}
use Rattle.vx_switches.specs.Switches.{pair_jump}
use Rattle.vx_value.specs.Arithmetic.{int_op_of, long_op_of, same_int}

branch_row : (h : Here) (rest : List machine.Value) (taken : Bool) (offset : ℤ) → answered h rest (branch_by taken offset) ≡ branch h taken offset rest
branch_row h rest true offset = refl
branch_row h rest false offset = refl

pair_row : (h : Here) (key fallback : ℤ) (pairs first : ℕ) → pair_jump h.code.bytes key fallback pairs first ≡ pair_of h key fallback pairs first
pair_row h key fallback zero first = refl
pair_row h key fallback (suc pairs) first =
    ap (λ (other : ℤ). elim (same_int (s4 h.code.bytes first) key) as (λ _. ℤ) [ true ↦ s4 h.code.bytes (first + 4) | false ↦ other ]) (pair_row h key fallback pairs (first + 8))

one_row : (h : Here) (rest : List machine.Value) (operation : Operation) (v : Value) → takes_one operation ≡ true → answered h rest (of_one h.code.bytes operation v) ≡ row_of h operation (value_of v ∷ rest)
one_row h rest (IfInt test offset) (Int a) t = branch_row h rest _ offset
one_row h rest (IfNull wanted offset) Null t = branch_row h rest wanted offset
one_row h rest (IfNull wanted offset) (Ref r) t = branch_row h rest (not wanted) offset
one_row h rest (SwitchTable fallback low high first) (Int key) t = refl
one_row h rest (SwitchLookup fallback pairs first) (Int key) t = ap (λ (offset : ℤ). jump h offset rest) (pair_row h key fallback pairs first)
one_row h rest (IfInt test offset) _ t = refl
one_row h rest (IfNull wanted offset) _ t = refl
one_row h rest (SwitchTable fallback low high first) _ t = refl
one_row h rest (SwitchLookup fallback pairs first) _ t = refl
one_row h rest IntNegate (Int a) t = refl
one_row h rest IntNegate _ t = refl
one_row h rest IntToLong (Int a) t = refl
one_row h rest IntToLong _ t = refl
one_row h rest (IntNarrow to) (Int a) t = refl
one_row h rest (IntNarrow to) _ t = refl
one_row h rest LongNegate (Long a) t = refl
one_row h rest LongNegate _ t = refl
one_row h rest LongToInt (Long a) t = refl
one_row h rest LongToInt _ t = refl
one_row h rest _ v t = cc

pub one_missing : (h : Here) (operation : Operation) (operands : List machine.Value) → takes_one operation ≡ true → None ≡ slice_get operands 0 → illegal h ≡ row_of h operation operands
one_missing h operation operands t none = by operation t ∙ ap (row_of h operation) (sym (no_top operands none))
  where
    by : (operation : Operation) → takes_one operation ≡ true → illegal h ≡ row_of h operation []
    by (IfInt test offset) t = refl
    by (IfNull wanted offset) t = refl
    by (SwitchTable fallback low high first) t = refl
    by (SwitchLookup fallback pairs first) t = refl
    by IntNegate t = refl
    by IntToLong t = refl
    by (IntNarrow to) t = refl
    by LongNegate t = refl
    by LongToInt t = refl
    by _ t = cc

pub one_there : (h : Here) (operation : Operation) (operands : List machine.Value) (v : Value) → takes_one operation ≡ true → Some (value_of v) ≡ slice_get operands 0
    → answered h (drop 1 operands) (of_one h.code.bytes operation v) ≡ row_of h operation operands
one_there h operation operands v t there = one_row h (drop 1 operands) operation v t ∙ ap (row_of h operation) (sym (top operands (value_of v) there))

-- ---- two operands

int_row : (h : Here) (rest : List machine.Value) (n : Option ℤ) → answered h rest (int_or n) ≡ int_result h rest n
int_row h rest (Some n) = refl
int_row h rest None = refl

long_row : (h : Here) (rest : List machine.Value) (n : Option ℤ) → answered h rest (long_or n) ≡ long_result h rest n
long_row h rest (Some n) = refl
long_row h rest None = refl

two_row : (h : Here) (rest : List machine.Value) (operation : Operation) (upper lower : Value) → takes_two operation ≡ true → answered h rest (of_two operation upper lower) ≡ row_of h operation (value_of upper ∷ value_of lower ∷ rest)
two_row h rest (IntArithmetic op) (Int b) (Int a) t = int_row h rest (int_op_of op a b)
two_row h rest (LongArithmetic op) (Long b) (Long a) t = long_row h rest (long_op_of op a b)
two_row h rest (IfInts test offset) (Int b) (Int a) t = branch_row h rest _ offset
two_row h rest (IfInts test offset) (Int b) (Long a) t = refl
two_row h rest (IfInts test offset) (Long b) (Long a) t = refl
two_row h rest (IfInts test offset) _ _ t = refl
two_row h rest (IntArithmetic op) (Int b) (Long a) t = refl
two_row h rest (IntArithmetic op) (Long b) (Long a) t = refl
two_row h rest (IntArithmetic op) _ _ t = refl
two_row h rest (LongArithmetic op) (Int b) (Int a) t = refl
two_row h rest (LongArithmetic op) (Int b) (Long a) t = refl
two_row h rest (LongArithmetic op) _ _ t = refl
two_row h rest (IntShift op) (Int b) (Int a) t = refl
two_row h rest (IntShift op) (Int b) (Long a) t = refl
two_row h rest (IntShift op) (Long b) (Long a) t = refl
two_row h rest (IntShift op) _ _ t = refl
two_row h rest (LongShift op) (Int b) (Int a) t = refl
two_row h rest (LongShift op) (Int b) (Long a) t = refl
two_row h rest (LongShift op) (Long b) (Long a) t = refl
two_row h rest (LongShift op) _ _ t = refl
two_row h rest LongCompare (Int b) (Int a) t = refl
two_row h rest LongCompare (Int b) (Long a) t = refl
two_row h rest LongCompare (Long b) (Long a) t = refl
two_row h rest LongCompare _ _ t = refl
two_row h rest _ upper lower t = cc

two_none : (h : Here) (operation : Operation) → takes_two operation ≡ true → illegal h ≡ row_of h operation []
two_none h (IntArithmetic op) t = refl
two_none h (LongArithmetic op) t = refl
two_none h (IfInts test offset) t = refl
two_none h (IntShift op) t = refl
two_none h (LongShift op) t = refl
two_none h LongCompare t = refl
two_none h _ t = cc

two_short : (h : Here) (operation : Operation) (v : Value) → takes_two operation ≡ true → illegal h ≡ row_of h operation (value_of v ∷ [])
two_short h (IntArithmetic op) (Int b) t = refl
two_short h (IntArithmetic op) _ t = refl
two_short h (LongArithmetic op) (Long b) t = refl
two_short h (LongArithmetic op) _ t = refl
two_short h (IfInts test offset) (Int b) t = refl
two_short h (IfInts test offset) _ t = refl
two_short h (IntShift op) (Int n) t = refl
two_short h (IntShift op) _ t = refl
two_short h (LongShift op) (Int n) t = refl
two_short h (LongShift op) _ t = refl
two_short h LongCompare (Long b) t = refl
two_short h LongCompare _ t = refl
two_short h _ v t = cc

pub two_missing : (h : Here) (operation : Operation) (operands : List machine.Value) → takes_two operation ≡ true → None ≡ slice_get operands 0 → illegal h ≡ row_of h operation operands
two_missing h operation operands t none = two_none h operation t ∙ ap (row_of h operation) (sym (no_top operands none))

pub two_alone : (h : Here) (operation : Operation) (operands : List machine.Value) (u : Value) → takes_two operation ≡ true → Some (value_of u) ≡ slice_get operands 0 → None ≡ slice_get operands 1 → illegal h ≡ row_of h operation operands
two_alone h operation operands u t there none = two_short h operation u t ∙ ap (row_of h operation) (sym (top_alone operands (value_of u) there none))

pub two_there : (h : Here) (operation : Operation) (operands : List machine.Value) (u v : Value) → takes_two operation ≡ true → Some (value_of u) ≡ slice_get operands 0 → Some (value_of v) ≡ slice_get operands 1
    → answered h (drop 2 operands) (of_two operation u v) ≡ row_of h operation operands
two_there h operation operands u v t first second = two_row h (drop 2 operands) operation u v t ∙ ap (row_of h operation) (sym (top_two operands (value_of u) (value_of v) first second))

-- ---- two references

same_branch : (h : Here) (rest : List machine.Value) (wanted : Bool) (offset : ℤ) (one : Bool) → answered h rest (of_same wanted offset (Some one)) ≡ branch h (same_bool wanted one) offset rest
same_branch h rest true offset true = refl
same_branch h rest true offset false = refl
same_branch h rest false offset true = refl
same_branch h rest false offset false = refl

no_pair : (h : Here) (b : Bool) (o : machine.Outcome) → illegal h ≡ when (b && false) o (illegal h)
no_pair h true o = refl
no_pair h false o = refl

same_row : (h : Here) (rest : List machine.Value) (wanted : Bool) (offset : ℤ) (upper lower : Value) → answered h rest (of_same wanted offset (are_one upper lower)) ≡ if_same h wanted offset (value_of upper ∷ value_of lower ∷ rest)
same_row h rest wanted offset Null Null = same_branch h rest wanted offset true
same_row h rest wanted offset Null (Ref a) = same_branch h rest wanted offset false
same_row h rest wanted offset Null Top = refl
same_row h rest wanted offset Null (Int a) = refl
same_row h rest wanted offset Null (Long a) = refl
same_row h rest wanted offset (Ref b) Null = same_branch h rest wanted offset false
same_row h rest wanted offset (Ref b) (Ref a) = same_branch h rest wanted offset (a == b)
same_row h rest wanted offset (Ref b) Top = refl
same_row h rest wanted offset (Ref b) (Int a) = refl
same_row h rest wanted offset (Ref b) (Long a) = refl
same_row h rest wanted offset Top lower = no_pair h (is_of Reference (value_of lower)) _
same_row h rest wanted offset (Int b) lower = no_pair h (is_of Reference (value_of lower)) _
same_row h rest wanted offset (Long b) lower = no_pair h (is_of Reference (value_of lower)) _

pub same_missing : (h : Here) (wanted : Bool) (offset : ℤ) (operands : List machine.Value) → None ≡ slice_get operands 0 → illegal h ≡ if_same h wanted offset operands
same_missing h wanted offset operands none = ap (if_same h wanted offset) (sym (no_top operands none))

pub same_alone : (h : Here) (wanted : Bool) (offset : ℤ) (operands : List machine.Value) (u : Value) → Some (value_of u) ≡ slice_get operands 0 → None ≡ slice_get operands 1 → illegal h ≡ if_same h wanted offset operands
same_alone h wanted offset operands u there none = ap (if_same h wanted offset) (sym (top_alone operands (value_of u) there none))

pub same_there : (h : Here) (wanted : Bool) (offset : ℤ) (operands : List machine.Value) (u v : Value) → Some (value_of u) ≡ slice_get operands 0 → Some (value_of v) ≡ slice_get operands 1
    → answered h (drop 2 operands) (of_same wanted offset (are_one u v)) ≡ if_same h wanted offset operands
same_there h wanted offset operands u v first second = same_row h (drop 2 operands) wanted offset u v ∙ ap (if_same h wanted offset) (sym (top_two operands (value_of u) (value_of v) first second))
