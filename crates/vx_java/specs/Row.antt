-- The row of the instruction table at a state (JVMS 6.5).
use Rattle.std.specs.Int.{w32, w64}
use Rattle.std.specs.Prelude.{List, None, Option, Some, codes}
use Rattle.vx_class.specs.declared.class_file.Code.{Code}
use Rattle.vx_pool.specs.Lookups.{entry_of}
use Rattle.vx_java.specs.Arrays.{array_length, load_element, new_grid, new_primitives, new_references, store_element}
use Rattle.vx_java.specs.Calculation.{int_arithmetic, int_shift, long_arithmetic, long_compare, long_shift, on_int, on_long}
use Rattle.vx_java.specs.Calls.{invoke}
use Rattle.vx_java.specs.Constants.{push_entry}
use Rattle.vx_java.specs.Fields.{get_field, get_static, put_field, put_static}
use Rattle.vx_java.specs.Jumps.{if_int, if_ints, if_null, if_same, jump, switch_lookup, switch_table}
use Rattle.vx_java.specs.Locals.{increase, load, store}
use Rattle.vx_java.specs.Machine.{Here, Int, Long, Null, Outcome, State, Top, Value, current_class, go, illegal_in, push, unsupported}
use Rattle.vx_java.specs.Objects.{check_cast, instance_of, monitor, new_instance, throw_top}
use Rattle.vx_java.specs.Operation.{operation_of}
use Rattle.vx_java.specs.Returns.{return_from}
use Rattle.vx_java.specs.StackForms.{stack}
use Rattle.vx_java.specs.declared.operation.Operation.{Operation}
use Rattle.vx_java.specs.declared.operation.Operation.TheVariants.{CheckCast, GetField, GetStatic, Goto, IfInt, IfInts, IfNull, IfSame, Increase, InstanceOf, IntArithmetic, IntNarrow, IntNegate, IntShift, IntToLong, Invoke, Length, Load, LoadElement, LongArithmetic, LongCompare, LongNegate, LongShift, LongToInt, Monitor, New, NewGrid, NewPrimitives, NewReferences, Nop, PushEntry, PushInt, PushLong, PushNull, PutField, PutStatic, Refuse, Stack, Store, StoreElement, SwitchLookup, SwitchTable}
use Rattle.vx_link.specs.Names.{class_name}
use Rattle.vx_link.specs.Parts.{class_at, method_at}
use Rattle.vx_link.specs.declared.program.Program.{Program}
use Rattle.vx_list.specs.Places.{item_or}
use Rattle.vx_opcode.specs.Decode.{instruction_at}
use Rattle.vx_opcode.specs.declared.instruction.Instruction.{Instruction}
use Rattle.vx_value.specs.Arithmetic.{long_to_int, narrow_of, negation}
use Rattle.vx_java.specs.declared.operation.Operation.TheVariants.{Throw as ThrowOperation, Return}

-- what an operation does, by its operands
abbrev pub row_of : Here → Operation → List Value → Outcome
row_of h Nop operands = go h operands
row_of h PushNull operands = push h Null operands
row_of h (PushInt n) operands = push h (Int n) operands
row_of h (PushLong n) operands = push h (Long n) operands
row_of h (PushEntry i) operands = push_entry h (entry_of h.pool i)
row_of h (Load sort n) operands = load h sort n
row_of h (Store sort n) operands = store h sort n operands
row_of h (LoadElement e) operands = load_element h e operands
row_of h (StoreElement e) operands = store_element h e operands
row_of h (Stack form) operands = stack h form
row_of h (IntArithmetic op) operands = int_arithmetic h op operands
row_of h (LongArithmetic op) operands = long_arithmetic h op operands
row_of h IntNegate operands = on_int h (λ a. Int (negation w32 a)) operands
row_of h LongNegate operands = on_long h (λ a. Long (negation w64 a)) operands
row_of h (IntShift op) operands = int_shift h op operands
row_of h (LongShift op) operands = long_shift h op operands
row_of h (Increase n by) operands = increase h n by (item_or h.state.top.locals n Top)
row_of h IntToLong operands = on_int h (λ a. Long a) operands
row_of h LongToInt operands = on_long h (λ a. Int (long_to_int a)) operands
row_of h (IntNarrow to) operands = on_int h (λ a. Int (narrow_of to a)) operands
row_of h LongCompare operands = long_compare h operands
row_of h (IfInt test offset) operands = if_int h test offset operands
row_of h (IfInts test offset) operands = if_ints h test offset operands
row_of h (IfSame wanted offset) operands = if_same h wanted offset operands
row_of h (IfNull wanted offset) operands = if_null h wanted offset operands
row_of h (Goto offset) operands = jump h offset operands
row_of h (SwitchTable fallback low high first) operands = switch_table h fallback low high first operands
row_of h (SwitchLookup fallback pairs first) operands = switch_lookup h fallback pairs first operands
row_of h (Return sort) operands = return_from h sort
row_of h (GetStatic i) operands = get_static h i
row_of h (PutStatic i) operands = put_static h i
row_of h (GetField i) operands = get_field h i
row_of h (PutField i) operands = put_field h i
row_of h (Invoke mode i) operands = invoke h mode i
row_of h (New i) operands = new_instance h i
row_of h (NewPrimitives code) operands = new_primitives h code
row_of h (NewReferences i) operands = new_references h i
row_of h (NewGrid i d) operands = new_grid h i d
row_of h Length operands = array_length h operands
row_of h ThrowOperation operands = throw_top h operands
row_of h Monitor operands = monitor h operands
row_of h (CheckCast i) operands = check_cast h (class_name h.pool i) operands
row_of h (InstanceOf i) operands = instance_of h (class_name h.pool i) operands
row_of h (Refuse word) operands = unsupported h word (codes "-")

-- the row of an instruction that stands at the position
abbrev pub row_at : Program → State → Code → Instruction → Outcome
row_at p s code i =
    row_of
    (record { program = p; state = s; code = code; pool = (class_at p (current_class p s)).pool; size = i.length })
    (operation_of i)
    s.top.operands

-- no instruction stands there: the position is the end of the code
abbrev pub row_if : Program → State → Code → Option Instruction → Outcome
row_if p s code None = illegal_in p s
row_if p s code (Some i) = row_at p s code i

abbrev pub row_in : Program → State → Option Code → Outcome
row_in p s None = illegal_in p s
row_in p s (Some code) = row_if p s code (instruction_at code.bytes s.top.position)

-- one attempt's row
abbrev pub row : Program → State → Outcome
row p s = row_in p s (method_at p s.top.method).code
