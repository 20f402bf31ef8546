-- What a verdict of yes says of runs, and the steps that lead to it: rows, what is carried out, what follows an outcome, and the start.
use Rattle.std.specs.Prelude.{Bool, Some, false, true, ℕ, ◌≡◌}
use Rattle.vx_class.specs.declared.class_file.Code.{Code}
use Rattle.vx_pool.specs.Instructions.{is_start}
use Rattle.vx_java.specs.Initialisation.{begin}
use Rattle.vx_java.specs.Machine.{Outcome, State}
use Rattle.vx_java.specs.Natives.{native}
use Rattle.vx_java.specs.Operation.{operation_of}
use Rattle.vx_java.specs.Row.{row}
use Rattle.vx_java.specs.Step.{Config, next, outcome_carried_out, run, start}
use Rattle.vx_java.specs.declared.operation.Operation.{Operation}
use Rattle.vx_java.specs.declared.operation.Operation.TheVariants.{CheckCast, GetField, GetStatic, Goto, IfInt, IfInts, IfNull, IfSame, Increase, InstanceOf, IntArithmetic, IntNarrow, IntNegate, IntShift, IntToLong, Invoke, Length, Load, LoadElement, LongArithmetic, LongCompare, LongNegate, LongShift, LongToInt, Monitor, New, NewGrid, NewPrimitives, NewReferences, Nop, PushEntry, PushInt, PushLong, PushNull, PutField, PutStatic, Refuse, Return, Stack, Store, StoreElement, SwitchLookup, SwitchTable, Throw}
use Rattle.vx_jump_targets.specs.Placed.{starts_in}
use Rattle.vx_kept_facts.specs.Kept.{HasPlacedFrames}
use Rattle.vx_link.specs.Parts.{method_at}
use Rattle.vx_link.specs.declared.program.Program.{Program}
use Rattle.vx_opcode.specs.Decode.{instruction_at}
use Rattle.vx_opcode.specs.declared.instruction.Instruction.{Instruction}
use Rattle.vx_sound.specs.Sound.{IsSound}
use Rattle.vx_sound.specs.Typed.{AreTypings, IsTypedNative, IsTypedNext, IsTypedOutcome, IsTypedRun, IsTypedState, Typings, is_illegal}
use Rattle.vx_verify.specs.Verdict.{IsVerified}

-- where each method has a typing, no run in any configuration and with any limit ends as illegal
abbrev pub VerifiedNeverIllegal : Type 0
VerifiedNeverIllegal = (p : Program) → IsSound p → IsVerified p → (c : Config) (n : ℕ) → is_illegal (run p c n).end ≡ false

-- ---- its steps: a run begins in a typed state; from a typed state whose frames stand at instructions a row, what is carried out of it, and what follows keep to types

abbrev pub StartIsTyped : Type 0
StartIsTyped = (p : Program) (typings : Typings) → IsSound p → AreTypings p typings → (c : Config) → IsTypedRun p typings (start p c)

abbrev pub RowsKeepTypes : Type 0
RowsKeepTypes =
    (p : Program) (typings : Typings) (s : State) → IsSound p → AreTypings p typings → HasPlacedFrames p s → IsTypedState p typings s → IsTypedOutcome p typings (row p s)

abbrev pub CarryingKeepsTypes : Type 0
CarryingKeepsTypes =
    (p : Program) (typings : Typings) (o : Outcome) → IsSound p → AreTypings p typings → IsTypedOutcome p typings o → IsTypedOutcome p typings (outcome_carried_out p o)

abbrev pub NextKeepsTypes : Type 0
NextKeepsTypes = (p : Program) (typings : Typings) (o : Outcome) → IsSound p → AreTypings p typings → IsTypedOutcome p typings o → IsTypedNext p typings (next p o)

-- ---- rows, by the operations of their instructions

-- in a typed state an instruction of such an operation isn't illegal, and leads to typed states
abbrev pub OperationsKeepTypes : (Operation → Bool) → Type 0
OperationsKeepTypes of =
    (p : Program) (typings : Typings) (s : State) (code : Code) (i : Instruction)
    → IsSound p → AreTypings p typings → IsTypedState p typings s
    → (method_at p s.top.method).code ≡ Some code → instruction_at code.bytes s.top.position ≡ Some i → of (operation_of i) ≡ true
    → IsTypedOutcome p typings (row p s)

-- operations on operands and local variables alone: constants of the code, loads and stores, the stack forms, numbers, jumps, tests of a reference, and what is left out
abbrev pub is_of_operands : Operation → Bool
is_of_operands Nop = true
is_of_operands PushNull = true
is_of_operands (PushInt n) = true
is_of_operands (PushLong n) = true
is_of_operands (Load s n) = true
is_of_operands (Store s n) = true
is_of_operands (Stack form) = true
is_of_operands (IntArithmetic op) = true
is_of_operands (LongArithmetic op) = true
is_of_operands IntNegate = true
is_of_operands LongNegate = true
is_of_operands (IntShift op) = true
is_of_operands (LongShift op) = true
is_of_operands (Increase n by) = true
is_of_operands IntToLong = true
is_of_operands LongToInt = true
is_of_operands (IntNarrow to) = true
is_of_operands LongCompare = true
is_of_operands (IfInt test offset) = true
is_of_operands (IfInts test offset) = true
is_of_operands (IfSame wanted offset) = true
is_of_operands (IfNull wanted offset) = true
is_of_operands (Goto offset) = true
is_of_operands (SwitchTable fallback low high first) = true
is_of_operands (SwitchLookup fallback pairs first) = true
is_of_operands Monitor = true
is_of_operands (InstanceOf i) = true
is_of_operands (Refuse word) = true
is_of_operands _ = false

-- operations on arrays, but those that make arrays with their parts
abbrev pub is_of_arrays : Operation → Bool
is_of_arrays (LoadElement e) = true
is_of_arrays (StoreElement e) = true
is_of_arrays (NewPrimitives number) = true
is_of_arrays (NewReferences i) = true
is_of_arrays Length = true
is_of_arrays _ = false

-- operations on objects and fields: constants of the pool, static fields and those of objects, new objects, casts, and what is thrown
abbrev pub is_of_objects : Operation → Bool
is_of_objects (PushEntry i) = true
is_of_objects (GetStatic i) = true
is_of_objects (PutStatic i) = true
is_of_objects (GetField i) = true
is_of_objects (PutField i) = true
is_of_objects (New i) = true
is_of_objects (CheckCast i) = true
is_of_objects Throw = true
is_of_objects _ = false

-- returns
abbrev pub is_return : Operation → Bool
is_return (Return sort) = true
is_return _ = false

-- calls
abbrev pub is_call : Operation → Bool
is_call (Invoke mode i) = true
is_call _ = false

-- arrays with their parts
abbrev pub is_grid : Operation → Bool
is_grid (NewGrid i d) = true
is_grid _ = false

-- so does one that makes arrays with their parts, where it stands among the instructions of its code
abbrev pub GridsKeepTypes : Type 0
GridsKeepTypes =
    (p : Program) (typings : Typings) (s : State) (code : Code) (i : Instruction)
    → IsSound p → AreTypings p typings → IsTypedState p typings s
    → (method_at p s.top.method).code ≡ Some code → instruction_at code.bytes s.top.position ≡ Some i → is_start (starts_in code) s.top.position ≡ true → is_grid (operation_of i) ≡ true
    → IsTypedOutcome p typings (row p s)

-- ---- what is carried out

-- a class begins to be initialised
abbrev pub BeginningsKeepTypes : Type 0
BeginningsKeepTypes =
    (p : Program) (typings : Typings) (s : State) (c : ℕ) → IsSound p → AreTypings p typings → IsTypedState p typings s → IsTypedOutcome p typings (begin p s c)

-- a native method is carried out at its call
abbrev pub NativesKeepTypes : Type 0
NativesKeepTypes =
    (p : Program) (typings : Typings) (s : State) (m : ℕ) → IsSound p → AreTypings p typings → IsTypedState p typings s → IsTypedNative p typings m s → IsTypedOutcome p typings (native p s m)

-- what is carried out keeps to types where native methods do
abbrev pub CarryingFollows : Type 0
CarryingFollows = NativesKeepTypes → CarryingKeepsTypes
