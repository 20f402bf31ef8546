-- What each opcode does (JVMS 6.5 and 7).
use Rattle.std.specs.Prelude.{List, None, Some, [], false, nat_abs, negsuc, pos, slice_get, true, unwrap_or, ℕ, ℤ, ◌++◌, ◌∷◌}
use Rattle.vx_java.specs.declared.operation.Element.TheVariants.{Bytes, Chars, Ints, Longs, References, Shorts}
use Rattle.vx_java.specs.declared.operation.Operation.{Operation}
use Rattle.vx_java.specs.declared.operation.Operation.TheVariants.{CheckCast, GetField, GetStatic, Goto, IfInt, IfInts, IfNull, IfSame, Increase, InstanceOf, IntArithmetic, IntNarrow, IntNegate, IntShift, IntToLong, Invoke, Length, Load, LoadElement, LongArithmetic, LongCompare, LongNegate, LongShift, LongToInt, Monitor, New, NewGrid, NewPrimitives, NewReferences, Nop, PushEntry, PushInt, PushLong, PushNull, PutField, PutStatic, Refuse, Return, Stack, Store, StoreElement, SwitchLookup, SwitchTable, Throw}
use Rattle.vx_java.specs.declared.operation.Shuffle.TheVariants.{Dup, Dup2, Dup2X1, Dup2X2, DupX1, DupX2, Pop, Pop2, Swap}
use Rattle.vx_java.specs.declared.operation.Sort.TheVariants.{Int, Long, Reference}
use Rattle.vx_java.specs.declared.operation.Test.TheVariants.{Eq, Ge, Gt, Le, Lt, Ne}
use Rattle.vx_opcode.specs.declared.instruction.Instruction.{Instruction}
use Rattle.vx_opcode.specs.declared.instruction.Operand.{Operand}
use Rattle.vx_opcode.specs.declared.instruction.Operand.TheVariants.{Dimensions, Increment, Interface, Jump, Local, Lookup, Number, Pool, Table}
use Rattle.vx_value.specs.declared.operation.IntOp.TheVariants.{Add, And, Div, Mul, Or, Rem, Sub, Xor}
use Rattle.vx_value.specs.declared.operation.Narrow.TheVariants.{Byte, Char, Short}
use Rattle.vx_value.specs.declared.operation.ShiftOp.TheVariants.{Left, Right, Unsigned}
use Rattle.vx_java.specs.declared.operation.Mode.TheVariants.{Virtual, Special, Static, Interface as InterfaceMode}

-- ---- words for what ends a run as unsupported

abbrev pub float_word : ℕ
float_word = 1

abbrev pub subroutine_word : ℕ
subroutine_word = 2

abbrev pub dynamic_word : ℕ
dynamic_word = 3

abbrev pub constant_word : ℕ
constant_word = 4

abbrev pub native_word : ℕ
native_word = 5

abbrev pub class_word : ℕ
class_word = 6

abbrev pub field_word : ℕ
field_word = 7

abbrev pub method_word : ℕ
method_word = 8

-- the instructions that are left out: of floats and doubles, of subroutines, and invokedynamic
abbrev pub floating : Operation
floating = Refuse float_word

abbrev pub dynamic : Operation
dynamic = Refuse dynamic_word

abbrev pub subroutine : Operation
subroutine = Refuse subroutine_word

-- ---- operands

-- the numbers of an operand; the fixed form of the instruction says that it has them
abbrev pub local_of : Operand → ℕ
local_of (Local n) = n
local_of (Increment n by) = n
local_of _ = 0

abbrev pub number_of : Operand → ℤ
number_of (Number n) = n
number_of (Jump n) = n
number_of (Increment n by) = by
number_of _ = pos 0

abbrev pub entry_of : Operand → ℕ
entry_of (Pool i) = i
entry_of (Interface i slots) = i
entry_of (Dimensions i d) = i
entry_of _ = 0

abbrev pub dimensions_of : Operand → ℕ
dimensions_of (Dimensions i d) = d
dimensions_of _ = 0

abbrev pub switch_of : Operand → Operation
switch_of (Table fallback low high first) = SwitchTable fallback low high first
switch_of (Lookup fallback pairs first) = SwitchLookup fallback pairs first
switch_of _ = Nop

-- ---- the table

-- rows of the table: an operation alone, with a local, a jump, a pool entry
abbrev pub Rule : Type 0
Rule = Operand → Operation

abbrev pub does : Operation → Rule
does o = λ _. o

abbrev pub local : (ℕ → Operation) → Rule
local f = λ o. f (local_of o)

abbrev pub jump : (ℤ → Operation) → Rule
jump f = λ o. f (number_of o)

abbrev pub entry : (ℕ → Operation) → Rule
entry f = λ o. f (entry_of o)

-- the forms 0 to 3 of a load or a store
abbrev pub four : (ℕ → Operation) → List Rule
four f = does (f 0) ∷ does (f 1) ∷ does (f 2) ∷ does (f 3) ∷ []

abbrev pub rules_00 : List Rule
rules_00 =
    does Nop ∷ does PushNull  -- 00 nop, 01 aconst_null
    ∷ does (PushInt (negsuc 0)) ∷ does (PushInt (pos 0)) ∷ does (PushInt (pos 1)) ∷ does (PushInt (pos 2))
    ∷ does (PushInt (pos 3)) ∷ does (PushInt (pos 4)) ∷ does (PushInt (pos 5))  -- 02 iconst_m1 to 08 iconst_5
    ∷ does (PushLong (pos 0)) ∷ does (PushLong (pos 1))  -- 09 lconst_0, 0a lconst_1
    ∷ does floating ∷ does floating ∷ does floating ∷ does floating ∷ does floating  -- 0b fconst_0 to 0f dconst_1
    ∷ []

abbrev pub rules_10 : List Rule
rules_10 =
    jump PushInt ∷ jump PushInt  -- 10 bipush, 11 sipush
    ∷ entry PushEntry ∷ entry PushEntry ∷ entry PushEntry  -- 12 ldc, 13 ldc_w, 14 ldc2_w
    ∷ local (Load Int) ∷ local (Load Long) ∷ does floating ∷ does floating ∷ local (Load Reference)  -- 15 iload to 19 aload
    ∷ (four (Load Int)  -- 1a iload_0
    ++ (does (Load Long 0) ∷ does (Load Long 1) ∷ []))  -- 1e lload_0

abbrev pub rules_20 : List Rule
rules_20 =
    does (Load Long 2) ∷ does (Load Long 3)  -- 20 lload_2
    ∷ does floating ∷ does floating ∷ does floating ∷ does floating  -- 22 fload_0
    ∷ does floating ∷ does floating ∷ does floating ∷ does floating  -- 26 dload_0
    ∷ (four (Load Reference)  -- 2a aload_0
    ++ (does (LoadElement Ints) ∷ does (LoadElement Longs) ∷ []))  -- 2e iaload, 2f laload

abbrev pub rules_30 : List Rule
rules_30 =
    does floating ∷ does floating ∷ does (LoadElement References)  -- 30 faload, 31 daload, 32 aaload
    ∷ does (LoadElement Bytes) ∷ does (LoadElement Chars) ∷ does (LoadElement Shorts)  -- 33 baload, 34 caload, 35 saload
    ∷ local (Store Int) ∷ local (Store Long) ∷ does floating ∷ does floating ∷ local (Store Reference)  -- 36 istore to 3a astore
    ∷ (four (Store Int)  -- 3b istore_0
    ++ (does (Store Long 0) ∷ []))  -- 3f lstore_0

abbrev pub rules_40 : List Rule
rules_40 =
    does (Store Long 1) ∷ does (Store Long 2) ∷ does (Store Long 3)  -- 40 lstore_1
    ∷ does floating ∷ does floating ∷ does floating ∷ does floating  -- 43 fstore_0
    ∷ does floating ∷ does floating ∷ does floating ∷ does floating  -- 47 dstore_0
    ∷ (four (Store Reference)  -- 4b astore_0
    ++ (does (StoreElement Ints) ∷ []))  -- 4f iastore

abbrev pub rules_50 : List Rule
rules_50 =
    does (StoreElement Longs) ∷ does floating ∷ does floating ∷ does (StoreElement References)  -- 50 lastore, 51 fastore, 52 dastore, 53 aastore
    ∷ does (StoreElement Bytes) ∷ does (StoreElement Chars) ∷ does (StoreElement Shorts)  -- 54 bastore, 55 castore, 56 sastore
    ∷ does (Stack Pop) ∷ does (Stack Pop2) ∷ does (Stack Dup) ∷ does (Stack DupX1) ∷ does (Stack DupX2)  -- 57 pop to 5b dup_x2
    ∷ does (Stack Dup2) ∷ does (Stack Dup2X1) ∷ does (Stack Dup2X2) ∷ does (Stack Swap)  -- 5c dup2 to 5f swap
    ∷ []

abbrev pub rules_60 : List Rule
rules_60 =
    does (IntArithmetic Add) ∷ does (LongArithmetic Add) ∷ does floating ∷ does floating  -- 60 iadd, 61 ladd
    ∷ does (IntArithmetic Sub) ∷ does (LongArithmetic Sub) ∷ does floating ∷ does floating  -- 64 isub, 65 lsub
    ∷ does (IntArithmetic Mul) ∷ does (LongArithmetic Mul) ∷ does floating ∷ does floating  -- 68 imul, 69 lmul
    ∷ does (IntArithmetic Div) ∷ does (LongArithmetic Div) ∷ does floating ∷ does floating  -- 6c idiv, 6d ldiv
    ∷ []

abbrev pub rules_70 : List Rule
rules_70 =
    does (IntArithmetic Rem) ∷ does (LongArithmetic Rem) ∷ does floating ∷ does floating  -- 70 irem, 71 lrem
    ∷ does IntNegate ∷ does LongNegate ∷ does floating ∷ does floating  -- 74 ineg, 75 lneg
    ∷ does (IntShift Left) ∷ does (LongShift Left) ∷ does (IntShift Right) ∷ does (LongShift Right)  -- 78 ishl to 7b lshr
    ∷ does (IntShift Unsigned) ∷ does (LongShift Unsigned)  -- 7c iushr, 7d lushr
    ∷ does (IntArithmetic And) ∷ does (LongArithmetic And)  -- 7e iand, 7f land
    ∷ []

abbrev pub rules_80 : List Rule
rules_80 =
    does (IntArithmetic Or) ∷ does (LongArithmetic Or) ∷ does (IntArithmetic Xor) ∷ does (LongArithmetic Xor)  -- 80 ior to 83 lxor
    ∷ (λ o. Increase (local_of o) (number_of o))  -- 84 iinc
    ∷ does IntToLong ∷ does floating ∷ does floating ∷ does LongToInt  -- 85 i2l, 88 l2i
    ∷ does floating ∷ does floating ∷ does floating ∷ does floating  -- 89 l2f to 8c f2l
    ∷ does floating ∷ does floating ∷ does floating  -- 8d f2d to 8f d2l
    ∷ []

abbrev pub rules_90 : List Rule
rules_90 =
    does floating ∷ does (IntNarrow Byte) ∷ does (IntNarrow Char) ∷ does (IntNarrow Short)  -- 90 d2f, 91 i2b, 92 i2c, 93 i2s
    ∷ does LongCompare ∷ does floating ∷ does floating ∷ does floating ∷ does floating  -- 94 lcmp, 95 fcmpl to 98 dcmpg
    ∷ jump (IfInt Eq) ∷ jump (IfInt Ne) ∷ jump (IfInt Lt) ∷ jump (IfInt Ge) ∷ jump (IfInt Gt) ∷ jump (IfInt Le)  -- 99 ifeq to 9e ifle
    ∷ jump (IfInts Eq)  -- 9f if_icmpeq
    ∷ []

abbrev pub rules_a0 : List Rule
rules_a0 =
    jump (IfInts Ne) ∷ jump (IfInts Lt) ∷ jump (IfInts Ge) ∷ jump (IfInts Gt) ∷ jump (IfInts Le)  -- a0 if_icmpne to a4 if_icmple
    ∷ jump (IfSame true) ∷ jump (IfSame false)  -- a5 if_acmpeq, a6 if_acmpne
    ∷ jump Goto ∷ does subroutine ∷ does subroutine  -- a7 goto, a8 jsr, a9 ret
    ∷ switch_of ∷ switch_of  -- aa tableswitch, ab lookupswitch
    ∷ does (Return (Some Int)) ∷ does (Return (Some Long)) ∷ does floating ∷ does floating  -- ac ireturn, ad lreturn
    ∷ []

abbrev pub rules_b0 : List Rule
rules_b0 =
    does (Return (Some Reference)) ∷ does (Return None)  -- b0 areturn, b1 return
    ∷ entry GetStatic ∷ entry PutStatic ∷ entry GetField ∷ entry PutField  -- b2 getstatic to b5 putfield
    ∷ entry (Invoke Virtual) ∷ entry (Invoke Special) ∷ entry (Invoke Static) ∷ entry (Invoke InterfaceMode)  -- b6 invokevirtual to b9 invokeinterface
    ∷ does dynamic ∷ entry New ∷ (λ o. NewPrimitives (nat_abs (number_of o))) ∷ entry NewReferences  -- ba invokedynamic, bb new, bc newarray, bd anewarray
    ∷ does Length ∷ does Throw  -- be arraylength, bf athrow
    ∷ []

abbrev pub rules_c0 : List Rule
rules_c0 =
    entry CheckCast ∷ entry InstanceOf ∷ does Monitor ∷ does Monitor  -- c0 checkcast, c1 instanceof, c2 monitorenter, c3 monitorexit
    ∷ does Nop ∷ (λ o. NewGrid (entry_of o) (dimensions_of o))  -- c4 wide never stands alone, c5 multianewarray
    ∷ jump (IfNull true) ∷ jump (IfNull false) ∷ jump Goto ∷ does subroutine  -- c6 ifnull, c7 ifnonnull, c8 goto_w, c9 jsr_w
    ∷ []

-- the rules of the opcodes from 00 to c9
abbrev pub rules : List Rule
rules =
    rules_00 ++ (rules_10 ++ (rules_20 ++ (rules_30 ++ (rules_40 ++ (rules_50 ++ (rules_60 ++ (rules_70 ++ (rules_80 ++ (rules_90 ++ (rules_a0 ++ (rules_b0 ++ rules_c0)))))))))))

-- what an instruction does
abbrev pub operation_of : Instruction → Operation
operation_of i = (unwrap_or (slice_get rules i.opcode) (does Nop)) i.operand
