-- The operations on operands and local variables alone, each by its types.
use Rattle.std.proofs.Common.{Bool, List, None, Option, Some, [], false, refl, subst, sym, true, ℕ, ◌+◌, ◌∷◌, ◌≡◌}
use Rattle.std.proofs.lemmas.List.Elements.{All-head}
use Rattle.std.specs.Int.{w32, w64}
use Rattle.std.specs.Prelude.{option_map}
use Rattle.vx_class.specs.declared.class_file.Code.{Code}
use Rattle.vx_java.specs.Checks.{if_there}
use Rattle.vx_java.specs.Jumps.{target}
use Rattle.vx_java.specs.Machine.{Here, Int, Long, Null, Ref, State, Value, current_class, object_at, push}
use Rattle.vx_java.specs.Objects.{against, instance_of, int_of_bool, monitor}
use Rattle.vx_java.specs.Operation.{operation_of}
use Rattle.vx_java.specs.Row.{row, row_at, row_if, row_in}
use Rattle.vx_java.specs.Row as machine
use Rattle.vx_java.specs.declared.operation.Operation.{Operation}
use Rattle.vx_java.specs.declared.operation.Shuffle.{Shuffle}
use Rattle.vx_java.specs.declared.operation.Operation.TheVariants.{Goto, IfInt, IfInts, IfNull, IfSame, Increase, InstanceOf, IntArithmetic, IntNarrow, IntNegate, IntShift, IntToLong, Load, LongArithmetic, LongCompare, LongNegate, LongShift, LongToInt, Monitor, Nop, PushInt, PushLong, PushNull, Refuse, Stack, Store, SwitchLookup, SwitchTable}
use Rattle.vx_link.specs.Assignability.{assignable}
use Rattle.vx_link.specs.ClassNames.{class_named}
use Rattle.vx_link.specs.Names.{class_name}
use Rattle.vx_link.specs.Parts.{class_at, method_at}
use Rattle.vx_link.specs.declared.program.Program.{Program}
use Rattle.vx_opcode.specs.Decode.{count, instruction_at}
use Rattle.vx_opcode.specs.declared.instruction.Instruction.{Instruction}
use Rattle.vx_sound.proofs.Arithmetic.{int_arithmetic_typed, int_shift_typed, long_arithmetic_typed, long_compare_typed, long_shift_typed, on_int_typed, on_long_typed}
use Rattle.vx_sound.proofs.Jumps.{if_int_typed, if_ints_typed, if_null_typed, if_same_typed, jumps, switch_lookup_typed, switch_table_typed}
use Rattle.vx_sound.proofs.Led.{IsLed, led}
use Rattle.vx_sound.proofs.Moves.{increase_typed, load_typed, stack_typed, store_typed}
use Rattle.vx_sound.proofs.Sites.{AtSite, LeadsTo, Typed, behind, goes_under, pushes, raises, types_here, types_in, types_with}
use Rattle.vx_sound.proofs.Taken.{reference_on_top, taken_from}
use Rattle.vx_sound.specs.Law.{is_of_operands}
use Rattle.vx_sound.specs.Sound.{IsSound}
use Rattle.vx_sound.specs.Typed.{AreTypings, IsTypedOutcome, IsTypedState, Typings}
use Rattle.vx_sound.specs.Values.{type_of_value}
use Rattle.vx_types.specs.Flow as flow
use Rattle.vx_types.specs.Flow.{put, taken, targets_from}
use Rattle.vx_types.specs.Plain.{int, long, reference}
use Rattle.vx_types.specs.Types.{VerState}
use Rattle.vx_types.specs.declared.types.Row.TheVariants.{Takes}
use Rattle.vx_types.specs.declared.types.VerType.{VerType}
use Rattle.vx_types.specs.declared.types.VerType.TheVariants as is
use Rattle.vx_types.specs.declared.types.Want.{Want}
use Rattle.vx_value.specs.Arithmetic.{long_to_int, narrow_of, negation}
use Rattle.vx_verify.specs.Typing.{IsReached}

module _ (typings : Typings) (h : Here) (site : AtSite typings h) where
  -- a row that takes operands, by what stands under them
  taking : {X : Type 0} (wanted : List Want) (given : Option VerType) (positions : List ℕ) (made : VerState) → flow.after h.program (Takes wanted given) (types_here h) ≡ Some made
      → LeadsTo typings h positions made
      → ((rest : List VerType) → taken h.program wanted (types_in h h.state.top.operands) ≡ Some rest → LeadsTo typings h positions (types_with h (put given rest)) → X) → X
  taking wanted given positions made e leads each =
      let t = taken_from h.program wanted given (types_here h) made e in
      each t.rest t.takes (subst (λ (u : VerState). LeadsTo typings h positions u) (sym t.is) leads)

  -- ---- tests of a reference

  bool_is_int : (b : Bool) → type_of_value h.program h.state.heap (int_of_bool b) ≡ is.Int
  bool_is_int true = refl
  bool_is_int false = refl

  instance_of_typed : (name : List ℕ) (operands : List Value) (rest : List VerType) → taken h.program (reference ∷ []) (types_in h operands) ≡ Some rest
      → LeadsTo typings h (behind h ∷ []) (types_with h (is.Int ∷ rest)) → Typed typings h (instance_of h name operands)
  instance_of_typed name operands rest e leads =
      reference_on_top h.program h.state.heap (λ ops. Typed typings h (instance_of h name ops)) [] operands rest e
      (λ under k. pushes typings h site (int_of_bool false) under is.Int rest refl k leads)
      (λ r under q k. by r under k (class_named h.program name))
    where
      by : (r : ℕ) (under : List Value) → Some (types_in h under) ≡ Some rest → (c : Option ℕ) → Typed typings h (if_there h name c (λ d. against h (Ref r) d (λ fits. push h (int_of_bool fits) under)))
      by r under k None = refl
      by r under k (Some d) =
          let fits = assignable h.program (object_at h.state r).class d in
          pushes typings h site (int_of_bool fits) under is.Int rest (bool_is_int fits) k leads

  monitor_typed : (operands : List Value) (rest : List VerType) → taken h.program (reference ∷ []) (types_in h operands) ≡ Some rest
      → LeadsTo typings h (behind h ∷ []) (types_with h rest) → Typed typings h (monitor h operands)
  monitor_typed operands rest e leads =
      reference_on_top h.program h.state.heap (λ ops. Typed typings h (monitor h ops)) [] operands rest e
      (λ under k. raises typings h site "java/lang/NullPointerException" None refl)
      (λ r under q k. goes_under typings h site under rest k leads)

  -- ---- stack forms

  moving : (o : Option (List VerType)) (made : VerState) → option_map (λ (these : List VerType). types_with h these) o ≡ Some made → (these : List VerType) → o ≡ Some these → types_with h these ≡ made
  moving None made e these same = absurd cc
  moving (Some xs) made e these same = cc

  stack_moves : (form : Shuffle) (made : VerState) → flow.with_operands (types_here h) (flow.moved form (types_in h h.state.top.operands)) ≡ Some made
      → LeadsTo typings h (behind h ∷ []) made → Typed typings h (machine.row_of h (Stack form) h.state.top.operands)
  stack_moves form made e leads = by (flow.moved form (types_in h h.state.top.operands)) refl e
    where
      by : (o : Option (List VerType)) → flow.moved form (types_in h h.state.top.operands) ≡ o → flow.with_operands (types_here h) o ≡ Some made
          → Typed typings h (machine.row_of h (Stack form) h.state.top.operands)
      by None q e = absurd cc
      by (Some these) q e =
          stack_typed typings h site form these q
          (subst (λ (u : VerState). LeadsTo typings h (behind h ∷ []) u) (sym (moving (Some these) made e these refl)) leads)

  -- ---- each operation

  abbrev ops : List Value
  ops = h.state.top.operands

  pub operands_typed : (o : Operation) → is_of_operands o ≡ true → IsLed typings h o → Typed typings h (machine.row_of h o h.state.top.operands)
  operands_typed Nop k l = taking [] None (behind h ∷ []) l.made l.makes l.leads (λ rest e leads. goes_under typings h site ops rest e leads)
  operands_typed PushNull k l = taking [] (Some is.Null) (behind h ∷ []) l.made l.makes l.leads (λ rest e leads. pushes typings h site Null ops is.Null rest refl e leads)
  operands_typed (PushInt n) k l = taking [] (Some is.Int) (behind h ∷ []) l.made l.makes l.leads (λ rest e leads. pushes typings h site (Int n) ops is.Int rest refl e leads)
  operands_typed (PushLong n) k l = taking [] (Some is.Long) (behind h ∷ []) l.made l.makes l.leads (λ rest e leads. pushes typings h site (Long n) ops is.Long rest refl e leads)
  operands_typed (Load s n) k l = load_typed typings h site s n l.made l.makes l.leads
  operands_typed (Store s n) k l = store_typed typings h site s n ops l.made l.makes l.leads
  operands_typed (Stack form) k l = stack_moves form l.made l.makes l.leads
  operands_typed (IntArithmetic op) k l = taking (int ∷ int ∷ []) (Some is.Int) (behind h ∷ []) l.made l.makes l.leads (int_arithmetic_typed typings h site op ops)
  operands_typed (LongArithmetic op) k l = taking (long ∷ long ∷ []) (Some is.Long) (behind h ∷ []) l.made l.makes l.leads (long_arithmetic_typed typings h site op ops)
  operands_typed IntNegate k l = taking (int ∷ []) (Some is.Int) (behind h ∷ []) l.made l.makes l.leads (on_int_typed typings h site (λ a. Int (negation w32 a)) is.Int (λ n. refl) ops)
  operands_typed LongNegate k l = taking (long ∷ []) (Some is.Long) (behind h ∷ []) l.made l.makes l.leads (on_long_typed typings h site (λ a. Long (negation w64 a)) is.Long (λ n. refl) ops)
  operands_typed (IntShift op) k l = taking (int ∷ int ∷ []) (Some is.Int) (behind h ∷ []) l.made l.makes l.leads (int_shift_typed typings h site op ops)
  operands_typed (LongShift op) k l = taking (int ∷ long ∷ []) (Some is.Long) (behind h ∷ []) l.made l.makes l.leads (long_shift_typed typings h site op ops)
  operands_typed (Increase n by) k l = increase_typed typings h site n by l.made l.makes l.leads
  operands_typed IntToLong k l = taking (int ∷ []) (Some is.Long) (behind h ∷ []) l.made l.makes l.leads (on_int_typed typings h site (λ a. Long a) is.Long (λ n. refl) ops)
  operands_typed LongToInt k l = taking (long ∷ []) (Some is.Int) (behind h ∷ []) l.made l.makes l.leads (on_long_typed typings h site (λ a. Int (long_to_int a)) is.Int (λ n. refl) ops)
  operands_typed (IntNarrow to) k l = taking (int ∷ []) (Some is.Int) (behind h ∷ []) l.made l.makes l.leads (on_int_typed typings h site (λ a. Int (narrow_of to a)) is.Int (λ n. refl) ops)
  operands_typed LongCompare k l = taking (long ∷ long ∷ []) (Some is.Int) (behind h ∷ []) l.made l.makes l.leads (long_compare_typed typings h site ops)
  operands_typed (IfInt test offset) k l = taking (int ∷ []) None (target h offset ∷ behind h ∷ []) l.made l.makes l.leads (if_int_typed typings h site test offset ops)
  operands_typed (IfInts test offset) k l = taking (int ∷ int ∷ []) None (target h offset ∷ behind h ∷ []) l.made l.makes l.leads (if_ints_typed typings h site test offset ops)
  operands_typed (IfSame wanted offset) k l = taking (reference ∷ reference ∷ []) None (target h offset ∷ behind h ∷ []) l.made l.makes l.leads (if_same_typed typings h site wanted offset ops)
  operands_typed (IfNull wanted offset) k l = taking (reference ∷ []) None (target h offset ∷ behind h ∷ []) l.made l.makes l.leads (if_null_typed typings h site wanted offset ops)
  operands_typed (Goto offset) k l = taking [] None (target h offset ∷ []) l.made l.makes l.leads (λ rest e leads.
      jumps typings h site offset ops rest e (All-head (λ position. IsReached h.program (typings h.state.top.method) position (types_with h rest)) (target h offset) [] leads.reached))
  operands_typed (SwitchTable fallback low high first) k l =
      taking (int ∷ []) None (target h fallback ∷ targets_from h.code.bytes h.state.top.position first 4 (count low high)) l.made l.makes l.leads (switch_table_typed typings h site fallback low high first ops)
  operands_typed (SwitchLookup fallback pairs first) k l =
      taking (int ∷ []) None (target h fallback ∷ targets_from h.code.bytes h.state.top.position (first + 4) 8 pairs) l.made l.makes l.leads (switch_lookup_typed typings h site fallback pairs first ops)
  operands_typed Monitor k l = taking (reference ∷ []) None (behind h ∷ []) l.made l.makes l.leads (monitor_typed ops)
  operands_typed (InstanceOf i) k l = taking (reference ∷ []) (Some is.Int) (behind h ∷ []) l.made l.makes l.leads (instance_of_typed (class_name h.pool i) ops)
  operands_typed (Refuse word) k l = refl
  operands_typed _ k l = absurd cc

-- ---- the row at a state

pub operand_rows_typed : (p : Program) (typings : Typings) (s : State) (code : Code) (i : Instruction)
    → IsSound p → AreTypings p typings → IsTypedState p typings s
    → (method_at p s.top.method).code ≡ Some code → instruction_at code.bytes s.top.position ≡ Some i → is_of_operands (operation_of i) ≡ true
    → IsTypedOutcome p typings (row p s)
operand_rows_typed p typings s code i sound are typed coded there is =
    let h : Here = record { program = p; state = s; code = code; pool = (class_at p (current_class p s)).pool; size = i.length } in
    let site : AtSite typings h = record { sound = sound; are = are; code = coded; pool = refl; state = typed } in
    subst (λ (o : Option Code). IsTypedOutcome p typings (row_in p s o)) (sym coded)
    (subst (λ (o : Option Instruction). IsTypedOutcome p typings (row_if p s code o)) (sym there)
    (operands_typed typings h site (operation_of i) is (led typings h site i there refl)))
