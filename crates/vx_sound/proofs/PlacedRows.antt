-- Each row is that of an operation of some family, so rows keep to types.
use Rattle.std.proofs.Common.{None, Option, Some, ap, arith, inl, inr, length, refl, sym, true, ℕ, ◌∙◌, ◌≡◌}
use Rattle.std.proofs.lemmas.Bool.Decides.{Decides-eqb}
use Rattle.std.specs.Prelude.{◌==◌, ◌||◌}
use Rattle.vx_class.specs.declared.class_file.Code.{Code}
use Rattle.vx_pool.specs.Instructions.{is_start}
use Rattle.vx_java.specs.Operation.{operation_of}
use Rattle.vx_java.specs.Row.{row}
use Rattle.vx_java.specs.declared.operation.Operation.{Operation}
use Rattle.vx_java.specs.declared.operation.Operation.TheVariants.{Nop}
use Rattle.vx_jump_targets.specs.Placed.{starts_in}
use Rattle.vx_kept_facts.specs.Kept.{is_code_end, is_instruction}
use Rattle.vx_link.specs.Parts.{method_at}
use Rattle.vx_opcode.specs.Bounds.{lies}
use Rattle.vx_opcode.specs.Decode.{instruction_at}
use Rattle.vx_opcode.specs.declared.instruction.Instruction.{Instruction}
use Rattle.vx_sound.proofs.CallRows.{calls_keep_types}
use Rattle.vx_sound.proofs.GridRows.{grids_keep_types}
use Rattle.vx_sound.proofs.Led.{flowing}
use Rattle.vx_sound.proofs.OperandRows.{operand_rows_typed}
use Rattle.vx_sound.proofs.Operations.{arrays_keep_types, objects_keep_types, returns_keep_types}
use Rattle.vx_sound.proofs.Values.{none_some}
use Rattle.vx_sound.specs.Law.{RowsKeepTypes, is_call, is_grid, is_of_arrays, is_of_objects, is_of_operands, is_return}
use Rattle.vx_sound.specs.Typed.{IsTypedOutcome, IsTypingOf}
use Rattle.vx_sound.specs.Values.{types_of_frame}
use Rattle.vx_types.proofs.Tests.{either}
use Rattle.vx_types.specs.Flow.{flow_from}

-- each operation is of one family
covered : (o : Operation) → (is_of_operands o || (is_of_arrays o || (is_of_objects o || (is_return o || (is_call o || is_grid o))))) ≡ true
covered Nop = refl
covered _ = refl

-- where an instruction can be read, the code does not end
start_there : (code : Code) (at : ℕ) (i : Instruction) → instruction_at code.bytes at ≡ Some i → (is_start (starts_in code) at || (at == length code.bytes)) ≡ true → is_start (starts_in code) at ≡ true
start_there code at i there placed = elim (either (is_start (starts_in code) at) (at == length code.bytes) placed) [
  | inl start ↦ start
  | inr end ↦
      let q = lies code.bytes at i there in
      let some = q.some in
      let within = q.within in
      let past = (Decides-eqb at (length code.bytes)).0 end in
      absurd (omega (arith, some, within, past))
]

pub rows_typed : RowsKeepTypes
rows_typed p typings s sound are placed typed = by (method_at p s.top.method).code refl (are s.top.method)
  where
    start : (code : Code) (i : Instruction) → (method_at p s.top.method).code ≡ Some code → instruction_at code.bytes s.top.position ≡ Some i → is_start (starts_in code) s.top.position ≡ true
    start code i coded there =
        start_there code s.top.position i there
        (ap (λ (o : Option Code). is_instruction o s.top.position || is_code_end o s.top.position) (sym coded) ∙ placed.top)

    of_family : (code : Code) (i : Instruction) → (method_at p s.top.method).code ≡ Some code → instruction_at code.bytes s.top.position ≡ Some i → IsTypedOutcome p typings (row p s)
    of_family code i coded there =
        let o : Operation = operation_of i in
        elim (either (is_of_operands o) (is_of_arrays o || (is_of_objects o || (is_return o || (is_call o || is_grid o)))) (covered o)) [
          | inl is ↦ operand_rows_typed p typings s code i sound are typed coded there is
          | inr a ↦ elim (either (is_of_arrays o) (is_of_objects o || (is_return o || (is_call o || is_grid o))) a) [
            | inl is ↦ arrays_keep_types p typings s code i sound are typed coded there is
            | inr b ↦ elim (either (is_of_objects o) (is_return o || (is_call o || is_grid o)) b) [
              | inl is ↦ objects_keep_types p typings s code i sound are typed coded there is
              | inr c ↦ elim (either (is_return o) (is_call o || is_grid o) c) [
                | inl is ↦ returns_keep_types p typings s code i sound are typed coded there is
                | inr d ↦ elim (either (is_call o) (is_grid o) d) [
                  | inl is ↦ calls_keep_types p typings s code i sound are typed coded there is
                  | inr is ↦ grids_keep_types p typings s code i sound are typed coded there (start code i coded there) is
                ]
              ]
            ]
          ]
        ]

    -- an instruction stands at a position that is covered
    of_instruction : (code : Code) → (method_at p s.top.method).code ≡ Some code → IsTypingOf p s.top.method (Some code) (typings s.top.method) → (o : Option Instruction)
        → instruction_at code.bytes s.top.position ≡ o → IsTypedOutcome p typings (row p s)
    of_instruction code coded is (Some i) there = of_family code i coded there
    of_instruction code coded is None nothing =
        let flow = flowing p sound.hierarchy.ranked s.top.method code (typings s.top.method) is s.top.position (types_of_frame p s.heap s.top) typed.top in
        let refuses = sym (ap (λ (o : Option Instruction). flow_from p s.top.method code s.top.position o (types_of_frame p s.heap s.top)) nothing) ∙ flow.flows in
        absurd cc

    by : (o : Option Code) → (method_at p s.top.method).code ≡ o → IsTypingOf p s.top.method o (typings s.top.method) → IsTypedOutcome p typings (row p s)
    by None e is = none_some (sym (is s.top.position) ∙ typed.top.covered)
    by (Some code) e is = of_instruction code e is (instruction_at code.bytes s.top.position) refl
