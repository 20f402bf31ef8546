-- A class file that a reading can give has a name, and its instructions name their classes by texts.
use Rattle.std.proofs.Common.{Bool, List, None, Option, Some, [], arith, length, refl, subst, sym, true, ℕ, ◌&&◌, ◌++◌, ◌∷◌, ◌≡◌}
use Rattle.std.specs.Cmp.Derive.{both_true}
use Rattle.std.specs.List.{list_all}
use Rattle.vx_class.specs.File.{CodeHolds, CodeIs, EachBehind, Holds, MethodHolds}
use Rattle.vx_class.specs.declared.class_file.ClassFile.{ClassFile}
use Rattle.vx_class.specs.declared.class_file.Code.{Code}
use Rattle.vx_class.specs.declared.class_file.Method.{Method}
use Rattle.vx_pool.specs.Instructions.{OperandHolds}
use Rattle.vx_jump_targets.proofs.Lists.{each_passes}
use Rattle.vx_jump_targets.proofs.PlacedFiles.{starts_are}
use Rattle.vx_jump_targets.specs.Placed.{starts_in}
use Rattle.vx_link.specs.Faults.{name_of}
use Rattle.vx_opcode.specs.Decode.{instruction_at}
use Rattle.vx_pool.specs.declared.pool.Pool.{Pool}
use Rattle.vx_named_classes.specs.Named.{is_given, is_named_code, is_named_instruction}
use Rattle.vx_named_classes.proofs.Operations.{operation_named}
use Rattle.vx_named_classes.proofs.Pools.{AreChecked, class_at_index}

instruction_named : (pool : Pool) (major max_locals : ℕ) (code : List ℕ) → AreChecked pool → (at : ℕ) → OperandHolds pool major max_locals code at → is_named_instruction pool (instruction_at code at) ≡ true
instruction_named pool major max_locals code checked at holds = rw holds.1 (operation_named pool major max_locals code at holds.0 checked holds.1 holds.2)

code_named : (pool : Pool) (major slots : ℕ) (code : Code) → AreChecked pool → CodeHolds pool major slots code → is_named_code pool (Some code) ≡ true
code_named pool major slots code checked holds =
    let test : ℕ → Bool = λ at. is_named_instruction pool (instruction_at code.bytes at) in
    let P : List ℕ → Type 0 = λ starts. list_all test starts ≡ true in
    let same : starts_in code ≡ holds.starts = starts_are code.bytes (length code.bytes) 0 holds.starts (omega arith) holds.instructions in
    subst P (sym same)
    (each_passes (OperandHolds pool major code.max_locals code.bytes) test (instruction_named pool major code.max_locals code.bytes checked) holds.starts holds.operands)

some_named : (pool : Pool) (major slots : ℕ) (takes : Bool) (code : Option Code) → AreChecked pool → CodeIs pool major slots takes code → is_named_code pool code ≡ true
some_named pool major slots takes None checked is = refl
some_named pool major slots takes (Some code) checked is = code_named pool major slots code checked is.1

codes_named : (pool : Pool) (major : ℕ) (front methods : List Method) → AreChecked pool → EachBehind (MethodHolds pool major) front methods → list_all (λ m. is_named_code pool m.code) methods ≡ true
codes_named pool major front [] checked holds = refl
codes_named pool major front (m ∷ methods) checked holds =
    both_true (some_named pool major _ _ m.code checked holds.0.code) (codes_named pool major (front ++ m ∷ []) methods checked holds.1)

abbrev pub is_named_file : ClassFile → Bool
is_named_file c = is_given (name_of c) && list_all (λ m. is_named_code c.pool m.code) c.methods

pub file_named : (c : ClassFile) → Holds c → is_named_file c ≡ true
file_named c holds = both_true (class_at_index c.pool c.this_class holds.entries holds.this_class.0) (codes_named c.pool c.major [] c.methods holds.entries holds.methods)
