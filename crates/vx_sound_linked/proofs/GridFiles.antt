-- In a class file that a reading can give an instruction that makes arrays with their parts gives as many lengths as its descriptor allows.
use Rattle.std.proofs.Common.{Bool, List, None, Option, Some, [], arith, false, length, refl, subst, sym, true, ℕ, ◌&&◌, ◌++◌, ◌∷◌, ◌≡◌}
use Rattle.std.specs.Cmp.Derive.{both_true}
use Rattle.std.specs.List.{AllByRecursion, list_all}
use Rattle.std.specs.Prelude.{nat_le, unwrap_or, ◌||◌}
use Rattle.vx_class.specs.File.{CodeHolds, CodeIs, EachBehind, Holds, MethodHolds}
use Rattle.vx_class.specs.declared.class_file.ClassFile.{ClassFile}
use Rattle.vx_class.specs.declared.class_file.Code.{Code}
use Rattle.vx_class.specs.declared.class_file.Method.{Method}
use Rattle.vx_pool.specs.Checks.{all_hold}
use Rattle.vx_pool.specs.Entries.{usable, where_read}
use Rattle.vx_pool.specs.Holding.{and_true}
use Rattle.vx_pool.specs.Instructions.{OperandHolds, dimensions, is_kind_for, is_start, operand_checks}
use Rattle.vx_pool.specs.Lookups.{class_text, entry_of}
use Rattle.vx_java.specs.Operation.{operation_of, rules}
use Rattle.vx_java.specs.declared.operation.Operation.{Operation}
use Rattle.vx_java.specs.declared.operation.Operation.TheVariants.{NewGrid}
use Rattle.vx_jump_targets.proofs.Lists.{each_passes}
use Rattle.vx_jump_targets.proofs.PlacedFiles.{starts_are}
use Rattle.vx_jump_targets.specs.Placed.{starts_in}
use Rattle.vx_link.specs.Names.{class_name}
use Rattle.vx_kept_facts.proofs.Forms.{formed, is_of_shape}
use Rattle.vx_named_classes.proofs.Pools.{AreChecked, class_at_index}
use Rattle.vx_kept_facts.proofs.Rules.{are_all, each_of, passes_or_is}
use Rattle.vx_named_classes.specs.Named.{is_given}
use Rattle.vx_opcode.specs.Decode.{instruction_at}
use Rattle.vx_opcode.specs.Table.{shape_of}
use Rattle.vx_opcode.specs.declared.instruction.Instruction.{Instruction}
use Rattle.vx_opcode.specs.declared.instruction.Operand.{Operand}
use Rattle.vx_opcode.specs.declared.instruction.Operand.TheVariants as operand
use Rattle.vx_pool.specs.declared.pool.Pool.{Pool}

-- ---- operations

abbrev pub is_fitting_operation : Pool → Operation → Bool
is_fitting_operation pool (NewGrid i d) = nat_le 1 d && nat_le d (dimensions (class_name pool i))
is_fitting_operation pool _ = true

abbrev is_no_grid : Operation → Bool
is_no_grid (NewGrid i d) = false
is_no_grid _ = true

no_grid_fits : (pool : Pool) (o : Operation) → is_no_grid o ≡ true → is_fitting_operation pool o ≡ true
no_grid_fits pool (NewGrid i d) e = absurd cc
no_grid_fits pool _ e = refl

-- multianewarray alone makes such arrays
grid_rules : (o : Operand) → are_all is_no_grid (0xc5 ∷ []) o 0 rules ≡ true
grid_rules operand.Nothing = refl
grid_rules (operand.Number n) = refl
grid_rules (operand.Local n) = refl
grid_rules (operand.Increment n by) = refl
grid_rules (operand.Jump n) = refl
grid_rules (operand.Pool i) = refl
grid_rules (operand.Interface i slots) = refl
grid_rules (operand.Dimensions i d) = refl
grid_rules (operand.Table fallback low high first) = refl
grid_rules (operand.Lookup fallback pairs first) = refl

-- a class that has a name
text_fits : (o : Option (List ℕ)) (d : ℕ) → is_given (unwrap_or o []) ≡ true → where_read (λ name. nat_le d (dimensions name)) o ≡ true → nat_le d (dimensions (unwrap_or o [])) ≡ true
text_fits None d given fits = absurd cc
text_fits (Some name) d given fits = fits

dimensions_fit : (pool : Pool) (major max_locals i d : ℕ) → AreChecked pool → all_hold (operand_checks pool major max_locals 0xc5 (operand.Dimensions i d)) ≡ true
    → (nat_le 1 d && nat_le d (dimensions (class_name pool i))) ≡ true
dimensions_fit pool major max_locals i d checked holds =
    let one = and_true (usable pool i) _ holds in
    let two = and_true (is_kind_for major 0xc5 (entry_of pool i)) _ one.1 in
    let three = and_true _ _ two.1 in
    let four = and_true (nat_le 1 d && where_read (λ name. nat_le d (dimensions name)) (class_text pool i)) true three.1 in
    let parts = and_true (nat_le 1 d) (where_read (λ name. nat_le d (dimensions name)) (class_text pool i)) four.0 in
    both_true parts.0 (text_fits (class_text pool i) d (class_at_index pool i checked two.0) parts.1)

abbrev FitsWith : Pool → ℕ → ℕ → Instruction → ℕ → Type 0
FitsWith pool major max_locals i n =
    is_of_shape (shape_of n) i.operand ≡ true → all_hold (operand_checks pool major max_locals n i.operand) ≡ true → is_fitting_operation pool (operation_of (record i { opcode = n })) ≡ true

grid_fits : (pool : Pool) (major max_locals length : ℕ) (o : Operand) → AreChecked pool → is_of_shape (shape_of 0xc5) o ≡ true → all_hold (operand_checks pool major max_locals 0xc5 o) ≡ true
    → is_fitting_operation pool (operation_of (record { opcode = 0xc5; length = length; operand = o })) ≡ true
grid_fits pool major max_locals length (operand.Dimensions i d) checked shape holds = dimensions_fit pool major max_locals i d checked holds
grid_fits pool major max_locals length _ checked shape holds = absurd cc

pub operation_fits : (pool : Pool) (major max_locals : ℕ) (code : List ℕ) (at : ℕ) (i : Instruction) → AreChecked pool → instruction_at code at ≡ Some i
    → all_hold (operand_checks pool major max_locals i.opcode i.operand) ≡ true → is_fitting_operation pool (operation_of i) ≡ true
operation_fits pool major max_locals code at i checked found holds = by (is_no_grid (operation_of i)) refl (passes_or_is is_no_grid (0xc5 ∷ []) i refl (grid_rules i.operand))
  where
    at_grid : AllByRecursion (FitsWith pool major max_locals i) (0xc5 ∷ [])
    at_grid = (λ shape checks. grid_fits pool major max_locals i.length i.operand checked shape checks, tt)

    by : (b : Bool) → is_no_grid (operation_of i) ≡ b → (b || is_start (0xc5 ∷ []) i.opcode) ≡ true → is_fitting_operation pool (operation_of i) ≡ true
    by true is any = no_grid_fits pool (operation_of i) is
    by false is any = each_of (FitsWith pool major max_locals i) (0xc5 ∷ []) i.opcode at_grid any (formed code at i found) holds

-- ---- codes

abbrev pub is_fitting_instruction : Pool → Option Instruction → Bool
is_fitting_instruction pool None = true
is_fitting_instruction pool (Some i) = is_fitting_operation pool (operation_of i)

abbrev pub is_fitting_code : Pool → Option Code → Bool
is_fitting_code pool None = true
is_fitting_code pool (Some code) = list_all (λ at. is_fitting_instruction pool (instruction_at code.bytes at)) (starts_in code)

instruction_fits : (pool : Pool) (major max_locals : ℕ) (code : List ℕ) → AreChecked pool → (at : ℕ) → OperandHolds pool major max_locals code at → is_fitting_instruction pool (instruction_at code at) ≡ true
instruction_fits pool major max_locals code checked at holds = rw holds.1 (operation_fits pool major max_locals code at holds.0 checked holds.1 holds.2)

code_fits : (pool : Pool) (major slots : ℕ) (code : Code) → AreChecked pool → CodeHolds pool major slots code → is_fitting_code pool (Some code) ≡ true
code_fits pool major slots code checked holds =
    let test : ℕ → Bool = λ at. is_fitting_instruction pool (instruction_at code.bytes at) in
    let P : List ℕ → Type 0 = λ starts. list_all test starts ≡ true in
    let same : starts_in code ≡ holds.starts = starts_are code.bytes (length code.bytes) 0 holds.starts (omega arith) holds.instructions in
    subst P (sym same)
    (each_passes (OperandHolds pool major code.max_locals code.bytes) test (instruction_fits pool major code.max_locals code.bytes checked) holds.starts holds.operands)

some_fits : (pool : Pool) (major slots : ℕ) (takes : Bool) (code : Option Code) → AreChecked pool → CodeIs pool major slots takes code → is_fitting_code pool code ≡ true
some_fits pool major slots takes None checked is = refl
some_fits pool major slots takes (Some code) checked is = code_fits pool major slots code checked is.1

codes_fit : (pool : Pool) (major : ℕ) (front methods : List Method) → AreChecked pool → EachBehind (MethodHolds pool major) front methods → list_all (λ m. is_fitting_code pool m.code) methods ≡ true
codes_fit pool major front [] checked holds = refl
codes_fit pool major front (m ∷ methods) checked holds =
    both_true (some_fits pool major _ _ m.code checked holds.0.code) (codes_fit pool major (front ++ m ∷ []) methods checked holds.1)

abbrev pub is_fitting_file : ClassFile → Bool
is_fitting_file c = list_all (λ m. is_fitting_code c.pool m.code) c.methods

pub file_fits : (c : ClassFile) → Holds c → is_fitting_file c ≡ true
file_fits c holds = codes_fit c.pool c.major [] c.methods holds.entries holds.methods
