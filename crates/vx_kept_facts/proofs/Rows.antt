-- What the row of an instruction comes to where frames stand at instructions.
use Rattle.std.proofs.Common.{Bool, None, Option, Some, ap, arith, false, inl, inr, length, refl, sym, true, ℕ, ◌≢◌, ◌⊎◌, ◌∙◌, ◌≡◌, ◌||◌}
use Rattle.std.proofs.Math.Dec.{eqb}
use Rattle.std.proofs.lemmas.Bool.Decides.{eqb_tells}
use Rattle.vx_class.specs.declared.class_file.Code.{Code}
use Rattle.vx_pool.specs.Instructions.{is_start}
use Rattle.vx_java.specs.Machine.{Here, State, current_class}
use Rattle.vx_java.specs.Operation.{operation_of}
use Rattle.vx_java.specs.Row.{row, row_at, row_if, row_in}
use Rattle.vx_jump_targets.specs.Placed.{are_well_placed, has_placed_code, is_well_placed, starts_in}
use Rattle.vx_kept_facts.proofs.Places.{jump_checked, place_behind}
use Rattle.vx_kept_facts.specs.Kept.{is_code_end, is_instruction}
use Rattle.vx_kept_facts.specs.Law.{IsRunnable}
use Rattle.vx_link.specs.Parts.{class_at, method_at, no_method}
use Rattle.vx_link.specs.declared.program.Program.{Program}
use Rattle.vx_opcode.specs.Bounds.{lies}
use Rattle.vx_opcode.specs.Decode.{instruction_at}
use Rattle.vx_opcode.specs.declared.instruction.Instruction.{Instruction}
use Rattle.vx_kept_facts.proofs.KeptRows.{item_passes, kept_rows}
use Rattle.vx_kept_facts.proofs.Landings.{leads}
use Rattle.vx_kept_facts.proofs.Operations.{operation_comes}
use Rattle.vx_kept_facts.proofs.RowClaims.{anything}
use Rattle.vx_kept_facts.proofs.Sites.{AtSite, MayCome, StandsAtPlace}

-- ---- rows

-- each code of the program leads from instruction to instruction
pub placed : (p : Program) → are_well_placed p ≡ true → (m : ℕ) → has_placed_code (method_at p m).code ≡ true
placed p all m = item_passes (λ m. has_placed_code m.code) p.methods m no_method all refl

-- an instruction begins where one is read, and not at the end
pub begins_there : (code : Code) (at : ℕ) (i : Instruction) → instruction_at code.bytes at ≡ Some i → (is_instruction (Some code) at || is_code_end (Some code) at) ≡ true
    → is_start (starts_in code) at ≡ true
begins_there code at i is place = by (eqb_tells at (length code.bytes))
  where
    first_of_two : (b : Bool) → (b || false) ≡ true → b ≡ true
    first_of_two true e = refl
    first_of_two false e = e

    by : (((eqb at (length code.bytes) ≡ true) × (at ≡ length code.bytes)) ⊎ ((eqb at (length code.bytes) ≡ false) × (at ≢ length code.bytes))) → is_start (starts_in code) at ≡ true
    by (inl last) = let b = lies code.bytes at i is in absurd (omega (arith, b.some, b.within, last.1))
    by (inr other) = first_of_two (is_start (starts_in code) at) (rw other.0 at place)

pub row_comes : (p : Program) → IsRunnable p → (s : State) → StandsAtPlace p s → MayCome p (row p s)
row_comes p whole s stands = by_code (method_at p s.top.method).code refl
  where
    at_instruction : (code : Code) → (method_at p s.top.method).code ≡ Some code → (i : Instruction) → instruction_at code.bytes s.top.position ≡ Some i → MayCome p (row_at p s code i)
    at_instruction code is i there =
        let h : Here = record { program = p; state = s; code = code; pool = (class_at p (current_class p s)).pool; size = i.length } in
        let start : is_start (starts_in code) s.top.position ≡ true =
        begins_there code s.top.position i there (ap (λ c. is_instruction c s.top.position || is_code_end c s.top.position) (sym is) ∙ stands.top) in
        let is_placed : is_well_placed code ≡ true = ap has_placed_code (sym is) ∙ placed p whole.placed s.top.method in
        let site : AtSite h = record {
          whole = whole;
          code = is;
          here = start;
          behind = place_behind code s.top.position i there start;
          below = stands.below;
          classes = stands.classes;
        } in
        operation_comes kept_rows h site (operation_of i) (leads h i there (jump_checked code s.top.position i is_placed there start))
        (anything kept_rows (λ word what. tt) (λ c. tt) h.pool (operation_of i)) s.top.operands

    by_instruction : (code : Code) → (method_at p s.top.method).code ≡ Some code → (i : Option Instruction) → instruction_at code.bytes s.top.position ≡ i → MayCome p (row_if p s code i)
    by_instruction code is None there = record { leaves = tt }
    by_instruction code is (Some i) there = at_instruction code is i there

    by_code : (code : Option Code) → (method_at p s.top.method).code ≡ code → MayCome p (row_in p s code)
    by_code None is = record { leaves = tt }
    by_code (Some code) is = by_instruction code is (instruction_at code.bytes s.top.position) refl
