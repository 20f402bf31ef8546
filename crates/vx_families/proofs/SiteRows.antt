-- What the row of an instruction that is there comes to.
use Rattle.std.proofs.Common.{◌≡◌, ℕ, sym, ◌∙◌, ap}
use Rattle.std.specs.Prelude.{Some}
use Rattle.vx_families.specs.Attempts.{row_by}
use Rattle.vx_group_states.specs.declared.site.Site.{Site}
use Rattle.vx_java.specs.Machine.{Here, State, current_class}
use Rattle.vx_java.specs.Operation.{operation_of}
use Rattle.vx_java.specs.Row.{row, row_if, row_in, row_of}
use Rattle.vx_java.specs.declared.operation.Operation.{Operation}
use Rattle.vx_link.specs.Parts.{class_at, method_at}
use Rattle.vx_opcode.specs.Decode.{instruction_at}
use Rattle.vx_opcode.specs.declared.instruction.Instruction.{Instruction}

pub row_there : (site : Site) (operation : Operation) (s : State) (instruction : Instruction) → (method_at site.program.now s.top.method).code ≡ Some site.code.now → instruction_at site.code.now.bytes s.top.position ≡ Some instruction → site.size ≡ instruction.length → operation ≡ operation_of instruction → row site.program.now s ≡ row_by site operation s
row_there site operation s instruction code found size does =
    let p = site.program.now in
    let seen : ℕ → Here = λ n. record { program = p; state = s; code = site.code.now; pool = (class_at p (current_class p s)).pool; size = n } in
    ap (row_in p s) code ∙ ap (row_if p s site.code.now) found ∙ (λ i. row_of (seen (sym size i)) (sym does i) s.top.operands)
