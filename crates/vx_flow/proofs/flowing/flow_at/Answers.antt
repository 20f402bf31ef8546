use Rattle.std.proofs.Common.{List, Some, ap, arith, sym, ℕ, ◌∙◌, ◌≡◌}
use Rattle.std.proofs.lemmas.Result.{IfOk-weaker}
use Rattle.vx_flow.proofs.Flows.{fits_before, no_instruction, refused_before, the_instruction}
use Rattle.vx_flow.specs.Flowing.{flow_at, plain}
use Rattle.vx_opcode.specs.Decode.{instruction_at}
use Rattle.vx_types.specs.Flow.{flow_by}
use Rattle.vx_types.specs.Rows.{row_of}
use Rattle.vx_verify.proofs.Entries.{entries_fit, none_decoded, some_decoded}
use Rattle.vx_flow.proofs.flowing.flow_at.Goals as goal

pub decode-requires : goal.decode-requires
decode-requires c = let short = c.requires.short in rw c.as_slice-2.ensures (omega (arith, short))

pub returns-then-not-fit_in : goal.returns-then-not-fit_in
returns-then-not-fit_in c =
    refused_before c.args.program.now c.args.method.0 c.args.code.now c.args.position (plain c.args.before.now) (rw c.as_slice.ensures at (sym c.fit_in.ensures ∙ c.if-not-fit_in.true))

pub returns-in_default : goal.returns-in_default
returns-in_default c =
    let p = c.args.program.now in
    let code = c.args.code.now in
    let before = plain c.args.before.now in
    no_instruction p c.args.method.0 code c.args.position before
    (ap (λ (bytes : List ℕ). instruction_at bytes c.args.position) (sym c.as_slice-2.ensures) ∙ none_decoded _ _ _ (sym c.decode.ensures.value ∙ c.in_default.is))
    ∙ fits_before p c.args.method.0 code c.args.position before (rw c.as_slice.ensures at (sym c.fit_in.ensures ∙ c.if-not-fit_in.false))

pub flow_by-requires-clause-within : goal.flow_by-requires-clause-within
flow_by-requires-clause-within c = rw c.as_slice-2.ensures at c.in-Ok.ensures.bounds.1

pub flow_by-requires-clause-entries : goal.flow_by-requires-clause-entries
flow_by-requires-clause-entries c =
    rw c.operation-operation.ensures (rw c.as_slice-2.ensures at (entries_fit c.as_slice-2.result.now c.in-Ok.instruction c.in-Ok.ensures.entries))

pub returns : goal.returns
returns c =
    let p = c.args.program.now in
    let m = c.args.method.0 in
    let code = c.args.code.now in
    let at = c.args.position in
    let before = plain c.args.before.now in
    let i = c.in-Ok.instruction in
    let there : instruction_at code.bytes at ≡ Some i =
    ap (λ (bytes : List ℕ). instruction_at bytes at) (sym c.as_slice-2.ensures) ∙ some_decoded _ _ i (sym c.decode.ensures.value ∙ c.in-Ok.is) in
    let same : flow_by p code at i.length c.operation-operation.result (row_of p m c.operation-operation.result) before ≡ flow_at p m code at before =
    ap (λ o. flow_by p code at i.length o (row_of p m o) before) c.operation-operation.ensures
    ∙ the_instruction p m code at i before there
    ∙ fits_before p m code at before (rw c.as_slice.ensures at (sym c.fit_in.ensures ∙ c.if-not-fit_in.false)) in
    IfOk-weaker c.flow_by.result _ _ (λ made h. h ∙ same) c.flow_by.ensures
