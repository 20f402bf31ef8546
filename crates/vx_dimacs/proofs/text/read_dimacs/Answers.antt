use Rattle.std.proofs.Common.{refl}
use Rattle.vx_dimacs.specs.Draft.{drafted}
use Rattle.vx_dimacs.proofs.Following.{reads_more, line_refuse, add_refuse, end_read, end_refuse}
use Rattle.vx_dimacs.proofs.Lawful.{dimacs_lawful, dimacs_names}
use Rattle.vx_dimacs.proofs.text.read_dimacs.Goals as goal

pub returns-in-Err-clause-exact : goal.returns-in-Err-clause-exact
returns-in-Err-clause-exact c =
    rw c.fault_at.ensures
    (line_refuse c.args.bytes.now c.unwrap_or-most.result (drafted c.loop-text.draft) c.loop-text.rest.now c.in-Some.text.now c.in-Some.after.now c.loop-text.number
    c.in-Err.refusal c.loop-text.invariant c.in-Some.ensures.some c.in-Err.ensures)

pub returns-in-Err-add-clause-exact : goal.returns-in-Err-add-clause-exact
returns-in-Err-add-clause-exact c =
    rw c.fault_at-in-Err-add.ensures
    (add_refuse c.args.bytes.now c.unwrap_or-most.result (drafted c.loop-text.draft) c.loop-text.rest.now c.in-Some.text.now c.in-Some.after.now c.loop-text.number
    c.in-Ok.line c.in-Err-add.refusal c.loop-text.invariant c.in-Some.ensures.some c.in-Ok.ensures c.in-Err-add.ensures)

pub loop-text-preserved : goal.loop-text-preserved
loop-text-preserved c =
    reads_more c.args.bytes.now c.unwrap_or-most.result (drafted c.loop-text.draft) (drafted c.add.new.self) c.loop-text.rest.now c.in-Some.text.now c.in-Some.after.now
    c.loop-text.number c.in-Ok.line c.loop-text.invariant c.in-Some.ensures.some c.in-Some.ensures.shorter c.in-Ok.ensures c.in_default-add.ensures

pub returns-in-Ok-end_of-clause-exact : goal.returns-in-Ok-end_of-clause-exact
returns-in-Ok-end_of-clause-exact c =
    end_read c.args.bytes.now c.unwrap_or-most.result (drafted c.loop-text.draft) c.loop-text.rest.now c.loop-text.number c.in-Ok-end_of.model c.loop-text.invariant
    (c.in_default.ensures.none.0 refl) c.in-Ok-end_of.ensures

pub returns-in-Err-end_of-clause-exact : goal.returns-in-Err-end_of-clause-exact
returns-in-Err-end_of-clause-exact c =
    rw c.fault_at-in-Err-end_of.ensures
    (end_refuse c.args.bytes.now c.unwrap_or-most.result (drafted c.loop-text.draft) c.loop-text.rest.now c.loop-text.number c.in-Err-end_of.refusal c.loop-text.invariant
    (c.in_default.ensures.none.0 refl) c.in-Err-end_of.ensures)

pub returns-in-Ok-end_of-clause-lawful : goal.returns-in-Ok-end_of-clause-lawful
returns-in-Ok-end_of-clause-lawful c =
    dimacs_lawful c.args.bytes.now c.in-Ok-end_of.model
    (end_read c.args.bytes.now c.unwrap_or-most.result (drafted c.loop-text.draft) c.loop-text.rest.now c.loop-text.number c.in-Ok-end_of.model c.loop-text.invariant
    (c.in_default.ensures.none.0 refl) c.in-Ok-end_of.ensures)

pub returns-in-Ok-end_of-clause-names : goal.returns-in-Ok-end_of-clause-names
returns-in-Ok-end_of-clause-names c =
    dimacs_names c.args.bytes.now c.in-Ok-end_of.model
    (end_read c.args.bytes.now c.unwrap_or-most.result (drafted c.loop-text.draft) c.loop-text.rest.now c.loop-text.number c.in-Ok-end_of.model c.loop-text.invariant
    (c.in_default.ensures.none.0 refl) c.in-Ok-end_of.ensures)
