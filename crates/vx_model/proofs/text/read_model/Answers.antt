use Rattle.std.proofs.Common.{refl}
use Rattle.vx_model.specs.Drafts.{drafted}
use Rattle.vx_model.proofs.Lawful.{model_lawful, model_names}
use Rattle.vx_model.proofs.Lines.{reads_more, reads_refuse, reads_done}
use Rattle.vx_model.proofs.text.read_model.Goals as goal

pub returns-in-Err-clause-exact : goal.returns-in-Err-clause-exact
returns-in-Err-clause-exact c =
    rw c.fault_at.ensures
    (reads_refuse c.args.bytes.now (drafted c.loop-line.draft) c.loop-line.rest.now c.in-Some.line.now c.in-Some.after.now c.loop-line.number c.in-Err.refusal
    c.loop-line.invariant c.in-Some.ensures.some (rw c.as_slice.ensures.value at c.in-Err.ensures))

pub loop-line-preserved : goal.loop-line-preserved
loop-line-preserved c =
    reads_more c.args.bytes.now (drafted c.loop-line.draft) (drafted c.add.new.self) c.loop-line.rest.now c.in-Some.line.now c.in-Some.after.now c.loop-line.number
    c.in-Ok.statement c.loop-line.invariant c.in-Some.ensures.some c.in-Some.ensures.shorter (rw c.as_slice.ensures.value at c.in-Ok.ensures) c.in_ok-add-in-Ok.ensures

pub returns-clause-exact : goal.returns-clause-exact
returns-clause-exact c =
    rw (c.of.ensures, c.of-2.ensures)
    (reads_done c.args.bytes.now (drafted c.loop-line.draft) c.loop-line.rest.now c.loop-line.number c.loop-line.invariant (c.in_default.ensures.none.0 refl))

pub returns-clause-lawful : goal.returns-clause-lawful
returns-clause-lawful c =
    rw (c.of.ensures, c.of-2.ensures)
    (model_lawful c.args.bytes.now (drafted c.loop-line.draft)
    (reads_done c.args.bytes.now (drafted c.loop-line.draft) c.loop-line.rest.now c.loop-line.number c.loop-line.invariant (c.in_default.ensures.none.0 refl)))

pub returns-clause-names : goal.returns-clause-names
returns-clause-names c =
    rw c.of.ensures
    (model_names c.args.bytes.now (drafted c.loop-line.draft)
    (reads_done c.args.bytes.now (drafted c.loop-line.draft) c.loop-line.rest.now c.loop-line.number c.loop-line.invariant (c.in_default.ensures.none.0 refl)))
