use Rattle.std.proofs.Common.{ap, drop}
use Rattle.vx_java.specs.Fields.{with_written}
use Rattle.vx_java.specs.Machine.{Frame, Go, Here, past}
use Rattle.vx_link.specs.Parts.{field_at}
use Rattle.vx_plain.specs.Views.{state_of, value_of}
use Rattle.vx_plain_fields.specs.Fields.{found_of}
use Rattle.vx_plain_here.proofs.Comes.{comes_as}
use Rattle.vx_plain_here.specs.Rows.{here_in}
use Rattle.vx_plain_ready.proofs.GoingOn.{went_on}
use Rattle.vx_plain_fields.proofs.storing.put_ready.Goals as goal

pub returns-in-Some : goal.returns-in-Some
returns-in-Some c =
    let h = here_in c.args.seen.now.here (state_of c.args.state.now) in
    let readied = rw (c.class_of_field-class.ensures, c.in-Some.is) at c.in_ok-made.ensures in
    readied (λ (g : Here). Go (past g (with_written g (found_of c.args.found) (value_of c.args.value)) (drop 1 h.state.top.operands)))

pub returns-in-None : goal.returns-in-None
returns-in-None c =
    let h = here_in c.args.seen.now.here (state_of c.args.state.now) in
    let s = state_of c.ready.new.state in
    let later = here_in c.args.seen.now.here s in
    let proceeds = rw (c.class_of_field-class.ensures, c.in-None.is) at c.in_ok-made.ensures in
    let stores = comes_as c.store_static.result _ _ _ _ (ap (λ (t : Frame). Go (past later (with_written later (found_of c.args.found) (value_of c.args.value)) (drop 1 t.operands))) proceeds.top) c.store_static.ensures in
    went_on c.store_static.result h (field_at h.program c.args.found.field.0).class.0 s _ (λ (g : Here). Go (past g (with_written g (found_of c.args.found) (value_of c.args.value)) (drop 1 h.state.top.operands))) proceeds stores
