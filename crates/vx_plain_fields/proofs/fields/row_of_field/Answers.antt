use Rattle.std.proofs.Common.{sym}
use Rattle.vx_plain.specs.Views.{state_of}
use Rattle.vx_plain_fields.specs.Fields.{used}
use Rattle.vx_plain_here.proofs.Comes.{comes_as}
use Rattle.vx_plain_here.specs.Rows.{here_in}
use Rattle.vx_plain_fields.proofs.fields.row_of_field.Goals as goal

pub returns : goal.returns
returns c =
    let h = here_in c.args.seen.now.here (state_of c.args.state.now) in
    let decides = rw c.is_static_use.ensures at c.reference_of-reference.ensures in
    comes_as c.by_reference.result _ _ _ _ (sym (decides.decides h (used h c.args.as_what))) c.by_reference.ensures
