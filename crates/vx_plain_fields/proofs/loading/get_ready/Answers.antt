use Rattle.std.proofs.Common.{◌∷◌}
use Rattle.vx_java.specs.Fields.{static_value}
use Rattle.vx_java.specs.Machine.{Here, go}
use Rattle.vx_link.specs.Parts.{field_at}
use Rattle.vx_plain.specs.Views.{state_of}
use Rattle.vx_plain_fields.specs.Fields.{found_of}
use Rattle.vx_plain_here.specs.Rows.{here_in}
use Rattle.vx_plain_ready.proofs.GoingOn.{went_on}
use Rattle.vx_plain_fields.proofs.loading.get_ready.Goals as goal

pub returns-in-Some : goal.returns-in-Some
returns-in-Some c =
    let readied = rw (c.class_of_field-class.ensures, c.in-Some.is) at c.in_ok-made.ensures in
    readied (λ (g : Here). go g (static_value g.state (found_of c.args.found) ∷ g.state.top.operands))

pub returns-in-None : goal.returns-in-None
returns-in-None c =
    let h = here_in c.args.seen.now.here (state_of c.args.state.now) in
    let proceeds = rw (c.class_of_field-class.ensures, c.in-None.is) at c.in_ok-made.ensures in
    went_on c.load_static.result h (field_at h.program c.args.found.field.0).class.0 (state_of c.ready.new.state) _ (λ (g : Here). go g (static_value g.state (found_of c.args.found) ∷ g.state.top.operands)) proceeds c.load_static.ensures
