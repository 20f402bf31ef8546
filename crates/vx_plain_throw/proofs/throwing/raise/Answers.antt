use Rattle.std.proofs.Common.{ap, ◌∙◌}
use Rattle.std.specs.Prelude.{option_map}
use Rattle.vx_java.specs.Machine.{with_objects}
use Rattle.vx_java.specs.Throwing.{exception_objects, next_after_throw}
use Rattle.vx_plain.specs.Views.{state_of}
use Rattle.vx_plain_here.specs.Rows.{places_of}
use Rattle.vx_plain_throw.proofs.Laws.{leads}
use Rattle.vx_plain_throw.proofs.throwing.raise.Goals as goal

pub returns : goal.returns
returns c =
    let p = c.args.program.now in
    let s = state_of c.args.state.now in
    let objects = exception_objects p s c.args.class.0 (option_map (λ units. units.items) c.args.message) in
    let made = c.in_ok-object.ensures in
    leads c.throw.result _ _ s (state_of c.exception.new.state) _
    (ap (λ moved. next_after_throw p moved c.in_ok-object.object) made.added ∙ ap (next_after_throw p (with_objects s objects)) made.place)
    (ap places_of made.added)
    c.throw.ensures
