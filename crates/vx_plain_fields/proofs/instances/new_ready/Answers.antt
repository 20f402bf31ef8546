use Rattle.vx_java.specs.FirstObjects.{new_object}
use Rattle.vx_java.specs.Machine.{Here, push_new}
use Rattle.vx_plain.specs.Views.{state_of}
use Rattle.vx_plain_here.specs.Rows.{here_in}
use Rattle.vx_plain_ready.proofs.GoingOn.{went_on}
use Rattle.vx_plain_fields.proofs.instances.new_ready.Goals as goal

pub returns-in-Some : goal.returns-in-Some
returns-in-Some c =
    let readied = rw c.in-Some.is at c.in_ok-made.ensures in
    readied (λ (g : Here). push_new g (new_object g.program c.args.class.0) g.state.top.operands)

pub returns-in-None : goal.returns-in-None
returns-in-None c =
    let h = here_in c.args.seen.now.here (state_of c.args.state.now) in
    let proceeds = rw c.in-None.is at c.in_ok-made.ensures in
    went_on c.put_object.result h c.args.class.0 (state_of c.ready.new.state) _ (λ (g : Here). push_new g (new_object g.program c.args.class.0) g.state.top.operands) proceeds c.put_object.ensures
