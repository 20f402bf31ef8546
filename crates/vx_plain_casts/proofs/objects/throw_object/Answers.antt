use Rattle.std.proofs.Common.{refl, sym}
use Rattle.vx_java.specs.Machine.{Throw}
use Rattle.vx_plain.specs.Views.{state_of}
use Rattle.vx_plain_here.proofs.Comes.{comes_as}
use Rattle.vx_plain_here.specs.Rows.{here_in}
use Rattle.vx_plain_casts.proofs.Laws.{null_raises, object_goes}
use Rattle.vx_plain_casts.proofs.objects.throw_object.Goals as goal

pub returns-in-Some : goal.returns-in-Some
returns-in-Some c = record { same = object_goes (here_in c.args.here.now (state_of c.args.state.now)) c.args.value c.in-Some.object (λ r. Throw r (state_of c.args.state.now)) (sym c.in-Some.ensures); stands = refl }

pub returns-in-None : goal.returns-in-None
returns-in-None c = comes_as c.raise.result _ _ _ _ (null_raises (here_in c.args.here.now (state_of c.args.state.now)) c.args.value (λ r. Throw r (state_of c.args.state.now)) (sym c.in-None.ensures)) c.raise.ensures
